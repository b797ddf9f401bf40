use Rattle.std.proofs.Common.{◌≡◌, length}
use Rattle.call_meaning.specs.Devices.{store}
use Rattle.call_streams.proofs.SetFillings.{AreFilling}
use Rattle.call_streams.proofs.sets.fetch_all_files.Given as goal

abbrev pub invariant-loop-set : goal.invariant-loop-set
invariant-loop-set g l = record {
  end : l.set-index-end ≡ length l.fn.sets.items;
  filling : AreFilling l.fn.sets.items l.set-index l.set-items l.size l.fn.found.items l.found.items
      (store (g.F.Shelf.files l.fn.shelf) (g.F.Shelf.faults l.fn.shelf) (g.F.Shelf.wants l.fn.shelf)) (store (g.F.Shelf.files l.shelf) (g.F.Shelf.faults l.shelf) (g.F.Shelf.wants l.shelf));
}
