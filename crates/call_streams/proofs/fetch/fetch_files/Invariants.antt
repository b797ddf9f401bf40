use Rattle.std.proofs.Common.{◌≡◌, length}
use Rattle.pipe_model.specs.WellFormed.{IsWellFormed}
use Rattle.call_meaning.specs.Devices.{store}
use Rattle.call_streams.proofs.Fetches.{IsFilling}
use Rattle.call_streams.proofs.fetch.fetch_files.Given as goal

abbrev pub invariant-loop-strand : goal.invariant-loop-strand
invariant-loop-strand g l = record {
  end : l.strand-end ≡ length l.fn.net.strands;
  filling : IsFilling l.fn.net l.strand l.net l.fn.before l.size l.fn.found.items l.found.items
      (store (g.F.Shelf.files l.fn.shelf) (g.F.Shelf.faults l.fn.shelf) (g.F.Shelf.wants l.fn.shelf)) (store (g.F.Shelf.files l.shelf) (g.F.Shelf.faults l.shelf) (g.F.Shelf.wants l.shelf));
  whole : IsWellFormed l.net;
}
