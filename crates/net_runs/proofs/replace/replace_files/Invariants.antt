use Rattle.std.proofs.Common.{◌≡◌, ◌++◌, List, map}
use Rattle.std.specs.Vec.Iter.{into_iter_items}
use Rattle.net_runs.specs.declared.replace.Put.{Put}
use Rattle.call_meaning.specs.Effects.{AreReplaced}
use Rattle.net_runs.specs.Puts.{put_text}
use Rattle.net_runs.proofs.replace.replace_files.Given as goal

abbrev pub invariant-loop-put : goal.invariant-loop-put
invariant-loop-put g l = record {
  replaced : (done : List Put) × (done ++ into_iter_items l.put-iterator ≡ into_iter_items l.initial.put-iterator)
      × AreReplaced (map (put_text l.core) done) (g.F.Shelf.files l.fn.shelf) (g.F.Shelf.files l.shelf);
  steady : g.F.Shelf.faults l.shelf ≡ g.F.Shelf.faults l.fn.shelf;
  wants : g.F.Shelf.wants l.shelf ≡ g.F.Shelf.wants l.fn.shelf;
}
