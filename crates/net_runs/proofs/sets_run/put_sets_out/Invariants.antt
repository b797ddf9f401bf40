use Rattle.std.specs.Vec.Iter.{into_iter_items}
use Rattle.outside.specs.Device.{device}
use Rattle.call_meaning.specs.Devices.{store}
use Rattle.net_runs.proofs.SetPuts.{HasReplaced, HasWritten}
use Rattle.net_runs.proofs.sets_run.put_sets_out.Given as goal

abbrev pub invariant-loop-ended : goal.invariant-loop-ended
invariant-loop-ended g l = HasWritten l.ended-index l.ended-items (device (g.O.Sink.written l.fn.output) (g.O.Sink.faults l.fn.output)) (device (g.O.Sink.written l.output) (g.O.Sink.faults l.output))

abbrev pub invariant-loop-ended-2 : goal.invariant-loop-ended-2
invariant-loop-ended-2 g l =
    HasReplaced (into_iter_items l.initial.ended-iterator) (into_iter_items l.ended-iterator)
    (store (g.F.Shelf.files l.fn.shelf) (g.F.Shelf.faults l.fn.shelf) (g.F.Shelf.wants l.fn.shelf)) (store (g.F.Shelf.files l.shelf) (g.F.Shelf.faults l.shelf) (g.F.Shelf.wants l.shelf))
