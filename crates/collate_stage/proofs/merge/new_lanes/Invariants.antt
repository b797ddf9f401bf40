use Rattle.collate_stage.specs.Merging.{AreNew}
use Rattle.collate_stage.proofs.merge.new_lanes.Given as goal

abbrev pub invariant-loop : goal.invariant-loop
invariant-loop l = AreNew l.lanes.items l.counter
