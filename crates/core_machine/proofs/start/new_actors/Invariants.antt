-- The actors so far, with new ones of the coroutines to come, are new ones of all.
use Rattle.std.proofs.Common.{List, ◌++◌}
use Rattle.std.specs.Vec.Iter.{into_iter_items}
use Rattle.core_machine.specs.declared.actor.Actor.{Actor}
use Rattle.core_machine.specs.Start.{AreNew}
use Rattle.core_machine.proofs.start.new_actors.Given as goal

abbrev pub invariant-loop-stage : goal.invariant-loop-stage
invariant-loop-stage g l = (more : List (Actor g.row.S.Denot)) → AreNew g.S.Stage.stands (into_iter_items l.stage-iterator) more → AreNew g.S.Stage.stands (into_iter_items l.initial.stage-iterator) (l.actors.items ++ more)
