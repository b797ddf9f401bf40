-- The pool counts what is left to give back.
use Rattle.std.proofs.Common.{[], length}
use Rattle.run_desk.specs.Holding.{IsPooled}
use Rattle.run_desk.proofs.records.give_all.Given as goal

abbrev pub invariant-loop-wire : goal.invariant-loop-wire
invariant-loop-wire l = IsPooled l.wires.items l.sights.items l.pool

abbrev pub decreases-loop-wire : goal.decreases-loop-wire
decreases-loop-wire l = length l.wires.items

abbrev pub invariant-loop-sight : goal.invariant-loop-sight
invariant-loop-sight l = IsPooled [] l.sights.items l.pool

abbrev pub decreases-loop-sight : goal.decreases-loop-sight
decreases-loop-sight l = length l.sights.items
