-- The search goes on, and there is less left to do.
use Rattle.stall_lint.specs.LooksBack.{IsLooking, work}
use Rattle.stall_lint.proofs.rings.look_back.Given as goal

abbrev pub invariant-loop-last : goal.invariant-loop-last
invariant-loop-last l = IsLooking l.net l.start l.fn.looks l.waiting l.looks l.way.items

abbrev pub decreases-loop-last : goal.decreases-loop-last
decreases-loop-last l = work l.waiting l.looks
