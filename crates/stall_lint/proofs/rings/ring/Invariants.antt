-- It was looked back from the strands so far.
use Rattle.stall_lint.proofs.LookingBack.{AreLooked}
use Rattle.stall_lint.proofs.rings.ring.Given as goal

abbrev pub invariant-loop-start : goal.invariant-loop-start
invariant-loop-start l = AreLooked l.net l.start l.waiting.items l.looks.items
