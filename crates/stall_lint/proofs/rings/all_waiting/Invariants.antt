-- The links so far wait.
use Rattle.stall_lint.specs.LooksBack.{AllWait}
use Rattle.stall_lint.proofs.rings.all_waiting.Given as goal

abbrev pub invariant-loop-number : goal.invariant-loop-number
invariant-loop-number l = AllWait l.net l.number l.waiting.items
