-- None waits so far.
use Rattle.std.proofs.Common.{◌≡◌, [], replicate}
use Rattle.stall_lint.proofs.rings.none_waiting.Given as goal

abbrev pub invariant-loop : goal.invariant-loop
invariant-loop l = l.waiting.items ≡ replicate l.counter []
