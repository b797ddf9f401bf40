-- The links so far that are inner join strands of one label.
use Rattle.stall_lint.proofs.Uniting.{AreUnited}
use Rattle.stall_lint.proofs.labels.labels.Given as goal

abbrev pub invariant-loop-number : goal.invariant-loop-number
invariant-loop-number l = AreUnited l.net l.inner l.number l.labels.items
