-- The walks back from the links so far are marked.
use Rattle.stall_lint.specs.WalksBack.{ArePassed}
use Rattle.stall_lint.proofs.inner.passed.Given as goal

abbrev pub invariant-loop-link : goal.invariant-loop-link
invariant-loop-link l = ArePassed l.net l.nexts l.link-index l.passed.items
