-- The links so far are marked.
use Rattle.stall_lint.specs.WalksBack.{AreMarkedLinks}
use Rattle.stall_lint.proofs.inner.marks.Given as goal

abbrev pub invariant-loop-link : goal.invariant-loop-link
invariant-loop-link l = AreMarkedLinks l.net l.passed l.link-index l.inner.items
