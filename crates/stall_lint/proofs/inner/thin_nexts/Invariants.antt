-- Walks go on over the links so far.
use Rattle.stall_lint.proofs.ThinNexts.{AreLed}
use Rattle.stall_lint.proofs.inner.thin_nexts.Given as goal

abbrev pub invariant-loop-link : goal.invariant-loop-link
invariant-loop-link l = AreLed l.net l.link-index l.nexts.items
