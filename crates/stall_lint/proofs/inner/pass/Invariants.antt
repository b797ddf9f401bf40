-- The walk so far is marked.
use Rattle.stall_lint.proofs.Passing.{IsPassing}
use Rattle.stall_lint.proofs.inner.pass.Given as goal

abbrev pub invariant-loop : goal.invariant-loop
invariant-loop l = IsPassing l.nexts l.start l.fork l.counter l.at l.initial.passed l.passed
