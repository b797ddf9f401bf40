use Rattle.stall_lint.proofs.Circuits.{IsPassing}
use Rattle.stall_lint.proofs.rounds.round.Given as goal

abbrev pub invariant-loop-k : goal.invariant-loop-k
invariant-loop-k l = IsPassing l.hops l.k l.walk.items
