use Rattle.std.proofs.Common.{length}
use Rattle.argument_parts.proofs.WholeDigits.{ArePassedZeros}
use Rattle.argument_parts.proofs.whole_numbers.without_zeros.Given as goal

abbrev pub invariant-loop-rest : goal.invariant-loop-rest
invariant-loop-rest l = ArePassedZeros l.fn.digits l.rest

abbrev pub decreases-loop-rest : goal.decreases-loop-rest
decreases-loop-rest l = length l.rest
