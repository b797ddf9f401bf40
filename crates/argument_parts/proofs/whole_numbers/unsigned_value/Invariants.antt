use Rattle.std.proofs.Common.{drop}
use Rattle.argument_parts.proofs.WholeDigits.{AreRead}
use Rattle.argument_parts.proofs.whole_numbers.unsigned_value.Given as goal

abbrev pub invariant-loop-digit : goal.invariant-loop-digit
invariant-loop-digit l = AreRead l.digits (drop l.digit-index l.digits) l.digit-index l.value
