use Rattle.std.proofs.Common.{length}
use Rattle.argument_parts.proofs.Numerals.{ReadDigits}
use Rattle.argument_parts.proofs.digits.number.Given as goal

abbrev pub invariant-loop-left : goal.invariant-loop-left
invariant-loop-left l = ReadDigits l.fn.word l.left l.value

abbrev pub decreases-loop-left : goal.decreases-loop-left
decreases-loop-left l = length l.left
