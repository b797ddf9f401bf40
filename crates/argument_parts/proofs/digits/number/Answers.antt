use Rattle.std.proofs.Common.{arith, sym, ◌∙◌}
use Rattle.argument_parts.proofs.Numerals.{one_digit_more}
use Rattle.argument_parts.proofs.digits.number.Goals as goal

pub loop-left-preserved : goal.loop-left-preserved
loop-left-preserved c =
    one_digit_more c.args.word.now c.loop-left.left.now c.loop-left.value c.from.result c.loop-left.invariant (omega arith) (sym c.is_ascii_digit.ensures.value ∙ c.if-not-is_ascii_digit.false) c.from.ensures
