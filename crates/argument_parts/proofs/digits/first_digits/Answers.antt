use Rattle.std.proofs.Common.{arith, sym, ◌∙◌}
use Rattle.argument_parts.proofs.Spellings.{front_digits_more}
use Rattle.argument_parts.proofs.digits.first_digits.Goals as goal

pub loop-at-preserved : goal.loop-at-preserved
loop-at-preserved c =
    (omega arith, front_digits_more c.args.word.now c.loop-at.at (omega arith) c.loop-at.invariant.1 (sym c.is_ascii_digit.ensures.value ∙ c.if-is_ascii_digit.true))
