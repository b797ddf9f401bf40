use Rattle.std.proofs.Common.{arith, sym, ◌∙◌}
use Rattle.std.proofs.lemmas.List.Elements.{All-more}
use Rattle.argument_parts.proofs.Letters.{IsOther}
use Rattle.argument_parts.proofs.digits.first_others.Goals as goal

pub loop-at-preserved : goal.loop-at-preserved
loop-at-preserved c =
    (omega arith, All-more IsOther c.args.word.now c.loop-at.at 0 (omega arith) c.loop-at.invariant.1 (sym c.is_ascii_digit.ensures.value ∙ c.if-not-is_ascii_digit.true))
