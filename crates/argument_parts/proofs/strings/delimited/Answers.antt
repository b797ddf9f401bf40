use Rattle.std.proofs.Common.{arith, refl, sym, ◌∙◌, get_or}
use Rattle.argument_parts.proofs.Delimiters.{delimiter_from, no_second, second_at, unclosed_at}
use Rattle.argument_parts.proofs.strings.delimited.Goals as goal

pub returns-in_err-at-clause-cases : goal.returns-in_err-at-clause-cases
returns-in_err-at-clause-cases c = rw c.from_residual.ensures (λ string rest. no_second c.args.text.now string rest c.in-len1-up.len_at_least c.in_err-at.ensures)

pub returns-clause-cases : goal.returns-clause-cases
returns-clause-cases c =
    second_at c.args.text.now c.in_ok-at.at c.in-len1-up.len_at_least (delimiter_from (get_or c.args.text.now 0 0) (omega arith) (sym c.is_ascii_alphanumeric.ensures.value ∙ c.if-is_ascii_alphanumeric.false)) _ refl c.in_ok-at.ensures

pub returns-in_err-at-clause-unclosed : goal.returns-in_err-at-clause-unclosed
returns-in_err-at-clause-unclosed c = rw c.from_residual.ensures (unclosed_at c.args.text.now c.in-len1-up.len_at_least c.in_err-at.ensures)
