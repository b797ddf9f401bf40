use Rattle.argument_parts.proofs.Spellings.{no_number, no_ending}
use Rattle.argument_parts.proofs.ranges.read_spelling.Goals as goal

pub returns-in_err-number : goal.returns-in_err-number
returns-in_err-number c = rw c.from_residual.ensures (no_number _ _ _ c.first_digits.ensures c.in_err-number.ensures)

pub returns-in_err-read_ending : goal.returns-in_err-read_ending
returns-in_err-read_ending c = rw c.from_residual-in_err-read_ending.ensures (no_ending _ _ _ c.first_digits.ensures c.in_err-read_ending.ensures)
