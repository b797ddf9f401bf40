use Rattle.std.proofs.Common.{arith}
use Rattle.argument_parts.proofs.Delimiters.{delimited_read}
use Rattle.argument_parts.proofs.text.between_delimiters.Goals as goal

pub returns-clause-read : goal.returns-clause-read
returns-clause-read c = rw c.in_ok-from_slice.ensures (delimited_read _ _ _ c.in-Some.ensures.cases (grind (arith, c.is_empty.ensures, c.if-is_empty.false)))
