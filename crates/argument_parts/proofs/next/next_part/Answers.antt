use Rattle.std.proofs.Common.{arith}
use Rattle.argument_parts.proofs.Choices.{next_read}
use Rattle.argument_parts.proofs.next.next_part.Goals as goal

pub returns-clause-read : goal.returns-clause-read
returns-clause-read c =
    next_read c.args.parts.now c.args.text.now _ _ _ c.without_blanks-front.ensures (grind (arith, c.is_empty.ensures, c.if-is_empty.false)) c.in_ok-taken.ensures.read
