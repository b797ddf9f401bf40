use Rattle.std.proofs.Common.{arith, refl}
use Rattle.argument_parts.proofs.BadHex.{bad_hex}
use Rattle.argument_parts.proofs.text.hexadecimal_word.Goals as goal

pub returns-in-None-clause-refused : goal.returns-in-None-clause-refused
returns-in-None-clause-refused c = rw c.at.ensures (bad_hex c.args.text.now _ _ c.first_word.ensures (rw c.in-None.is at c.in_ok-string.ensures.read) (omega arith), refl)
