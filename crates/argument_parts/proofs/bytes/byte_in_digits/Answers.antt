use Rattle.std.proofs.Common.{◌≡◌, get_or, inl, refl, rules}
use Rattle.argument_parts.proofs.BadHex.{bad_hex}
use Rattle.argument_parts.proofs.OneBytes.{digits_long}
use Rattle.argument_parts.proofs.bytes.byte_in_digits.Goals as goal

pub returns-in-None-byte_of-clause-refused : goal.returns-in-None-byte_of-clause-refused
returns-in-None-byte_of-clause-refused c = rw c.fault_at.ensures (digits_long c.args.text.now _ _ c.in-Some.digits.now c.first_word.ensures c.in-Some.ensures c.in-None-byte_of.ensures)

pub returns-in-None-clause-refused : goal.returns-in-None-clause-refused
returns-in-None-clause-refused c =
    let begins : get_or c.args.text.now 0 0 ≡ 120 = search rules in
    rw c.fault_at-in-None.ensures (inl (refl, bad_hex c.args.text.now _ _ c.first_word.ensures c.in-None.ensures begins))
