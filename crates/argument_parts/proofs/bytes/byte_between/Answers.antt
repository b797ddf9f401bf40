use Rattle.std.proofs.Common.{◌≡◌, length, arith}
use Rattle.argument_parts.proofs.OneBytes.{between_read}
use Rattle.argument_parts.proofs.bytes.byte_between.Goals as goal

pub returns-clause-read : goal.returns-clause-read
returns-clause-read c =
    let one : length c.in-Some.string.now ≡ 1 = grind (arith, c.is_empty.ensures, c.if-is_empty.false, c.if-string-gt1.false) in
    between_read c.args.text.now c.in-Some.string.now c.in-Some.rest.now c.in-Some.ensures.cases one
