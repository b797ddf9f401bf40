use Rattle.std.proofs.Common.{◌≡◌, get_or, rules}
use Rattle.argument_parts.proofs.HexDigits.{digits_of, of_digits, x_first}
use Rattle.argument_parts.proofs.strings.hexadecimal_digits.Goals as goal

pub returns-then-are_pairs : goal.returns-then-are_pairs
returns-then-are_pairs c =
    let begins : get_or c.args.word.now 0 0 ≡ 120 = search rules in
    let are = c.are_pairs.ensures.0 c.if-are_pairs.true in
    of_digits c.args.word.now _ (x_first c.args.word.now c.in-120.len_at_least begins) are.0 are.1 are.2

pub returns-else-are_pairs : goal.returns-else-are_pairs
returns-else-are_pairs c = λ string is.
    let begins : get_or c.args.word.now 0 0 ≡ 120 = search rules in
    let yes = c.are_pairs.ensures.1 (digits_of c.args.word.now _ string (x_first c.args.word.now c.in-120.len_at_least begins) is) in
    let no = c.if-are_pairs.false in
    cc
