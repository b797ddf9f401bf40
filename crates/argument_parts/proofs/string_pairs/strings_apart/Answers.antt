use Rattle.std.proofs.Common.{◌≡◌, get_or, arith, inl, inr, refl, rules}
use Rattle.std.proofs.lemmas.Result.{err_from_is_err_and}
use Rattle.argument_parts.proofs.BadHex.{bad_hex}
use Rattle.argument_parts.proofs.HexDigits.{decoded_word}
use Rattle.argument_parts.proofs.PairFronts.{second_misfit, second_read}
use Rattle.argument_parts.proofs.Wanting.{wants_always, wants_for}
use Rattle.argument_parts.specs.Strings.{IsHexadecimalWord}
use Rattle.argument_parts.proofs.string_pairs.strings_apart.Goals as goal

pub returns-then-text-eq120-clause-refused : goal.returns-then-text-eq120-clause-refused
returns-then-text-eq120-clause-refused c =
    let begins : get_or c.args.text.now 0 0 ≡ 120 = search rules in
    rw c.at.ensures (inr (inl (bad_hex c.args.text.now _ _ c.first_word.ensures c.in_default.ensures begins, refl)))

pub returns-in_err-second-clause-refused : goal.returns-in_err-second-clause-refused
returns-in_err-second-clause-refused c =
    let read = c.in-Some.ensures in
    let first : IsHexadecimalWord c.args.text.now read.0 c.first_word.result.1.now = record { word = c.first_word.result.0.now; first = c.first_word.ensures; worth = read.1 } in
    let p = err_from_is_err_and c.from_residual.result c.from_residual.ensures.1 in
    rw (p.1, p.2) (second_misfit c.args.text.now read.0 _ first _ c.without_blanks-front.ensures (grind (arith, c.is_empty.ensures, c.if-is_empty.false)) c.in_err-second.field-0.0 c.in_err-second.ensures.refused)

pub returns-in_err-second-clause-memory : goal.returns-in_err-second-clause-memory
returns-in_err-second-clause-memory c =
    let read = c.in-Some.ensures in
    let first : IsHexadecimalWord c.args.text.now read.0 c.first_word.result.1.now = record { word = c.first_word.result.0.now; first = c.first_word.ensures; worth = read.1 } in
    let p = err_from_is_err_and c.from_residual.result c.from_residual.ensures.1 in
    rw (p.1, p.2) (wants_for _ _ (λ found. (read.0, found.0, found.1, inr (record { front = c.without_blanks-front.result.now; before = record { after = _; hexadecimal = first; unblanked = c.without_blanks-front.ensures }; string = found.2 })))
    c.in_err-second.field-0.0 c.in_err-second.ensures.memory)

pub returns-in_err-decoded-in-Some-2-clause-memory : goal.returns-in_err-decoded-in-Some-2-clause-memory
returns-in_err-decoded-in-Some-2-clause-memory c =
    let read = c.in-Some.ensures in
    let first : IsHexadecimalWord c.args.text.now read.0 c.first_word.result.1.now = record { word = c.first_word.result.0.now; first = c.first_word.ensures; worth = read.1 } in
    wants_always _ (_, _, _, second_read c.args.text.now read.0 _ first _ c.without_blanks-front.ensures c.in-Some-2.second.string c.in-Some-2.second.len (rw c.in-Some-2.is at c.in_ok-second.ensures.read)) c.from_residual-in_err-decoded-in-Some-2.result

pub returns-in_ok-decoded-in-Some-2-clause-read : goal.returns-in_ok-decoded-in-Some-2-clause-read
returns-in_ok-decoded-in-Some-2-clause-read c =
    let worth = decoded_word _ _ c.in_ok-decoded-in-Some-2.field-0 c.in-Some.ensures c.in_ok-decoded-in-Some-2.ensures in
    let first : IsHexadecimalWord c.args.text.now c.in_ok-decoded-in-Some-2.field-0 c.first_word.result.1.now = record { word = c.first_word.result.0.now; first = c.first_word.ensures; worth = worth } in
    second_read c.args.text.now c.in_ok-decoded-in-Some-2.field-0 _ first _ c.without_blanks-front.ensures c.in-Some-2.second.string c.in-Some-2.second.len (rw c.in-Some-2.is at c.in_ok-second.ensures.read)
