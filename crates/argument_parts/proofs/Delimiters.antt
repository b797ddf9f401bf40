-- Where a delimiter stands a second time.
use Rattle.std.proofs.Common.{◌≡◌, ◌≢◌, ℕ, suc, ◌+◌, ◌-◌, ◌<◌, ◌≤◌, true, false, List, [], ◌∷◌, ◌++◌, length, take, drop, get_or, refl, sym, ap, ◌∙◌, arith, subst, length-append, None, Some, inl, ne_eqb, eq-eqb}
use borrow.Author.Tests.{eqb-true}
use Rattle.std.specs.Char.{is_ascii_alphanumeric}
use Rattle.std.specs.List.{Contains}
use Rattle.std.proofs.Math.Seq.{split_at}
use Rattle.std.proofs.lemmas.List.{append_assoc, take_rest, get_or_at, get_or_default, get_or-take, length-take}
use Rattle.bstr.specs.Find.{IsFirstByte, is_byte}
use Rattle.pipe_model.proofs.Cuts.{tail_of}
use Rattle.argument_parts.proofs.Passed.{rest_left}
use Rattle.argument_parts.specs.Strings.{IsDelimited, IsString, IsUnclosed, is_delimiter}

-- a byte that is none of the others is a delimiter
pub delimiter_from : (byte : ℕ) → byte ≢ 32 → is_ascii_alphanumeric byte ≡ false → is_delimiter byte ≡ true
delimiter_from byte other sign = rw (ne_eqb byte 32 other, sign) refl

-- a text that begins with neither a blank nor a letter or digit begins with a delimiter
pub delimiter_begins : (text : List ℕ) → get_or text 0 32 ≢ 32 → is_ascii_alphanumeric (get_or text 0 0) ≡ false → is_delimiter (get_or text 0 32) ≡ true
delimiter_begins [] begins sign = absurd (begins refl)
delimiter_begins (byte ∷ text) begins sign = delimiter_from byte begins sign

-- a byte that is nowhere doesn't stand after others
pub nowhere_after : (after string rest : List ℕ) (byte : ℕ) → IsFirstByte (is_byte byte) after None → after ≢ string ++ byte ∷ rest
nowhere_after after string rest byte nowhere is =
    let long : length string < length after = omega (arith, ap length is, length-append string (byte ∷ rest)) in
    let stands : get_or after (length string) 0 ≡ byte = ap (λ bytes. get_or bytes (length string) 0) is ∙ get_or_at string byte rest 0 (length string) refl in
    nowhere (length string) (omega arith) long (eq-eqb (get_or after (length string) 0) byte stands)

-- a byte that is nowhere isn't contained
pub not_nowhere : (after : List ℕ) (byte : ℕ) → IsFirstByte (is_byte byte) after None → ¬ Contains after byte
not_nowhere after byte nowhere = λ found.
    let stands : get_or after found.0 0 ≡ byte = sym (get_or_default after found.0 byte 0 found.1) ∙ found.2 in
    nowhere found.0 (omega arith) found.1 (eq-eqb (get_or after found.0 0) byte stands)

-- a byte doesn't stand before its first place
pub not_before : (after : List ℕ) (byte at : ℕ) → IsFirstByte (is_byte byte) after (Some at) → ¬ Contains (take at after) byte
not_before after byte at first = λ found.
    let high = first.0.high in
    let below : found.0 < at = omega (arith, found.1, length-take at after) in
    let within : found.0 < length after = omega arith in
    let stands : get_or after found.0 0 ≡ byte = sym (get_or_default after found.0 byte 0 within) ∙ sym (get_or-take at after found.0 byte below) ∙ found.2 in
    first.0.before found.0 (omega arith) below (eq-eqb (get_or after found.0 0) byte stands)

-- without a second delimiter there is no string
pub no_second : (text string rest : List ℕ) → 1 ≤ length text → IsFirstByte (is_byte (get_or text 0 0)) (take (length text - 1) (drop 1 text)) None → ¬ IsDelimited text string rest
no_second [] string rest some nowhere = absurd (omega arith)
no_second (byte ∷ after) string rest some nowhere = λ delimited.
    let open_after : IsFirstByte (is_byte byte) after None = subst (λ bytes. IsFirstByte (is_byte byte) bytes None) (take_rest (byte ∷ after) 1) nowhere in
    let spells = delimited.spells in
    let tails : after ≡ string ++ byte ∷ rest = cc in
    nowhere_after after string rest byte open_after tails

-- where the delimiter stands a second time, the string and the rest are around it
pub second_at : (text : List ℕ) (at : ℕ) → 1 ≤ length text → is_delimiter (get_or text 0 0) ≡ true → (after : List ℕ) → after ≡ take (length text - 1) (drop 1 text)
    → IsFirstByte (is_byte (get_or text 0 0)) after (Some at) → IsDelimited text (take at after) (take (length after - (at + 1)) (drop (at + 1) after))
second_at [] at some chosen after is first = absurd (omega arith)
second_at (byte ∷ bytes) at some chosen after is first =
    let same : after ≡ bytes = is ∙ take_rest (byte ∷ bytes) 1 in
    let high = first.0.high in
    let next : suc at ≡ at + 1 = omega arith in
    let stands : get_or after at 0 ≡ byte = eqb-true (get_or after at 0) byte first.1 in
    record {
      delimiter = byte;
      chosen = chosen;
      whole = not_before after byte at first;
      spells = ap (λ b. byte ∷ b) (sym same ∙ split_at after at 0 high ∙ ap (λ b. take at after ++ b ∷ drop (suc at) after) stands ∙ ap (λ n. take at after ++ byte ∷ drop n after) next ∙ ap (λ b. take at after ++ byte ∷ b) (sym (tail_of after (at + 1))));
    }

-- a delimiter without a second one is unclosed
pub unclosed_at : (text : List ℕ) → 1 ≤ length text → IsFirstByte (is_byte (get_or text 0 0)) (take (length text - 1) (drop 1 text)) None
    → is_delimiter (get_or text 0 32) ≡ true → IsUnclosed text
unclosed_at [] some nowhere chosen = absurd (omega arith)
unclosed_at (byte ∷ after) some nowhere chosen = record {
  delimiter = byte;
  after = after;
  chosen = chosen;
  alone = not_nowhere after byte (subst (λ bytes. IsFirstByte (is_byte byte) bytes None) (take_rest (byte ∷ after) 1) nowhere);
  spells = refl;
}

-- the rest after a string is what is left after as many bytes as spell it
pub rest_after : (text string rest : List ℕ) → IsDelimited text string rest → drop (length text - length rest) text ≡ rest
rest_after text string rest delimited =
    rest_left text (delimited.delimiter ∷ string ++ delimited.delimiter ∷ []) rest (delimited.spells ∙ ap (λ b. delimited.delimiter ∷ b) (sym (append_assoc string (delimited.delimiter ∷ []) rest)))

-- a delimited string that isn't empty was read
pub delimited_read : (text string rest : List ℕ) → IsDelimited text string rest → 0 < length string → IsString text string (drop (length text - length rest) text)
delimited_read text string rest delimited filled = inl (rw (rest_after text string rest delimited) delimited, filled)
