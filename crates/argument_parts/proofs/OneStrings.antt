-- A text begins with one string, or has one fault of a string.
use Rattle.std.proofs.Common.{◌≡◌, ℕ, List, [], ◌∷◌, ◌++◌, get_or, refl, sym, ap, ◌∙◌, arith, subst, inl, inr}
use Rattle.std.specs.List.{Contains}
use Rattle.std.proofs.lemmas.List.Elements.{Contains-append_right}
use Rattle.hex.specs.Hex.{decode_of}
use Rattle.pipe_model.proofs.FirstWords.{same_rest, same_word}
use Rattle.argument_parts.proofs.Outcomes.{delimited_front, hexadecimal_front, no_front, not_unclosed}
use Rattle.argument_parts.specs.Parts.{IsOfStrings}
use Rattle.argument_parts.specs.Strings.{IsDelimited, IsHexadecimalWord, IsNoString, IsString}
use Rattle.argument_parts.specs.declared.fault.FaultKind.{FaultKind}
use Rattle.argument_parts.specs.declared.fault.FaultKind.TheVariants.{Unclosed, EmptyString, BadHex}

-- what stands before the first of a byte is determined, and what stands after it
pub one_until : (byte : ℕ) (string other rest after : List ℕ) → ¬ Contains string byte → ¬ Contains other byte → string ++ byte ∷ rest ≡ other ++ byte ∷ after → (string ≡ other) × (rest ≡ after)
one_until byte [] [] rest after whole whole_other same =
    let tails : rest ≡ after = cc in
    (refl, tails)
one_until byte [] (b ∷ other) rest after whole whole_other same =
    let stands : b ≡ byte = cc in
    absurd (whole_other (0, omega arith, stands))
one_until byte (a ∷ string) [] rest after whole whole_other same =
    let stands : a ≡ byte = cc in
    absurd (whole (0, omega arith, stands))
one_until byte (a ∷ string) (b ∷ other) rest after whole whole_other same =
    let tails : string ++ byte ∷ rest ≡ other ++ byte ∷ after = cc in
    let heads : a ≡ b = cc in
    let more = one_until byte string other rest after (λ found. whole (Contains-append_right (a ∷ []) string byte found)) (λ found. whole_other (Contains-append_right (b ∷ []) other byte found)) tails in
    let fronts = more.0 in
    (cc, more.1)

module _ (text : List ℕ) where
  -- a text is one delimited string and the rest
  pub one_delimited : (string other rest after : List ℕ) → IsDelimited text string rest → IsDelimited text other after → (string ≡ other) × (rest ≡ after)
  one_delimited string other rest after first second =
      let both = sym first.spells ∙ second.spells in
      let byte : first.delimiter ≡ second.delimiter = cc in
      let tails : string ++ first.delimiter ∷ rest ≡ other ++ first.delimiter ∷ after = cc in
      one_until first.delimiter string other rest after first.whole (subst (λ b. ¬ Contains other b) (sym byte) second.whole) tails

  -- a text has one hexadecimal word
  pub one_hexadecimal : (string other rest after : List ℕ) → IsHexadecimalWord text string rest → IsHexadecimalWord text other after → (string ≡ other) × (rest ≡ after)
  one_hexadecimal string other rest after first second =
      let words : first.word ≡ second.word = same_word text first.word rest second.word after first.first second.first in
      let spelled = sym first.worth.spells ∙ words ∙ second.worth.spells in
      let digits : first.worth.digits ≡ second.worth.digits = cc in
      let worth = sym first.worth.worth ∙ ap decode_of digits ∙ second.worth.worth in
      let strings : string ≡ other = cc in
      (strings, same_rest text first.word rest second.word after first.first second.first)

  -- a delimited string is no hexadecimal word
  pub not_hexadecimal : (string other rest after : List ℕ) → IsDelimited text string rest → ¬ IsHexadecimalWord text other after
  not_hexadecimal string other rest after delimited hexadecimal =
      no_front text delimited.delimiter 120 (delimited_front text string rest delimited) delimited.chosen (hexadecimal_front text other after hexadecimal) refl

  pub one_string : (string other rest after : List ℕ) → IsString text string rest → IsString text other after → (string ≡ other) × (rest ≡ after)
  one_string string other rest after (inl first) (inl second) = one_delimited string other rest after first.0 second.0
  one_string string other rest after (inl first) (inr second) = absurd (not_hexadecimal string other rest after first.0 second)
  one_string string other rest after (inr first) (inl second) = absurd (not_hexadecimal other string after rest second.0 first)
  one_string string other rest after (inr first) (inr second) = one_hexadecimal string other rest after first second

  -- a fault of a text with a delimiter in front, and one of another, exclude each other
  not_unclosed_and_empty : IsNoString text Unclosed → ¬ IsNoString text EmptyString
  not_unclosed_and_empty unclosed empty = not_unclosed text [] empty.0 empty.1 unclosed

  pub not_unclosed_and_hex : IsNoString text Unclosed → ¬ IsNoString text BadHex
  not_unclosed_and_hex unclosed bad = no_front text unclosed.delimiter 120 (ap (λ bytes. get_or bytes 0 0) unclosed.spells) unclosed.chosen bad.begins refl

  not_empty_and_hex : IsNoString text EmptyString → ¬ IsNoString text BadHex
  not_empty_and_hex empty bad = no_front text empty.1.delimiter 120 (delimited_front text [] empty.0 empty.1) empty.1.chosen bad.begins refl

  -- a text has one of the faults that strings have whatever else may come
  pub one_string_fault : (a b : FaultKind) → IsOfStrings a → IsOfStrings b → IsNoString text a → IsNoString text b → a ≡ b
  one_string_fault a b (inl is) (inl other) first second = is ∙ sym other
  one_string_fault a b (inl is) (inr (inl other)) first second = absurd (not_unclosed_and_empty (subst (IsNoString text) is first) (subst (IsNoString text) other second))
  one_string_fault a b (inl is) (inr (inr other)) first second = absurd (not_unclosed_and_hex (subst (IsNoString text) is first) (subst (IsNoString text) other second))
  one_string_fault a b (inr (inl is)) (inl other) first second = absurd (not_unclosed_and_empty (subst (IsNoString text) other second) (subst (IsNoString text) is first))
  one_string_fault a b (inr (inl is)) (inr (inl other)) first second = is ∙ sym other
  one_string_fault a b (inr (inl is)) (inr (inr other)) first second = absurd (not_empty_and_hex (subst (IsNoString text) is first) (subst (IsNoString text) other second))
  one_string_fault a b (inr (inr is)) (inl other) first second = absurd (not_unclosed_and_hex (subst (IsNoString text) other second) (subst (IsNoString text) is first))
  one_string_fault a b (inr (inr is)) (inr (inl other)) first second = absurd (not_empty_and_hex (subst (IsNoString text) other second) (subst (IsNoString text) is first))
  one_string_fault a b (inr (inr is)) (inr (inr other)) first second = is ∙ sym other
