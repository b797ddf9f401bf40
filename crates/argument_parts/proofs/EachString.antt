-- Each text begins as a string, has a fault of one, or begins with another word.
use Rattle.std.proofs.Common.{◌≡◌, ℕ, ◌%◌, ◌<◌, ◌≤◌, ◌⊎◌, ◌∙◌, true, false, List, [], ◌∷◌, ◌++◌, length, get_or, refl, sym, ap, arith, subst, inl, inr}
use Rattle.std.specs.Char.{is_ascii_alphanumeric, is_ascii_hexdigit}
use Rattle.std.specs.List.{Contains, list_all}
use Rattle.std.proofs.lemmas.Bool.{cases_Bool, cases_eq, cases_lt}
use Rattle.std.proofs.lemmas.List.Elements.{Contains-append_right}
use Rattle.pipe_model.specs.Words.{IsFirstWord, IsUnblanked}
use Rattle.argument_parts.proofs.BadHex.{bad_hex}
use Rattle.argument_parts.proofs.Delimiters.{delimiter_begins}
use Rattle.argument_parts.proofs.EachWord.{each_front, each_length, each_until, each_word, filled_begins}
use Rattle.argument_parts.proofs.HexDigits.{digits_of, of_digits}
use Rattle.argument_parts.proofs.OneStrings.{one_delimited}
use Rattle.argument_parts.proofs.Outcomes.{hexadecimal_front, no_front}
use Rattle.argument_parts.proofs.PairFronts.{unclosed_once}
use Rattle.argument_parts.proofs.RangeFronts.{emptied}
use Rattle.argument_parts.proofs.StringPairs.{first_delimited}
use Rattle.argument_parts.proofs.StringParts.{no_any_string_of_word}
use Rattle.argument_parts.specs.PairsOfStrings.{AreMisfits, AreStrings, AreUnclosed, IsAnyString, IsAnyStringMisfit, IsHexadecimalBefore}
use Rattle.argument_parts.specs.Parts.{IsOfStrings}
use Rattle.argument_parts.specs.Strings.{IsBadHex, IsDelimited, IsHexadecimal, IsHexadecimalWord, IsNoString, IsOtherWord, IsString, IsUnclosed, is_delimiter}
use Rattle.argument_parts.specs.declared.fault.FaultKind.{FaultKind}
use Rattle.argument_parts.specs.declared.fault.FaultKind.TheVariants.{BadHex, EmptyString, Missing, Unclosed, UnknownWord}
use Rattle.argument_parts.specs.declared.part.TextFault.{TextFault}

-- what begins with a delimiter is delimited or unclosed
abbrev SomeDelimited : List ℕ → Type 0
SomeDelimited text = ((string : List ℕ) × (rest : List ℕ) × IsDelimited text string rest) ⊎ IsUnclosed text

each_delimited : (text : List ℕ) → is_delimiter (get_or text 0 32) ≡ true → SomeDelimited text
each_delimited [] chosen = cc
each_delimited (delimiter ∷ after) chosen = by (each_until delimiter after)
  where
    by : ((front : List ℕ) × (rest : List ℕ) × (¬ Contains front delimiter) × (after ≡ front ++ (delimiter ∷ rest))) ⊎ (¬ Contains after delimiter) → SomeDelimited (delimiter ∷ after)
    by (inl (string, rest, whole, spells)) = inl (string, rest, record { delimiter = delimiter; chosen = chosen; whole = whole; spells = ap (λ (bytes : List ℕ). delimiter ∷ bytes) spells })
    by (inr alone) = inr (record { delimiter = delimiter; after = after; chosen = chosen; alone = alone; spells = refl })

-- a word is hexadecimal or not
each_hexadecimal : (word : List ℕ) → ((string : List ℕ) × IsHexadecimal word string) ⊎ ((string : List ℕ) → ¬ IsHexadecimal word string)
each_hexadecimal [] = inr (λ string is. let spells = is.spells in cc)
each_hexadecimal (first ∷ digits) = by (cases_eq first 120) (cases_lt 0 (length digits)) (cases_eq (length digits % 2) 0) (cases_Bool (list_all is_ascii_hexdigit digits))
  where
    word_is : first ≡ 120 → first ∷ digits ≡ 120 ∷ digits
    word_is is = ap (λ (b : ℕ). b ∷ digits) is

    by : (first ≡ 120) ⊎ (first ≡ 120 → ⊥) → (0 < length digits) ⊎ (length digits ≤ 0) → (length digits % 2 ≡ 0) ⊎ (length digits % 2 ≡ 0 → ⊥) → (list_all is_ascii_hexdigit digits ≡ true) ⊎ (list_all is_ascii_hexdigit digits ≡ false)
        → ((string : List ℕ) × IsHexadecimal (first ∷ digits) string) ⊎ ((string : List ℕ) → ¬ IsHexadecimal (first ∷ digits) string)
    by (inl x) (inl filled) (inl even) (inl are) = let string = of_digits (first ∷ digits) digits (word_is x) filled even are in inl (string.0, string.1)
    by (inl x) (inl filled) (inl even) (inr never) = inr (λ string is. let yes = (digits_of (first ∷ digits) digits string (word_is x) is).2 in cc)
    by (inl x) (inl filled) (inr odd) are = inr (λ string is. odd (digits_of (first ∷ digits) digits string (word_is x) is).1)
    by (inl x) (inr none) even are = inr (λ string is. omega (arith, none, (digits_of (first ∷ digits) digits string (word_is x) is).0))
    by (inr other) filled even are = inr (λ string is. other (ap (λ (bytes : List ℕ). get_or bytes 0 0) is.spells))

-- what begins with `x` is a hexadecimal word or a bad one
each_hexadecimal_word : (text : List ℕ) → get_or text 0 0 ≡ 120 → ((string : List ℕ) × (rest : List ℕ) × IsHexadecimalWord text string rest) ⊎ IsBadHex text
each_hexadecimal_word text begins = let first = each_word text in by first.0 first.1 first.2 (each_hexadecimal first.0)
  where
    by : (word rest : List ℕ) → IsFirstWord text word rest → ((string : List ℕ) × IsHexadecimal word string) ⊎ ((string : List ℕ) → ¬ IsHexadecimal word string) → ((string : List ℕ) × (rest : List ℕ) × IsHexadecimalWord text string rest) ⊎ IsBadHex text
    by word rest first (inl (string, is)) = inl (string, rest, record { word = word; first = first; worth = is })
    by word rest first (inr none) = inr (bad_hex text word rest first none begins)

-- how a text begins that isn't empty and doesn't begin with a blank: as a string that may be empty, as one that isn't closed or whose digits are bad, or with another word
pub data Begins (text : List ℕ) : Type 0 where
  as_delimited : (string rest : List ℕ) → IsDelimited text string rest → Begins text
  as_unclosed : IsUnclosed text → Begins text
  as_hexadecimal : (string rest : List ℕ) → IsHexadecimalWord text string rest → Begins text
  as_bad : IsBadHex text → Begins text
  as_other : IsOtherWord text → Begins text

pub each_begins : (text : List ℕ) → ¬ (get_or text 0 32 ≡ 32) → Begins text
each_begins text begins = by (cases_Bool (is_ascii_alphanumeric (get_or text 0 0))) (cases_eq (get_or text 0 0) 120)
  where
    between : SomeDelimited text → Begins text
    between (inl (string, rest, is)) = as_delimited string rest is
    between (inr unclosed) = as_unclosed unclosed

    digits : ((string : List ℕ) × (rest : List ℕ) × IsHexadecimalWord text string rest) ⊎ IsBadHex text → Begins text
    digits (inl (string, rest, is)) = as_hexadecimal string rest is
    digits (inr bad) = as_bad bad

    by : (is_ascii_alphanumeric (get_or text 0 0) ≡ true) ⊎ (is_ascii_alphanumeric (get_or text 0 0) ≡ false) → (get_or text 0 0 ≡ 120) ⊎ (get_or text 0 0 ≡ 120 → ⊥) → Begins text
    by (inl sign) (inl x) = digits (each_hexadecimal_word text x)
    by (inl sign) (inr other) = as_other (record { begins = sign; other = other })
    by (inr never) x = between (each_delimited text (delimiter_begins text begins never))

-- a string that isn't empty, its fault, or another word
abbrev pub SomeString : List ℕ → Type 0
SomeString text = ((string : List ℕ) × (rest : List ℕ) × IsString text string rest) ⊎ (((kind : FaultKind) × IsOfStrings kind × IsNoString text kind) ⊎ IsOtherWord text)

pub each_string : (text : List ℕ) → Begins text → SomeString text
each_string text (as_delimited [] rest is) = inr (inl (EmptyString, inr (inl refl), (rest, is)))
each_string text (as_delimited (byte ∷ string) rest is) = inl (byte ∷ string, rest, inl (is, omega arith))
each_string text (as_unclosed unclosed) = inr (inl (Unclosed, inl refl, unclosed))
each_string text (as_hexadecimal string rest is) = inl (string, rest, inr is)
each_string text (as_bad bad) = inr (inl (BadHex, inr (inr refl), bad))
each_string text (as_other other) = inr (inr other)

-- a string that may be empty, its fault, or another word
abbrev pub SomeAnyString : List ℕ → Type 0
SomeAnyString text = ((string : List ℕ) × (rest : List ℕ) × IsAnyString text string rest) ⊎ (((fault : TextFault) × IsAnyStringMisfit text fault) ⊎ IsOtherWord text)

pub each_any_string : (text : List ℕ) → Begins text → SomeAnyString text
each_any_string text (as_delimited string rest is) = inl (string, rest, inl is)
each_any_string text (as_unclosed unclosed) = inr (inl (record { left = length text; kind = Unclosed }, inl (unclosed, refl)))
each_any_string text (as_hexadecimal string rest is) = inl (string, rest, inr is)
each_any_string text (as_bad bad) = inr (inl (record { left = length text; kind = BadHex }, inr (bad, refl)))
each_any_string text (as_other other) = inr (inr other)

-- two strings, their fault, or another word
abbrev pub SomeStrings : List ℕ → Type 0
SomeStrings text = ((first : List ℕ) × (second : List ℕ) × (rest : List ℕ) × AreStrings text first second rest) ⊎ (((fault : TextFault) × AreMisfits text fault) ⊎ IsOtherWord text)

-- without a third delimiter there is no second string
two_alone : (text first after : List ℕ) (is : IsDelimited text first after) → ¬ Contains after is.delimiter → AreUnclosed text
two_alone text first after is alone = record {
  delimiter = is.delimiter;
  after = first ++ (is.delimiter ∷ after);
  chosen = is.chosen;
  spells = is.spells;
  none = λ other second rest are.
      let same = one_delimited text first other after _ is (first_delimited text other second rest are) in
      let both = sym is.spells ∙ are.spells in
      let byte : is.delimiter ≡ are.delimiter = cc in
      let stands : Contains (second ++ (are.delimiter ∷ rest)) are.delimiter = Contains-append_right second (are.delimiter ∷ rest) are.delimiter (0, omega arith, refl) in
      alone (subst (λ (b : ℕ). Contains after b) (sym byte) (subst (λ (bytes : List ℕ). Contains bytes are.delimiter) (sym same.1) stands));
}

module _ (text : List ℕ) where
  second_delimited : (first after : List ℕ) (is : IsDelimited text first after) → ((second : List ℕ) × (rest : List ℕ) × (¬ Contains second is.delimiter) × (after ≡ second ++ (is.delimiter ∷ rest))) ⊎ (¬ Contains after is.delimiter) → SomeStrings text
  second_delimited first after is (inl (second, rest, whole, spells)) =
      inl (first, second, rest, inl (record { delimiter = is.delimiter; chosen = is.chosen; first_whole = is.whole; second_whole = whole; spells = is.spells ∙ ap (λ (bytes : List ℕ). is.delimiter ∷ first ++ (is.delimiter ∷ bytes)) spells }))
  second_delimited first after is (inr alone) = inr (inl (record { left = length text; kind = Unclosed }, inl (two_alone text first after is alone, refl)))

  module _ (first after : List ℕ) (is : IsHexadecimalWord text first after) (front : List ℕ) (unblanked : IsUnblanked after front) where
    before : IsHexadecimalBefore text first front
    before = record { after = after; hexadecimal = is; unblanked = unblanked }

    second_apart : 0 < length front → SomeAnyString front → SomeStrings text
    second_apart some (inl (second, rest, string)) = inl (first, second, rest, inr (record { front = front; before = before; string = string }))
    second_apart some (inr (inl (fault, misfit))) = inr (inl (fault, inr (inr (record { first = first; front = front; before = before; misfit = inr (some, inl misfit) }))))
    second_apart some (inr (inr other)) =
        inr (inl (record { left = length front; kind = UnknownWord }, inr (inr (record { first = first; front = front; before = before; misfit = inr (some, inr (other, refl)) }))))

    apart : (length front ≡ 0) ⊎ (0 < length front) → SomeStrings text
    apart (inl none) = inr (inl (record { left = 0; kind = Missing }, inr (inr (record { first = first; front = front; before = before; misfit = inl (emptied front none, refl) }))))
    apart (inr some) = second_apart some (each_any_string front (each_begins front (filled_begins front some unblanked.other)))

  pub each_strings : Begins text → SomeStrings text
  each_strings (as_delimited first after is) = second_delimited first after is (each_until is.delimiter after)
  each_strings (as_unclosed unclosed) = inr (inl (record { left = length text; kind = Unclosed }, inl (unclosed_once text unclosed, refl)))
  each_strings (as_hexadecimal first after is) = let front = each_front after in apart first after is front.0 front.1 (each_length front.0)
  each_strings (as_bad bad) = inr (inl (record { left = length text; kind = BadHex }, inr (inl (bad, refl))))
  each_strings (as_other other) = inr (inr other)

  -- another word isn't two strings, and has no fault of them
  pub no_strings_of_word : IsOtherWord text → (first second rest : List ℕ) → ¬ AreStrings text first second rest
  no_strings_of_word other first second rest (inl are) = no_any_string_of_word text other first _ (inl (first_delimited text first second rest are))
  no_strings_of_word other first second rest (inr are) = no_any_string_of_word text other first are.before.after (inr are.before.hexadecimal)

  pub no_misfits_of_word : IsOtherWord text → (fault : TextFault) → ¬ AreMisfits text fault
  no_misfits_of_word other fault (inl (unclosed, is)) = no_front text unclosed.delimiter (get_or text 0 0) (ap (λ (bytes : List ℕ). get_or bytes 0 0) unclosed.spells) unclosed.chosen refl other.begins
  no_misfits_of_word other fault (inr (inl (bad, is))) = other.other bad.begins
  no_misfits_of_word other fault (inr (inr misfit)) = other.other (hexadecimal_front text misfit.first misfit.before.after misfit.before.hexadecimal)
