-- A word is hexadecimal exactly where it is `x` and pairs of hexadecimal digits.
use Rattle.std.proofs.Common.{◌≡◌, ◌&&◌, ℕ, ◌-◌, ◌%◌, ◌<◌, ◌≤◌, true, List, [], ◌∷◌, length, take, drop, get_or, refl, sym, ap, ap₂, ◌∙◌, arith, subst, Ok}
use Rattle.std.specs.Char.{is_ascii_hexdigit}
use Rattle.std.specs.List.{list_all}
use Rattle.std.proofs.lemmas.Bool.Decides.{nat_tests}
use Rattle.std.proofs.lemmas.List.{take_rest}
use Rattle.std.proofs.lemmas.List.Sums.{AllPass-from_list_all, list_all-from_AllPass}
use Rattle.hex.specs.Hex.{decode_of, is_hex_digit}
use Rattle.hex.proofs.HexLemmas.{decode_of-digits, decode_of-ok}
use Rattle.argument_parts.specs.Strings.{IsHexadecimal}

same_digit : (byte : ℕ) → is_ascii_hexdigit byte ≡ is_hex_digit byte
same_digit byte = grind (arith, nat_tests)

same_digits : (digits : List ℕ) → list_all is_ascii_hexdigit digits ≡ list_all is_hex_digit digits
same_digits [] = refl
same_digits (digit ∷ digits) = ap₂ (λ a b. a && b) (same_digit digit) (same_digits digits)

-- a text that begins with `x`
pub x_first : (word : List ℕ) → 1 ≤ length word → get_or word 0 0 ≡ 120 → word ≡ 120 ∷ take (length word - 1) (drop 1 word)
x_first [] some begins = absurd (omega arith)
x_first (byte ∷ word) some begins = rw (take_rest (byte ∷ word) 1) (ap (λ (b : ℕ). b ∷ word) begins)

-- pairs of digits are a string
pub of_digits : (word digits : List ℕ) → word ≡ 120 ∷ digits → 0 < length digits → length digits % 2 ≡ 0 → list_all is_ascii_hexdigit digits ≡ true
    → (string : List ℕ) × (is : IsHexadecimal word string) × (is.digits ≡ digits)
of_digits word digits spells filled even are =
    let decoded = decode_of-digits digits even (AllPass-from_list_all is_hex_digit digits (sym (same_digits digits) ∙ are)) in
    (decoded.0, record { digits = digits; spells = spells; filled = filled; worth = decoded.1 }, refl)

-- and a string is pairs of digits
pub digits_of : (word digits string : List ℕ) → word ≡ 120 ∷ digits → IsHexadecimal word string → (0 < length digits) × (length digits % 2 ≡ 0) × (list_all is_ascii_hexdigit digits ≡ true)
digits_of word digits string spells is =
    let both = sym is.spells ∙ spells in
    let same : is.digits ≡ digits = cc in
    let ok = decode_of-ok digits string (subst (λ bytes. decode_of bytes ≡ Ok string) same is.worth) in
    (subst (λ bytes. 0 < length bytes) same is.filled, ok.0, same_digits digits ∙ list_all-from_AllPass is_hex_digit digits ok.1)

-- the digits of a word, and what they decode to
pub digits_decode : (word digits : List ℕ) → (string : List ℕ) × (is : IsHexadecimal word string) × (is.digits ≡ digits) → (string : List ℕ) × (decode_of digits ≡ Ok string)
digits_decode word digits (string, is, same) = (string, ap decode_of (sym same) ∙ is.worth)

pub decoded_word : (word digits string : List ℕ) → (other : List ℕ) × (is : IsHexadecimal word other) × (is.digits ≡ digits) → decode_of digits ≡ Ok string → IsHexadecimal word string
decoded_word word digits string (other, is, same) worth = record { digits = is.digits; spells = is.spells; filled = is.filled; worth = ap decode_of same ∙ worth }
