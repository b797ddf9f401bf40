-- Digits at the front of a text.
use Rattle.std.proofs.Common.{◌≡◌, ℕ, ◌+◌, ◌*◌, ◌<◌, ◌≤◌, ◌⊎◌, inl, inr, List, [], ◌∷◌, ◌++◌, refl, ap, ◌∙◌, arith}
use Rattle.std.specs.Char.{digit_value}
use Rattle.std.specs.Str.Parse.{AllDigits, digits_value_after}
use Rattle.std.proofs.lemmas.Str.Parse.{digit_from_value}

-- digits, and the rest of a text, are the front of other digits, what is left of them, and what stands behind them
pub record GoesOn (front whole rest behind : List ℕ) : Type 0 where
  pub tail : List ℕ
  pub each : AllDigits 10 tail
  pub digits : whole ≡ front ++ tail
  pub left : rest ≡ tail ++ behind

-- a byte below the digits is none
pub no_digit : (byte : ℕ) → byte < 48 → ¬ (digit_value byte < 10)
no_digit byte low is = let range = digit_from_value byte is in omega (arith, range.0)

-- a byte that is not among the digits is none
pub not_among_digits : (byte : ℕ) → (byte < 48) ⊎ (57 < byte) → ¬ (digit_value byte < 10)
not_among_digits byte (inl low) is = no_digit byte low is
not_among_digits byte (inr high) is = let range = digit_from_value byte is in omega (arith, range.1)

-- where a text is digits and a rest, and also digits and a byte that is none, the former go on to the latter
pub goes_on : (front whole rest : List ℕ) (end : ℕ) (behind : List ℕ) → AllDigits 10 front → AllDigits 10 whole → end < 48 → front ++ rest ≡ whole ++ (end ∷ behind) → GoesOn front whole rest (end ∷ behind)
goes_on [] whole rest end behind some all low same = record { tail = whole; each = all; digits = refl; left = same }
goes_on (digit ∷ front) [] rest end behind some all low same =
    let is : digit ≡ end = cc in
    let below : digit < 48 = omega arith in absurd (no_digit digit below some.0)
goes_on (digit ∷ front) (other ∷ whole) rest end behind some all low same =
    let tails : front ++ rest ≡ whole ++ (end ∷ behind) = cc in
    let more = goes_on front whole rest end behind some.1 all.1 low tails in
    let heads : other ≡ digit = cc in
    record { tail = more.tail; each = more.each; digits = ap (λ digits. other ∷ digits) more.digits ∙ ap (λ first. first ∷ (front ++ more.tail)) heads; left = more.left }

-- one digit more
pub digits_more : (digits : List ℕ) (byte : ℕ) → AllDigits 10 digits → digit_value byte < 10 → AllDigits 10 (digits ++ byte ∷ [])
digits_more [] byte all is = (is, tt)
digits_more (digit ∷ digits) byte all is = (all.0, digits_more digits byte all.1 is)

-- the value of digits behind others
pub value_behind : (front tail : List ℕ) (value : ℕ) → digits_value_after 10 value (front ++ tail) ≡ digits_value_after 10 (digits_value_after 10 value front) tail
value_behind [] tail value = refl
value_behind (digit ∷ front) tail value = value_behind front tail (value * 10 + digit_value digit)

-- more digits make no smaller value
pub value_grows : (digits : List ℕ) (value : ℕ) → value ≤ digits_value_after 10 value digits
value_grows [] value = omega arith
value_grows (digit ∷ digits) value = omega (arith, value_grows digits (value * 10 + digit_value digit))
