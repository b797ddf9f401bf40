-- Digits, the value of those that were read, and zeros before them.
use Rattle.std.proofs.Common.{◌≡◌, ◌≢◌, ℕ, suc, ◌+◌, ◌-◌, ◌*◌, ◌^◌, ◌<◌, ◌≤◌, true, List, [], ◌∷◌, length, take, drop, get_or, ap, ◌∙◌, arith, subst}
use Rattle.std.specs.Str.{all_ascii_digits}
use Rattle.std.proofs.Math.Nat.{pow-le-pow_right, pow-suc}
use Rattle.std.proofs.lemmas.List.{drop_more, take_rest}
use Rattle.std.proofs.lemmas.Str.Parse.{tells_all_ascii_digits}
use Rattle.argument_parts.specs.Numbers.{decimal}

-- Zeros at the front

-- what is left of digits behind zeros
pub record ArePassedZeros (digits rest : List ℕ) : Type 0 where
  pub are : all_ascii_digits rest ≡ true
  pub worth : decimal rest ≡ decimal digits

pub zero_passed : (digits rest : List ℕ) → 1 ≤ length rest → get_or rest 0 0 ≡ 48 → ArePassedZeros digits rest → ArePassedZeros digits (take (length rest - 1) (drop 1 rest))
zero_passed digits [] some zero passed = absurd (omega arith)
zero_passed digits (digit ∷ rest) some zero passed = rw (take_rest (digit ∷ rest) 1) (record {
  are = (tells_all_ascii_digits.parts digit rest passed.are).1;
  worth = omega (arith, ap (λ d. (d - 48) * 10 ^ length rest + decimal rest) zero, passed.worth);
})

-- The value of digits

-- digits whose first is no zero have a value of as many digits
pub filled : (digits : List ℕ) (n : ℕ) → n < length digits → all_ascii_digits digits ≡ true → get_or digits 0 0 ≢ 48 → 10 ^ n ≤ decimal digits
filled [] n some are front = absurd (omega (arith, some))
filled (digit ∷ digits) n some are front =
    let in_range = (tells_all_ascii_digits.parts digit digits are).0 in
    let power : 10 ^ n ≤ 10 ^ length digits = pow-le-pow_right {n = 10} (omega arith) {i = n} {j = length digits} (omega (arith, some)) in
    let above : digit - 48 ≡ suc (digit - 49) = omega (arith, in_range.0, front) in
    omega (arith, power, ap (λ d. d * 10 ^ length digits) above)

-- the value of the first digits, how many they are, and what the digits that are left add to it
pub record AreRead (digits left : List ℕ) (done value : ℕ) : Type 0 where
  pub are : all_ascii_digits left ≡ true
  pub small : value < 10 ^ done
  pub worth : value * 10 ^ length left + decimal left ≡ decimal digits

-- a number of at most eighteen digits
pub few : (n k : ℕ) → n < 10 ^ k → k < 19 → n < 10 ^ 18
few n k small low = let le : 10 ^ k ≤ 10 ^ 18 = pow-le-pow_right {n = 10} (omega arith) {i = k} {j = 18} (omega (arith, low)) in omega (arith, small, le)

power_more : (i : ℕ) → 10 ^ (i + 1) ≡ 10 ^ i * 10
power_more i = let next : i + 1 ≡ suc i = omega arith in ap (λ j. 10 ^ j) next ∙ pow-suc 10 i

-- one digit more was read
digit_and_rest : (digits rest : List ℕ) (digit done value : ℕ) → AreRead digits (digit ∷ rest) done value → AreRead digits rest (done + 1) (10 * value + (digit - 48))
digit_and_rest digits rest digit done value read =
    let parts = tells_all_ascii_digits.parts digit rest read.are in
    record {
      are = parts.1;
      small = omega (arith, read.small, parts.0.1, power_more done);
      worth = omega (arith, read.worth, ap (λ power. value * power) (pow-suc 10 (length rest)));
    }

pub digit_read : (digits : List ℕ) (i value : ℕ) → i < length digits → AreRead digits (drop i digits) i value → AreRead digits (drop (i + 1) digits) (i + 1) (10 * value + (get_or digits i 0 - 48))
digit_read digits i value below read =
    digit_and_rest digits (drop (i + 1) digits) (get_or digits i 0) i value (subst (λ left. AreRead digits left i value) (drop_more digits i 0 below) read)

-- the digit that comes next
pub digit_next : (digits : List ℕ) (i value : ℕ) → i < length digits → AreRead digits (drop i digits) i value → (48 ≤ get_or digits i 0) × (get_or digits i 0 ≤ 57)
digit_next digits i value below read =
    (tells_all_ascii_digits.parts (get_or digits i 0) (drop (i + 1) digits) (subst (λ left. all_ascii_digits left ≡ true) (drop_more digits i 0 below) read.are)).0
