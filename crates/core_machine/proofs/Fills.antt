-- Words that are filled from the first bit on hold the numbers below a count.
use Rattle.std.proofs.Common.{◌≡◌, inl, inr, ℕ, zero, suc, ◌+◌, ◌-◌, ◌*◌, ◌/◌, ◌%◌, ◌<◌, ◌≤◌, List, length, refl, sym, ◌∙◌, ap, subst, arith}
use Rattle.std.specs.Prelude.{min}
use Rattle.std.specs.Int.{bit_at}
use Rattle.std.proofs.lemmas.Nat.Bits.{bit_at_ones, bit_at_ones_above}
use Rattle.std.proofs.lemmas.Bool.{cases_lt}
use Rattle.core_machine.specs.Members.{word_at, low_word, has, HasBits}
use Rattle.core_machine.proofs.Summaries.{some_word}

less_min : (a b c : ℕ) → a < b → a < c → a < min b c
less_min a b c p q = grind arith

min_most : (a b c : ℕ) → b ≤ a → min b c ≤ a
min_most a b c p = grind arith

-- so many words hold the numbers below this one
pub ceil_is : (n : ℕ) → n / 64 + min 1 (n % 64) ≡ (n + 63) / 64
ceil_is n = go (n % 64) refl
  where
    go : (r : ℕ) → n % 64 ≡ r → n / 64 + min 1 r ≡ (n + 63) / 64
    go zero e = let m : min 1 0 ≡ 0 = grind arith in omega (arith, e, m)
    go (suc r) e = let m : min 1 (suc r) ≡ 1 = grind arith in omega (arith, e, m)

module _ (words : List ℕ) (count : ℕ) (filled : (k : ℕ) → word_at words k ≡ low_word (count - 64 * k)) where
  -- a number below the count is held
  pub filled_below : (t : ℕ) → t < count → has words t ≡ 1
  filled_below t p =
      ap (λ z. bit_at z (t % 64)) (filled (t / 64))
      ∙ bit_at_ones (min (count - 64 * (t / 64)) 64) (t % 64) (less_min (t % 64) (count - 64 * (t / 64)) 64 (omega (arith, p)) (omega arith))

  -- and no other is
  pub filled_above : (t : ℕ) → count ≤ t → has words t ≡ 0
  filled_above t p =
      ap (λ z. bit_at z (t % 64)) (filled (t / 64))
      ∙ bit_at_ones_above (min (count - 64 * (t / 64)) 64) (t % 64) (min_most (t % 64) (count - 64 * (t / 64)) 64 (omega (arith, p)))

-- words that hold all numbers below the size, and their summary
pub filled_bits : (size : ℕ) (words summary words' summary' : List ℕ) → HasBits size words summary →
    ((k : ℕ) → word_at words' k ≡ low_word (size - 64 * k)) → length words' ≡ length words →
    ((k : ℕ) → word_at summary' k ≡ low_word ((size + 63) / 64 - 64 * k)) → length summary' ≡ length summary → HasBits size words' summary'
filled_bits size words summary words' summary' is filled length_is summary_filled summary_length = record {
  few = is.few;
  fits = subst (λ z. size < 64 * z) (sym length_is) is.fits;
  summary_fits = subst (λ z. z < 64 * length summary') (sym length_is) (subst (λ z. length words < 64 * z) (sym summary_length) is.summary_fits);
  inside = filled_above words' size filled;
  full = λ k one. elim (cases_lt k ((size + 63) / 64)) [
    | inl p ↦ (let place : (64 * k) / 64 ≡ k = omega arith in subst (λ z. 0 < word_at words' z) place (some_word words' (64 * k) (filled_below words' size filled (64 * k) (omega (arith, p)))))
    | inr p ↦ (let none : 1 ≡ 0 = sym one ∙ filled_above summary' ((size + 63) / 64) summary_filled k p in absurd (omega (arith, none)))
  ];
  empty = λ k none. elim (cases_lt k ((size + 63) / 64)) [
    | inl p ↦ (let one : 1 ≡ 0 = sym (filled_below summary' ((size + 63) / 64) summary_filled k p) ∙ none in absurd (omega (arith, one)))
    | inr p ↦ (let nothing : size - 64 * k ≡ 0 = omega (arith, p) in filled k ∙ ap low_word nothing)
  ];
}
