-- A summary stays right when one member changes, and leads to the least member.
use Rattle.std.proofs.Common.{◌≡◌, ◌≢◌, ◌%◌, inl, inr, ℕ, zero, suc, ◌+◌, ◌*◌, ◌/◌, ◌<◌, ◌≤◌, ◌==◌, List, length, sym, ◌∙◌, ap, subst, arith, w64}
use Rattle.std.specs.Int.{bit_at, trailing_zeros}
use Rattle.std.proofs.lemmas.Nat.Bits.{bit_at-zero}
use Rattle.std.proofs.lemmas.Bool.{cases_lt}
use Rattle.pipe_model.proofs.Numbers.{equal_or_not}
use Rattle.core_machine.specs.Members.{Members, word_at, has, HasBits, IsLeast, IsLeastBit}
use Rattle.core_machine.proofs.BitSets.{least_is, bit_here, low_bit}

-- a word with a bit isn't 0
pub some_word : (ws : List ℕ) (s : ℕ) → has ws s ≡ 1 → 0 < word_at ws (s / 64)
some_word ws s held = go (word_at ws (s / 64)) held
  where
    go : (w : ℕ) → bit_at w (s % 64) ≡ 1 → 0 < w
    go zero e = let none : 0 ≡ 1 = sym (bit_at-zero (s % 64)) ∙ e in absurd (omega (arith, none))
    go (suc n) e = omega arith

-- where a number was taken out of a word and the word isn't empty, it wasn't empty before
pub some_before : (words words' : List ℕ) (s w : ℕ) → word_at words' (s / 64) ≡ w → 0 < w → w < 18446744073709551616 →
    has words' s ≡ 0 → ((t : ℕ) → t ≢ s → has words' t ≡ has words t) → 0 < word_at words (s / 64)
some_before words words' s w at some fits gone others =
    subst (λ z. 0 < word_at words z) place (some_word words t (sym (others t apart) ∙ held))
  where
    z : ℕ
    z = trailing_zeros w64 w

    t : ℕ
    t = 64 * (s / 64) + z

    held : has words' t ≡ 1
    held = bit_here words' (s / 64) w at some fits

    low : z < 64
    low = low_bit w some fits

    place : t / 64 ≡ s / 64
    place = let a = low in omega (arith, a)

    apart : t ≢ s
    apart e = let none : 0 ≡ 1 = sym gone ∙ ap (has words') (sym e) ∙ held in absurd (omega (arith, none))

module _ (size : ℕ) (words summary words' summary' : List ℕ) (s : ℕ) (less : s < size) (is : HasBits size words summary)
    (others : (t : ℕ) → t ≢ s → has words' t ≡ has words t) (apart : (k : ℕ) → k ≢ s / 64 → word_at words' k ≡ word_at words k)
    (length_is : length words' ≡ length words) where
  outside : (t : ℕ) → size ≤ t → has words' t ≡ 0
  outside t beyond = others t (λ e. absurd (omega (arith, e, less, beyond))) ∙ is.inside t beyond

  -- where the summary is changed at the word's number too
  module _ (summary_others : (t : ℕ) → t ≢ s / 64 → has summary' t ≡ has summary t) (summary_length : length summary' ≡ length summary) where
    pub inserted : has words' s ≡ 1 → has summary' (s / 64) ≡ 1 → HasBits size words' summary'
    inserted here summary_here = record {
      few = is.few;
      fits = subst (λ z. size < 64 * z) (sym length_is) is.fits;
      summary_fits = subst (λ z. z < 64 * length summary') (sym length_is) (subst (λ z. length words < 64 * z) (sym summary_length) is.summary_fits);
      inside = outside;
      full = λ k e. elim (equal_or_not k (s / 64)) [
        | inl q ↦ subst (λ z. 0 < word_at words' z) (sym q) (some_word words' s here)
        | inr q ↦ subst (λ z. 0 < z) (sym (apart k q)) (is.full k (sym (summary_others k q) ∙ e))
      ];
      empty = λ k e. elim (equal_or_not k (s / 64)) [
        | inl q ↦ (let none : 0 ≡ 1 = sym e ∙ ap (has summary') q ∙ summary_here in absurd (omega (arith, none)))
        | inr q ↦ apart k q ∙ is.empty k (sym (summary_others k q) ∙ e)
      ];
    }

    pub emptied : word_at words' (s / 64) ≡ 0 → has summary' (s / 64) ≡ 0 → HasBits size words' summary'
    emptied none summary_here = record {
      few = is.few;
      fits = subst (λ z. size < 64 * z) (sym length_is) is.fits;
      summary_fits = subst (λ z. z < 64 * length summary') (sym length_is) (subst (λ z. length words < 64 * z) (sym summary_length) is.summary_fits);
      inside = outside;
      full = λ k e. elim (equal_or_not k (s / 64)) [
        | inl q ↦ (let one : 1 ≡ 0 = sym e ∙ ap (has summary') q ∙ summary_here in absurd (omega (arith, one)))
        | inr q ↦ subst (λ z. 0 < z) (sym (apart k q)) (is.full k (sym (summary_others k q) ∙ e))
      ];
      empty = λ k e. elim (equal_or_not k (s / 64)) [
        | inl q ↦ ap (word_at words') q ∙ none
        | inr q ↦ apart k q ∙ is.empty k (sym (summary_others k q) ∙ e)
      ];
    }

  -- where the word isn't empty yet, the summary stays
  pub lessened : 0 < word_at words' (s / 64) → 0 < word_at words (s / 64) → HasBits size words' summary
  lessened some before = record {
    few = is.few;
    fits = subst (λ z. size < 64 * z) (sym length_is) is.fits;
    summary_fits = subst (λ z. z < 64 * length summary) (sym length_is) is.summary_fits;
    inside = outside;
    full = λ k e. elim (equal_or_not k (s / 64)) [
      | inl q ↦ subst (λ z. 0 < word_at words' z) (sym q) some
      | inr q ↦ subst (λ z. 0 < z) (sym (apart k q)) (is.full k e)
    ];
    empty = λ k e. elim (equal_or_not k (s / 64)) [
      | inl q ↦ (let none : word_at words (s / 64) ≡ 0 = ap (word_at words) (sym q) ∙ is.empty k e in absurd (omega (arith, none, before)))
      | inr q ↦ apart k q ∙ is.empty k e
    ];
  }

-- the least bit of the first word that isn't 0
pub least_found : (size : ℕ) (words summary : List ℕ) (k w : ℕ) → HasBits size words summary → word_at words k ≡ w → w < 18446744073709551616 → IsLeastBit summary k → IsLeastBit words (64 * k + trailing_zeros w64 w)
least_found size words summary k w is at fits first =
    least_is words k w at (subst (λ z. 0 < z) at (is.full k first.0)) fits (λ j p. is.empty j (first.1 j p))

pub least_inside : (size : ℕ) (words summary : List ℕ) (s : ℕ) → HasBits size words summary → has words s ≡ 1 → s < size
least_inside size words summary s is held = elim (cases_lt s size) [
  | inl p ↦ p
  | inr p ↦ (let none : 0 ≡ 1 = sym (is.inside s p) ∙ held in absurd (omega (arith, none)))
]

-- the same of the set
pub least_member : (set : Members) (s : ℕ) → IsLeastBit set.words s → IsLeast set s
least_member set s is = (ap (λ z. z == 1) is.0, λ t p. ap (λ z. z == 1) (is.1 t p))
