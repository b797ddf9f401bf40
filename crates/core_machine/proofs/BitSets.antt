-- One bit of one word changed.
use Rattle.std.proofs.Common.{◌≡◌, ◌≢◌, inl, inr, ℕ, zero, suc, ◌+◌, ◌*◌, ◌/◌, ◌%◌, ◌^◌, ◌<◌, ◌≤◌, List, [], ◌∷◌, length, refl, sym, ◌∙◌, ap, arith, slice_set, bit_and, bit_or, w64}
use Rattle.std.specs.Prelude.{unwrap_or, min, max}
use Rattle.std.specs.Int.{bit_at, trailing_zeros}
use Rattle.std.proofs.lemmas.Nat.Bits.{bit_at_or, bit_at_and, bit_at-pow_same, bit_at-pow_other, bit_at-trailing_zeros, bit_at-zero}
use Rattle.pipe_model.proofs.Lists.{get_set_same, get_set_other, at_some}
use Rattle.pipe_model.proofs.Numbers.{equal_or_not}
use Rattle.core_machine.specs.Members.{word_at, has, IsLeastBit}

-- a word that wasn't changed
pub word_other : (ws : List ℕ) (i k x : ℕ) → k ≢ i → word_at (slice_set ws i x) k ≡ word_at ws k
word_other ws i k x p = ap (λ z. unwrap_or z 0) (get_set_other ws i k x p)

apart_bits : (s t : ℕ) → t ≢ s → t / 64 ≡ s / 64 → t % 64 ≢ s % 64
apart_bits s t other same e = other (omega (arith, same, e))

max_one : (x : ℕ) → x < 2 → max x 1 ≡ 1
max_one x p = grind arith

max_zero : (x : ℕ) → max x 0 ≡ x
max_zero x = grind arith

min_zero : (x : ℕ) → min x 0 ≡ 0
min_zero x = grind arith

min_one : (x : ℕ) → x < 2 → min x 1 ≡ x
min_one x p = grind arith

bit_small : (n i : ℕ) → bit_at n i < 2
bit_small n i = go (n / 2 ^ i)
  where
    go : (x : ℕ) → x % 2 < 2
    go x = omega arith

module _ (ws : List ℕ) (s : ℕ) (inside : s / 64 < length ws) where
  abbrev k : ℕ
  k = s / 64

  word_here : (x : ℕ) → word_at (slice_set ws k x) k ≡ x
  word_here x = ap (λ z. unwrap_or z 0) (let old = at_some ws k inside in get_set_same ws k x old.0 old.1)

  pub insert_here : has (slice_set ws k (bit_or (word_at ws k) (2 ^ (s % 64)))) s ≡ 1
  insert_here = ap (λ z. bit_at z (s % 64)) (word_here (bit_or (word_at ws k) (2 ^ (s % 64))))
      ∙ bit_at_or (word_at ws k) (2 ^ (s % 64)) (s % 64)
      ∙ ap (max (bit_at (word_at ws k) (s % 64))) (bit_at-pow_same (s % 64)) ∙ max_one (bit_at (word_at ws k) (s % 64)) (bit_small (word_at ws k) (s % 64))

  pub insert_others : (t : ℕ) → t ≢ s → has (slice_set ws k (bit_or (word_at ws k) (2 ^ (s % 64)))) t ≡ has ws t
  insert_others t other = elim (equal_or_not (t / 64) k) [
    | inl e ↦
        ap (λ z. bit_at (word_at (slice_set ws k (bit_or (word_at ws k) (2 ^ (s % 64)))) z) (t % 64)) e
        ∙ ap (λ z. bit_at z (t % 64)) (word_here (bit_or (word_at ws k) (2 ^ (s % 64))))
        ∙ bit_at_or (word_at ws k) (2 ^ (s % 64)) (t % 64)
        ∙ ap (max (bit_at (word_at ws k) (t % 64))) (bit_at-pow_other (s % 64) (t % 64) (apart_bits s t other e)) ∙ max_zero (bit_at (word_at ws k) (t % 64))
        ∙ ap (λ z. bit_at (word_at ws z) (t % 64)) (sym e)
    | inr e ↦ ap (λ z. bit_at (unwrap_or z 0) (t % 64)) (get_set_other ws k (t / 64) (bit_or (word_at ws k) (2 ^ (s % 64))) e)
  ]

  module _ (m : ℕ) (not_s : bit_at m (s % 64) ≡ 0) (not_others : (i : ℕ) → i < 64 → i ≢ s % 64 → bit_at m i ≡ 1) where
    pub remove_here : has (slice_set ws k (bit_and (word_at ws k) m)) s ≡ 0
    remove_here = ap (λ z. bit_at z (s % 64)) (word_here (bit_and (word_at ws k) m)) ∙ bit_at_and (word_at ws k) m (s % 64) ∙ ap (min (bit_at (word_at ws k) (s % 64))) not_s ∙ min_zero (bit_at (word_at ws k) (s % 64))

    pub remove_others : (t : ℕ) → t ≢ s → has (slice_set ws k (bit_and (word_at ws k) m)) t ≡ has ws t
    remove_others t other = elim (equal_or_not (t / 64) k) [
      | inl e ↦
          ap (λ z. bit_at (word_at (slice_set ws k (bit_and (word_at ws k) m)) z) (t % 64)) e
          ∙ ap (λ z. bit_at z (t % 64)) (word_here (bit_and (word_at ws k) m))
          ∙ bit_at_and (word_at ws k) m (t % 64)
          ∙ ap (min (bit_at (word_at ws k) (t % 64))) (not_others (t % 64) (omega arith) (apart_bits s t other e)) ∙ min_one (bit_at (word_at ws k) (t % 64)) (bit_small (word_at ws k) (t % 64))
          ∙ ap (λ z. bit_at (word_at ws z) (t % 64)) (sym e)
      | inr e ↦ ap (λ z. bit_at (unwrap_or z 0) (t % 64)) (get_set_other ws k (t / 64) (bit_and (word_at ws k) m) e)
    ]

-- the lowest bit of word k is held
pub bit_here : (ws : List ℕ) (k w : ℕ) → word_at ws k ≡ w → 0 < w → w < 18446744073709551616 → has ws (64 * k + trailing_zeros w64 w) ≡ 1
bit_here ws k w at some fits =
    ap (λ y. bit_at (word_at ws y) ((64 * k + z) % 64)) (let a = low.0 in (let b : (64 * k + z) / 64 ≡ k = omega (arith, a) in b))
    ∙ ap (bit_at (word_at ws k)) (let a = low.0 in (let b : (64 * k + z) % 64 ≡ z = omega (arith, a) in b))
    ∙ ap (λ y. bit_at y z) at ∙ low.1
  where
    z : ℕ
    z = trailing_zeros w64 w

    low : (z < 64) × (bit_at w z ≡ 1) × ((i : ℕ) → i < z → bit_at w i ≡ 0)
    low = bit_at-trailing_zeros w64 w some fits

-- the words before k are 0, and this is the least bit of word k
pub least_is : (ws : List ℕ) (k w : ℕ) → word_at ws k ≡ w → 0 < w → w < 18446744073709551616 → ((j : ℕ) → j < k → word_at ws j ≡ 0) → IsLeastBit ws (64 * k + trailing_zeros w64 w)
least_is ws k w at some fits before = (here, below)
  where
    z : ℕ
    z = trailing_zeros w64 w

    low : (z < 64) × (bit_at w z ≡ 1) × ((i : ℕ) → i < z → bit_at w i ≡ 0)
    low = bit_at-trailing_zeros w64 w some fits

    word_k : word_at ws k ≡ w
    word_k = at

    here : has ws (64 * k + z) ≡ 1
    here = bit_here ws k w at some fits

    below : (t : ℕ) → t < 64 * k + z → has ws t ≡ 0
    below t less = elim (equal_or_not (t / 64) k) [
      | inl e ↦ ap (λ y. bit_at (word_at ws y) (t % 64)) e ∙ ap (λ y. bit_at y (t % 64)) word_k ∙ low.2 (t % 64) (let a = low.0 in omega (arith, a, e, less))
      | inr e ↦ ap (λ y. bit_at y (t % 64)) (before (t / 64) (let a = low.0 in (let le : t / 64 ≤ k = omega (arith, a, less) in strict (t / 64) k le e))) ∙ bit_at-zero (t % 64)
    ]
      where
        strict : (a b : ℕ) → a ≤ b → a ≢ b → a < b
        strict a b p q = grind arith

-- all words are 0
pub none_is : (ws : List ℕ) → ((j : ℕ) → j < length ws → word_at ws j ≡ 0) → (t : ℕ) → has ws t ≡ 0
none_is ws zeros t = ap (λ y. bit_at y (t % 64)) (word ws (t / 64) (zeros (t / 64))) ∙ bit_at-zero (t % 64)
  where
    word : (ws : List ℕ) (j : ℕ) → (j < length ws → word_at ws j ≡ 0) → word_at ws j ≡ 0
    word [] j f = refl
    word (x ∷ xs) zero f = f (omega arith)
    word (x ∷ xs) (suc j) f = word xs j (λ p. f (omega (arith, p)))

pub one_further : (ws : List ℕ) (k : ℕ) → word_at ws k ≡ 0 → ((j : ℕ) → j < k → word_at ws j ≡ 0) → (j : ℕ) → j < k + 1 → word_at ws j ≡ 0
one_further ws k zero_now before j p = elim (equal_or_not j k) [ inl e ↦ ap (word_at ws) e ∙ zero_now | inr e ↦ before j (strict j k p e) ]
  where
    strict : (a b : ℕ) → a < b + 1 → a ≢ b → a < b
    strict a b p q = grind arith

pub low_bit : (w : ℕ) → 0 < w → w < 18446744073709551616 → trailing_zeros w64 w < 64
low_bit w some fits = (bit_at-trailing_zeros w64 w some fits).0
