-- For each test of numbers there is the set of those below a size that pass it.
use Rattle.std.proofs.Common.{◌≡◌, ◌≢◌, inl, inr, ℕ, zero, suc, ◌/◌, ◌%◌, ◌^◌, ◌<◌, ◌≤◌, Bool, true, false, cond, ◌==◌, List, length, refl, sym, ◌∙◌, ap, arith, slice_set, length-set, bit_or}
use Rattle.std.specs.Prelude.{replicate}
use Rattle.std.specs.Int.{bit_at}
use Rattle.std.proofs.lemmas.Nat.Bits.{bit_at-zero}
use Rattle.pipe_model.proofs.Numbers.{equal_or_not}
use Rattle.core_machine.specs.Members.{Members, word_at, has, is_member}
use Rattle.core_machine.proofs.BitSets.{insert_here, insert_others}

-- the words, with one number more where this is true
abbrev with_bit : List ℕ → ℕ → Bool → List ℕ
with_bit ws s b = cond b (slice_set ws (s / 64) (bit_or (word_at ws (s / 64)) (2 ^ (s % 64)))) ws

-- so many words, which hold the numbers below n that pass
abbrev filled : (ℕ → Bool) → ℕ → ℕ → List ℕ
filled f size zero = replicate size 0
filled f size (suc n) = with_bit (filled f size n) n (f n)

length_zeros : (size : ℕ) → length {A = ℕ} (replicate size 0) ≡ size
length_zeros zero = refl
length_zeros (suc size) = ap suc (length_zeros size)

word_zero : (size k : ℕ) → word_at (replicate size 0) k ≡ 0
word_zero zero k = refl
word_zero (suc size) zero = refl
word_zero (suc size) (suc k) = word_zero size k

length_with : (ws : List ℕ) (s : ℕ) (b : Bool) → length (with_bit ws s b) ≡ length ws
length_with ws s true = length-set ws (s / 64) (bit_or (word_at ws (s / 64)) (2 ^ (s % 64)))
length_with ws s false = refl

other_bit : (ws : List ℕ) (s t : ℕ) (b : Bool) → s / 64 < length ws → t ≢ s → has (with_bit ws s b) t ≡ has ws t
other_bit ws s t true there apart = insert_others ws s there t apart
other_bit ws s t false there apart = refl

module _ (f : ℕ → Bool) (size : ℕ) where
  length_filled : (n : ℕ) → length (filled f size n) ≡ size
  length_filled zero = length_zeros size
  length_filled (suc n) = length_with (filled f size n) n (f n) ∙ length_filled n

  inside : (n : ℕ) → n < size → n / 64 < length (filled f size n)
  inside n less = let l = length_filled n in omega (arith, l, less)

  above : (n t : ℕ) → n ≤ size → n ≤ t → has (filled f size n) t ≡ 0
  above zero t most least = ap (λ w. bit_at w (t % 64)) (word_zero size (t / 64)) ∙ bit_at-zero (t % 64)
  above (suc n) t most least = other_bit (filled f size n) n t (f n) (inside n (omega (arith, most))) (apart n t least) ∙ above n t (omega (arith, most)) (omega (arith, least))
    where
      apart : (a b : ℕ) → suc a ≤ b → b ≢ a
      apart a b p e = omega (arith, p, e)

  here_bit : (n : ℕ) (b : Bool) → n < size → (has (with_bit (filled f size n) n b) n == 1) ≡ b
  here_bit n true less = ap (λ z. z == 1) (insert_here (filled f size n) n (inside n less))
  here_bit n false less = ap (λ z. z == 1) (above n n (omega (arith, less)) (omega arith))

  below : (n t : ℕ) → n ≤ size → t < n → (has (filled f size n) t == 1) ≡ f t
  below zero t most less = absurd (let r : ⊥ = omega (arith, less) in r)
  below (suc n) t most less = elim (equal_or_not t n) [
    | inl e ↦ ap (λ z. has (filled f size (suc n)) z == 1) e ∙ here_bit n (f n) (omega (arith, most)) ∙ ap f (sym e)
    | inr apart ↦ ap (λ z. z == 1) (other_bit (filled f size n) n t (f n) (inside n (omega (arith, most))) apart) ∙ below n t (omega (arith, most)) (strict t n less apart)
  ]
    where
      strict : (a b : ℕ) → a < suc b → a ≢ b → a < b
      strict a b p q = grind arith

  pub set_of : (set : Members) × (set.size ≡ size) × ((t : ℕ) → t < size → is_member set t ≡ f t)
  set_of = (record { size = size; words = filled f size size }, refl, λ t less. below size t (omega arith) less)
