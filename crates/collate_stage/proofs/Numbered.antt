-- What a search and a filter give along the numbers from one on.
use Rattle.std.proofs.Common.{◌≡◌, ◌≢◌, ◌⊎◌, inl, inr, ℕ, zero, suc, ◌+◌, ◌<◌, ◌≤◌, Bool, true, false, cond, [], ◌∷◌, refl, ◌∙◌, ap, arith, Some, None}
use Rattle.std.specs.Prelude.{find, filter}
use Rattle.std.specs.List.{range_with_len}
use Rattle.pipe_model.proofs.Numbers.{equal_or_not}

-- none passes
find_none_from : (p : ℕ → Bool) (from n : ℕ) → ((j : ℕ) → from ≤ j → j < from + n → p j ≡ false) → find p (range_with_len from n) ≡ None
find_none_from p from zero none = refl
find_none_from p from (suc n) none =
    ap (λ b. cond b (Some from) (find p (range_with_len (from + 1) n))) (none from (omega arith) (omega arith))
    ∙ find_none_from p (from + 1) n (λ j low high. none j (omega (arith, low)) (omega (arith, high)))

pub find_none : (p : ℕ → Bool) (n : ℕ) → ((j : ℕ) → j < n → p j ≡ false) → find p (range_with_len 0 n) ≡ None
find_none p n none = find_none_from p 0 n (λ j low high. none j (omega (arith, high)))

-- the first that passes
find_first_from : (p : ℕ → Bool) (from n m : ℕ) → from ≤ m → m < from + n → p m ≡ true → ((j : ℕ) → from ≤ j → j < m → p j ≡ false) → find p (range_with_len from n) ≡ Some m
find_first_from p from zero m low high here before = absurd (omega (arith, low, high))
find_first_from p from (suc n) m low high here before =
    by (equal_or_not from m) (λ apart. find_first_from p (from + 1) n m (omega (arith, low, apart)) (omega (arith, high)) here (λ j low' high'. before j (omega (arith, low')) high'))
  where
    by : (from ≡ m) ⊎ (from ≢ m) → (from ≢ m → find p (range_with_len (from + 1) n) ≡ Some m) → find p (range_with_len from (suc n)) ≡ Some m
    by (inl same) rest = ap (λ b. cond b (Some from) (find p (range_with_len (from + 1) n))) (ap p same ∙ here) ∙ ap Some same
    by (inr apart) rest = ap (λ b. cond b (Some from) (find p (range_with_len (from + 1) n))) (before from (omega arith) (omega (arith, low, apart))) ∙ rest apart

pub find_first : (p : ℕ → Bool) (n m : ℕ) → m < n → p m ≡ true → ((j : ℕ) → j < m → p j ≡ false) → find p (range_with_len 0 n) ≡ Some m
find_first p n m high here before = find_first_from p 0 n m (omega arith) (omega (arith, high)) here (λ j low below. before j below)

-- none is kept
keep_none : (p : ℕ → Bool) (from n : ℕ) → ((j : ℕ) → from ≤ j → p j ≡ false) → filter p (range_with_len from n) ≡ []
keep_none p from zero none = refl
keep_none p from (suc n) none =
    ap (λ b. cond b (from ∷ filter p (range_with_len (from + 1) n)) (filter p (range_with_len (from + 1) n))) (none from (omega arith))
    ∙ keep_none p (from + 1) n (λ j low. none j (omega (arith, low)))

-- only one is kept
keep_one_from : (p : ℕ → Bool) (from n m : ℕ) → from ≤ m → m < from + n → p m ≡ true → ((j : ℕ) → j ≢ m → p j ≡ false) → filter p (range_with_len from n) ≡ m ∷ []
keep_one_from p from zero m low high here others = absurd (omega (arith, low, high))
keep_one_from p from (suc n) m low high here others =
    by (equal_or_not from m) (λ apart. keep_one_from p (from + 1) n m (omega (arith, low, apart)) (omega (arith, high)) here others)
  where
    by : (from ≡ m) ⊎ (from ≢ m) → (from ≢ m → filter p (range_with_len (from + 1) n) ≡ m ∷ []) → filter p (range_with_len from (suc n)) ≡ m ∷ []
    by (inl same) rest =
        ap (λ b. cond b (from ∷ filter p (range_with_len (from + 1) n)) (filter p (range_with_len (from + 1) n))) (ap p same ∙ here)
        ∙ ap (λ z. z ∷ filter p (range_with_len (from + 1) n)) same
        ∙ ap (λ zs. m ∷ zs) (keep_none p (from + 1) n (λ j low'. others j (λ e. absurd (omega (arith, low', e, same)))))
    by (inr apart) rest = ap (λ b. cond b (from ∷ filter p (range_with_len (from + 1) n)) (filter p (range_with_len (from + 1) n))) (others from apart) ∙ rest apart

pub keep_one : (p : ℕ → Bool) (n m : ℕ) → m < n → p m ≡ true → ((j : ℕ) → j ≢ m → p j ≡ false) → filter p (range_with_len 0 n) ≡ m ∷ []
keep_one p n m high here others = keep_one_from p 0 n m (omega arith) (omega (arith, high)) here others
