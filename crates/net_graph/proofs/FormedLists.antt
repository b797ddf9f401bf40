-- Plain facts of tests and lists, from which the net of a specification is proved to be well-formed.
use Rattle.std.proofs.Common.{◌≡◌, ◌⊎◌, inl, inr, ℕ, zero, suc, ◌+◌, ◌<◌, Bool, true, false, cond, not, nat_lt, List, [], ◌∷◌, ◌++◌, refl, sym, ◌∙◌, ap, arith, Some, slice_get, length, map}
use Rattle.std.specs.List.{count_by, range_with_len}
use Rattle.std.proofs.lemmas.Bool.Decides.{nat_tests}
use Rattle.std.proofs.lemmas.List.Sums.{sum_by-cons}

-- Tests

pub below_unless_not : (a b : ℕ) → not (nat_lt a b) ≡ false → a < b
below_unless_not a b p = grind (arith, nat_tests)

-- a test of its value
pub true_or_not : (b : Bool) → (b ≡ true) ⊎ (b ≡ false)
true_or_not true = inl refl
true_or_not false = inr refl

-- Lists

pub nothing_joined : {X : Type 0} (xs ys : List X) → xs ++ ys ≡ [] → (xs ≡ []) × (ys ≡ [])
nothing_joined [] ys p = (refl, p)
nothing_joined (x ∷ xs) ys p = cc

-- with one more at the end, something stands where it stood, or it is the one more
pub get_more : {X : Type 0} (xs : List X) (y : X) (k : ℕ) (x : X) → slice_get (xs ++ y ∷ []) k ≡ Some x → (slice_get xs k ≡ Some x) ⊎ ((k ≡ length xs) × (x ≡ y))
get_more [] y zero x is = inr (refl, cc)
get_more [] y (suc k) x is = cc
get_more (z ∷ xs) y zero x is = inl is
get_more (z ∷ xs) y (suc k) x is = elim (get_more xs y k x is) [ inl at ↦ inl at | inr new ↦ inr (ap suc new.0, new.1) ]

-- what stands at a place of the first of two lists, and of the second
pub get_first : {X : Type 0} (xs ys : List X) (k : ℕ) → k < length xs → slice_get (xs ++ ys) k ≡ slice_get xs k
get_first [] ys k below = absurd (omega (arith, below))
get_first (x ∷ xs) ys zero below = refl
get_first (x ∷ xs) ys (suc k) below = get_first xs ys k (omega (arith, below))

pub get_second : {X : Type 0} (xs ys : List X) (k m : ℕ) → length xs + m ≡ k → slice_get (xs ++ ys) k ≡ slice_get ys m
get_second [] ys k m is = ap (slice_get ys) (omega (arith, is))
get_second (x ∷ xs) ys zero m is = absurd (omega (arith, is))
get_second (x ∷ xs) ys (suc k) m is = get_second xs ys k m (omega (arith, is))

-- what stands in a list that was made of another
pub get_mapped : {X Y : Type 0} (f : X → Y) (xs : List X) (k : ℕ) (y : Y) → slice_get (map f xs) k ≡ Some y → (x : X) × (slice_get xs k ≡ Some x) × (y ≡ f x)
get_mapped f [] k y is = cc
get_mapped f (x ∷ xs) zero y is = (x, refl, (let same : f x ≡ y = cc in sym same))
get_mapped f (x ∷ xs) (suc k) y is = get_mapped f xs k y is

-- of so many numbers one after another
pub get_numbered : {X : Type 0} (f : ℕ → X) (from n i j : ℕ) → i < n → from + i ≡ j → slice_get (map f (range_with_len from n)) i ≡ Some (f j)
get_numbered f from zero i j below is = absurd (omega (arith, below))
get_numbered f from (suc n) zero j below is = ap (λ x. Some (f x)) (omega (arith, is))
get_numbered f from (suc n) (suc i) j below is = get_numbered f (from + 1) n i j (omega (arith, below)) (omega (arith, is))

-- of two ways to part a list at an element, the one further right has the other's element before it
pub further_right : {X : Type 0} (a b c d : List X) (x y : X) → a ++ x ∷ b ≡ c ++ y ∷ d → length a < length c → (between : List X) × (c ≡ a ++ x ∷ between)
further_right [] b [] d x y is far = absurd (omega (arith, far))
further_right [] b (z ∷ c) d x y is far = (c, (let heads : x ≡ z = cc in cc))
further_right (w ∷ a) b [] d x y is far = absurd (omega (arith, far))
further_right (w ∷ a) b (z ∷ c) d x y is far =
    let tails : a ++ x ∷ b ≡ c ++ y ∷ d = cc in
    let heads : w ≡ z = cc in
    let found = further_right a b c d x y tails (omega (arith, far)) in
    let same = found.1 in
    (found.0, cc)

-- Counts

pub count_more : {X : Type 0} (p : X → Bool) (x : X) (xs : List X) → count_by p (x ∷ xs) ≡ cond (p x) 1 0 + count_by p xs
count_more p x xs = sum_by-cons (λ y. cond (p y) 1 0) x xs

-- where some pass, there is a last one
pub last_counted : {X : Type 0} (p : X → Bool) (xs : List X) (c : ℕ) → count_by p xs ≡ suc c
    → (before : List X) × (x : X) × (after : List X) × (xs ≡ before ++ x ∷ after) × (p x ≡ true) × (count_by p before ≡ c)
last_counted p [] c is = absurd (omega (arith, is))
last_counted {X} p (x ∷ xs) c is = go (count_by p xs) refl (λ n some. last_counted p xs n some)
  where
    go : (n : ℕ) → count_by p xs ≡ n
        → ((m : ℕ) → count_by p xs ≡ suc m → (before : List X) × (y : X) × (after : List X) × (xs ≡ before ++ y ∷ after) × (p y ≡ true) × (count_by p before ≡ m))
        → (before : List X) × (y : X) × (after : List X) × (x ∷ xs ≡ before ++ y ∷ after) × (p y ≡ true) × (count_by p before ≡ c)
    go zero none rest = ([], x, xs, refl, passes (p x) refl, nothing (p x) refl)
      where
        passes : (b : Bool) → p x ≡ b → b ≡ true
        passes true at = refl
        passes false at = absurd (omega (arith, sym is ∙ count_more p x xs, none, ap {B = ℕ} (λ b. cond b 1 0) at))

        nothing : (b : Bool) → p x ≡ b → 0 ≡ c
        nothing true at = omega (arith, sym is ∙ count_more p x xs, none, ap {B = ℕ} (λ b. cond b 1 0) at)
        nothing false at = absurd (omega (arith, sym is ∙ count_more p x xs, none, ap {B = ℕ} (λ b. cond b 1 0) at))
    go (suc n) some rest =
        let r = rest n some in
        (x ∷ r.0, r.1, r.2, ap (λ ys. x ∷ ys) r.3, r.4, count_more p x r.0 ∙ ap (λ k. cond (p x) 1 0 + k) r.5 ∙ all)
      where
        all : cond (p x) 1 0 + n ≡ c
        all = omega (arith, sym is ∙ count_more p x xs, some)
