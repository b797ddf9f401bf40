-- Plain facts of lists: what stands at a place, what passes a test, and what is written.
use Rattle.std.proofs.Common.{◌≡◌, ◌≢◌, ℕ, zero, suc, ◌<◌, ◌≤◌, eqb, Bool, true, false, cond, ◌&&◌, ◌||◌, List, [], ◌∷◌, ◌++◌, length, map, get_or, replicate, refl, sym, ◌∙◌, ap, subst, arith, Some, slice_get, slice_set, inl, inr}
use Rattle.std.specs.Prelude.{find}
use Rattle.std.specs.List.{list_all, list_any, AllByRecursion, IsDistinct}
use Rattle.std.proofs.lemmas.Bool.{eqb-true, ne_eqb}
use Rattle.std.proofs.lemmas.List.{length-map}
use Rattle.std.proofs.lemmas.Map.Steps.{length-le_from_distinct_below}
use Rattle.pipe_model.specs.Members.{flag_at}
use Rattle.pipe_model.specs.State.{below}
use Rattle.pipe_model.proofs.Truths.{both}
use Rattle.pipe_model.proofs.Numbers.{equal_or_not}

-- What stands at a place

-- within its length a list holds something
pub at_some : {A : Type 0} (xs : List A) (i : ℕ) → i < length xs → (x : A) × (slice_get xs i ≡ Some x)
at_some [] i lt = absurd (omega (arith, lt))
at_some (x ∷ xs) zero lt = (x, refl)
at_some (x ∷ xs) (suc i) lt = at_some xs i (omega (arith, lt))

-- where one of two lists of one length has something, the other has too
pub beside : {A B : Type 0} (xs : List A) (ys : List B) (j : ℕ) (x : A) → length xs ≡ length ys → slice_get xs j ≡ Some x → (y : B) × (slice_get ys j ≡ Some y)
beside [] ys j x n at = cc
beside (z ∷ zs) [] j x n at = absurd (omega (arith, n))
beside (z ∷ zs) (y ∷ ys) zero x n at = (y, refl)
beside (z ∷ zs) (y ∷ ys) (suc j) x n at = beside zs ys j x (omega (arith, n)) at

-- what stands just after a list
pub get_seam : {X : Type 0} (xs : List X) (y : X) (ys : List X) → slice_get (xs ++ y ∷ ys) (length xs) ≡ Some y
get_seam [] y ys = refl
get_seam (x ∷ xs) y ys = get_seam xs y ys

-- one more at the end, one longer
pub length_more : {A : Type 0} (xs : List A) (x : A) → length (xs ++ x ∷ []) ≡ suc (length xs)
length_more [] x = refl
length_more (y ∷ ys) x = ap suc (length_more ys x)

-- copies of one thing hold that thing
pub get_copy : {X : Type 0} (n : ℕ) (x y : X) (k : ℕ) → slice_get (replicate n x) k ≡ Some y → y ≡ x
get_copy zero x y k at = cc
get_copy (suc n) x y zero at = cc
get_copy (suc n) x y (suc k) at = get_copy n x y k at

pub read_copy : {X : Type 0} (n : ℕ) (x : X) (k : ℕ) → get_or (replicate n x) k x ≡ x
read_copy zero x k = refl
read_copy (suc n) x zero = refl
read_copy (suc n) x (suc k) = read_copy n x k

-- a flag that is set has a place
pub flag_place : (flags : List Bool) (i : ℕ) → flag_at flags i ≡ true → i < length flags
flag_place [] i e = cc
flag_place (f ∷ flags) zero e = omega arith
flag_place (f ∷ flags) (suc i) e = let r = flag_place flags i e in omega (arith, r)

-- What is written

-- the place that was written holds what was written
pub get_set_same : {A : Type 0} (xs : List A) (k : ℕ) (x y : A) → slice_get xs k ≡ Some y → slice_get (slice_set xs k x) k ≡ Some x
get_set_same [] k x y at = cc
get_set_same (z ∷ zs) zero x y at = refl
get_set_same (z ∷ zs) (suc k) x y at = get_set_same zs k x y at

-- each other place holds what it held
pub get_set_other : {A : Type 0} (xs : List A) (k j : ℕ) (x : A) → j ≢ k → slice_get (slice_set xs k x) j ≡ slice_get xs j
get_set_other [] k j x apart = refl
get_set_other (y ∷ ys) zero zero x apart = absurd (apart refl)
get_set_other (y ∷ ys) zero (suc j) x apart = refl
get_set_other (y ∷ ys) (suc k) zero x apart = refl
get_set_other (y ∷ ys) (suc k) (suc j) x apart = get_set_other ys k j x (λ e. apart (ap suc e))

-- What passes a test

-- what was found passes, and stands somewhere
pub found_at : {A : Type 0} {x : A} (p : A → Bool) (xs : List A) → find p xs ≡ Some x → (p x ≡ true) × ((j : ℕ) × (slice_get xs j ≡ Some x))
found_at p [] e = cc
found_at {A} {x} p (y ∷ ys) e = (elim (p y) as (λ b. p y ≡ b → cond b (Some y) (find p ys) ≡ Some x → (p x ≡ true) × ((j : ℕ) × (slice_get (y ∷ ys) j ≡ Some x))) [
  | true ↦ λ is got. (let it : y ≡ x = cc in (subst (λ z. p z ≡ true) it is, (0, got)))
  | false ↦ λ is got. (let r = found_at p ys got in (r.0, (suc r.1.0, r.1.1)))
]) refl e

-- where one that passes stands, one is found
pub finds : {A : Type 0} {x : A} (p : A → Bool) (xs : List A) (j : ℕ) → slice_get xs j ≡ Some x → p x ≡ true → (y : A) × (find p xs ≡ Some y)
finds p [] j here is = cc
finds {A} {x} p (y ∷ ys) zero here is = let it : y ≡ x = cc in (y, ap (λ b. cond b (Some y) (find p ys)) (subst (λ z. p z ≡ true) (sym it) is))
finds p (y ∷ ys) (suc j) here is = go (p y) refl (finds p ys j here is)
  where
    go : (b : Bool) → p y ≡ b → (z : _) × (find p ys ≡ Some z) → (z : _) × (cond (p y) (Some y) (find p ys) ≡ Some z)
    go true e r = (y, ap (λ b. cond b (Some y) (find p ys)) e)
    go false e r = (r.0, ap (λ b. cond b (Some y) (find p ys)) e ∙ r.1)

-- where all pass, each that stands there does
pub all_at : {A : Type 0} {x : A} (p : A → Bool) (xs : List A) (j : ℕ) → list_all p xs ≡ true → slice_get xs j ≡ Some x → p x ≡ true
all_at p [] j all here = cc
all_at p (y ∷ ys) zero all here = let r = both (p y) (list_all p ys) all in subst (λ z. p z ≡ true) (let e : y ≡ _ = cc in e) r.0
all_at p (y ∷ ys) (suc j) all here = all_at p ys j (both (p y) (list_all p ys) all).1 here

-- all pass where each that stands somewhere does
pub all_from : {A : Type 0} (p : A → Bool) (xs : List A) → ((j : ℕ) (x : A) → slice_get xs j ≡ Some x → p x ≡ true) → list_all p xs ≡ true
all_from p [] f = refl
all_from p (x ∷ xs) f = ap (λ b. b && list_all p xs) (f 0 x refl) ∙ all_from p xs (λ j y e. f (suc j) y e)

-- all pass a test that each passes where it passes another
pub all_too : {A : Type 0} (p q : A → Bool) (xs : List A) → ((x : A) → p x ≡ true → q x ≡ true) → list_all p xs ≡ true → list_all q xs ≡ true
all_too p q [] each all = refl
all_too p q (x ∷ xs) each all =
    let r = both (p x) (list_all p xs) all in
    let a = each x r.0 in
    let b = all_too p q xs each r.1 in
    ap (λ z. z && list_all q xs) a ∙ b

-- all numbers below n pass
pub all_below : (p : ℕ → Bool) (n : ℕ) → ((t : ℕ) → t < n → p t ≡ true) → list_all p (below n) ≡ true
all_below p zero each = refl
all_below p (suc n) each = ap (λ b. b && list_all p (below n)) (each n (omega arith)) ∙ all_below p n (λ t lt. each t (omega (arith, lt)))

-- what passes for all numbers below n passes for each
pub in_below : (p : ℕ → Bool) (n u : ℕ) → list_all p (below n) ≡ true → u < n → p u ≡ true
in_below p zero u all lt = absurd (omega arith)
in_below p (suc n) u all lt =
    let r = both (p n) (list_all p (below n)) all in
    elim (equal_or_not u n) [ inl it ↦ ap p it ∙ r.0 | inr other ↦ in_below p n u r.1 (omega arith) ]

-- How many there are

module _ {A : Type 0} (key : A → ℕ) where
  none_alike : (x : ℕ) (xs : List A) → ((j : ℕ) (y : A) → slice_get xs j ≡ Some y → x ≢ key y) → AllByRecursion (λ y. eqb x y ≡ false) (map key xs)
  none_alike x [] apart = tt
  none_alike x (y ∷ ys) apart = (ne_eqb x (key y) (apart 0 y refl), none_alike x ys (λ j z at. apart (suc j) z at))

  keys_distinct : (xs : List A) → ((j k : ℕ) (x y : A) → slice_get xs j ≡ Some x → slice_get xs k ≡ Some y → key x ≡ key y → j ≡ k) → IsDistinct eqb (map key xs)
  unfolding IsDistinct
  keys_distinct [] one = tt
  keys_distinct (x ∷ xs) one = (
    none_alike (key x) xs (λ j y at same. (let e : 0 ≡ suc j = one 0 (suc j) x y refl at same in absurd (omega (arith, e)))),
    keys_distinct xs (λ j k y z at_y at_z same. (let e : suc j ≡ suc k = one (suc j) (suc k) y z at_y at_z same in omega (arith, e))),
  )

  keys_below : (n : ℕ) (xs : List A) → ((j : ℕ) (x : A) → slice_get xs j ≡ Some x → key x < n) → (q : ℕ) → list_any (eqb q) (map key xs) ≡ true → q < n
  keys_below n [] below q there = cc
  keys_below n (x ∷ xs) below q there = by (eqb q (key x)) refl there (keys_below n xs (λ j y at. below (suc j) y at) q)
    where
      by : (b : Bool) → eqb q (key x) ≡ b → (b || list_any (eqb q) (map key xs)) ≡ true → (list_any (eqb q) (map key xs) ≡ true → q < n) → q < n
      by true is there others = let same = eqb-true q (key x) is in omega (arith, same, below 0 x refl)
      by false is there others = others there

  -- a list is no longer than a number below which its things have keys, no two of them alike
  pub few_by_keys : (n : ℕ) (xs : List A) → ((j k : ℕ) (x y : A) → slice_get xs j ≡ Some x → slice_get xs k ≡ Some y → key x ≡ key y → j ≡ k) → ((j : ℕ) (x : A) → slice_get xs j ≡ Some x → key x < n) → length xs ≤ n
  few_by_keys n xs one below = omega (arith, length-map xs key, length-le_from_distinct_below (map key xs) n (keys_distinct xs one) (keys_below n xs below))
