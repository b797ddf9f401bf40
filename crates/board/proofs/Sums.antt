-- Sums over lists that change at one place, and counts of places.
use Rattle.std.proofs.Common.{◌≡◌, ℕ, zero, suc, ◌+◌, ◌-◌, ◌<◌, ◌≤◌, ◌≢◌, ◌||◌, List, [], ◌∷◌, ◌++◌, length, set, sym, refl, ap, ◌∙◌, arith, cond, eqb, eq-eqb, ne_eqb, lt-ltb}
use mathlib.Core.Logic.{dite}
use native.Mathlib.Decide.{ℕ_discrete}
use mathlib.Core.Option.{some, some-injective, some-ne-none}
use lib.ListN.{get_elem?}
use Rattle.std.specs.Prelude.{sum_by, nat_lt}
use Rattle.std.specs.List.{range_with_len}
use Rattle.std.proofs.lemmas.List.Sums.{sum_by-cons, sum_by-append, sum_by_push}
use Rattle.board.specs.Counts.{times, places, places_after, signum}

module _ {A : Type 0} (g : A → ℕ) where
  pub sum-one : (x : A) → sum_by g (x ∷ []) ≡ g x
  sum-one x = sum_by-cons g x [] ∙ omega arith

  pub sum-set : (l : List A) (j : ℕ) (v w : A) → get_elem? l j ≡ some v → sum_by g (set l j w) + g v ≡ sum_by g l + g w
  sum-set [] j v w e = absurd (some-ne-none v (sym e))
  sum-set (x ∷ xs) zero v w e = omega (arith, ap g (some-injective x v e), sum_by-cons g x xs, sum_by-cons g w xs)
  sum-set (x ∷ xs) (suc j) v w e = omega (arith, sum-set xs j v w e, sum_by-cons g x xs, sum_by-cons g x (set xs j w))

  pub term_le : (l : List A) (j : ℕ) (v : A) → get_elem? l j ≡ some v → g v ≤ sum_by g l
  term_le [] j v e = absurd (some-ne-none v (sym e))
  term_le (x ∷ xs) zero v e = omega (arith, ap g (some-injective x v e), sum_by-cons g x xs)
  term_le (x ∷ xs) (suc j) v e = omega (arith, term_le xs j v e, sum_by-cons g x xs)

  pub terms_le : (l : List A) (j k : ℕ) (v u : A) → k ≢ j → get_elem? l j ≡ some v → get_elem? l k ≡ some u → g v + g u ≤ sum_by g l
  terms_le [] j k v u n e d = absurd (some-ne-none v (sym e))
  terms_le (x ∷ xs) zero zero v u n e d = absurd (n refl)
  terms_le (x ∷ xs) zero (suc k) v u n e d = omega (arith, ap g (some-injective x v e), term_le xs k u d, sum_by-cons g x xs)
  terms_le (x ∷ xs) (suc j) zero v u n e d = omega (arith, ap g (some-injective x u d), term_le xs j v e, sum_by-cons g x xs)
  terms_le (x ∷ xs) (suc j) (suc k) v u n e d = omega (arith, terms_le xs j k v u (λ h. n (ap suc h)) e d, sum_by-cons g x xs)

-- where each term of one sum is at most that of the other, so is the sum
pub sum-le : {A : Type 0} (g h : A → ℕ) (l : List A) → ((j : ℕ) (v : A) → get_elem? l j ≡ some v → g v ≤ h v) → sum_by g l ≤ sum_by h l
sum-le g h [] each = omega arith
sum-le g h (x ∷ xs) each = let first : g x ≤ h x = each 0 x refl in let more = sum-le g h xs (λ j v e. each (suc j) v e) in omega (arith, sum_by-cons g x xs, sum_by-cons h x xs)

module _ {A : Type 0} (g s : A → ℕ) where
  -- g is 0 wherever s is, and the sum of s is 0
  nothing : (l : List A) → sum_by s l ≡ 0 → ((k : ℕ) (u : A) → get_elem? l k ≡ some u → s u ≡ 0 → g u ≡ 0) → sum_by g l ≡ 0
  nothing [] all none = refl
  nothing (x ∷ xs) all none = let a = sum_by-cons s x xs in let b = sum_by-cons g x xs in
      let first : s x ≡ 0 = omega arith in let gone : g x ≡ 0 = none 0 x refl first in let more = nothing xs (omega arith) (λ k u h. none (suc k) u h) in omega arith

  -- where one term of s is the whole of its sum, and g is 0 wherever s is, that term of g is the whole of its sum
  pub sum-alone : (l : List A) (j : ℕ) (v : A) → get_elem? l j ≡ some v → sum_by s l ≡ s v → ((k : ℕ) (u : A) → get_elem? l k ≡ some u → s u ≡ 0 → g u ≡ 0) → sum_by g l ≡ g v
  sum-alone [] j v e all none = absurd (some-ne-none v (sym e))
  sum-alone (x ∷ xs) zero v e all none = let is = some-injective x v e in let s-is : s x ≡ s v = ap s is in let g-is : g x ≡ g v = ap g is in
      let a = sum_by-cons s x xs in let b = sum_by-cons g x xs in
      let rest = nothing xs (omega arith) (λ k u h. none (suc k) u h) in omega arith
  sum-alone (x ∷ xs) (suc j) v e all none = let part = term_le s xs j v e in let a = sum_by-cons s x xs in let b = sum_by-cons g x xs in
      let first : s x ≡ 0 = omega arith in let gone : g x ≡ 0 = none 0 x refl first in
      let more = sum-alone xs j v e (omega arith) (λ k u h. none (suc k) u h) in omega arith

-- Places

-- 1 where the places are the same, else 0
abbrev pub only : ℕ → ℕ → ℕ
only p q = cond (eqb q p) 1 0

pub only-le : (p q : ℕ) → only p q ≤ 1
only-le p q = dite (ℕ_discrete q p) (λ e. let h : only p q ≡ 1 = ap (λ b. cond b 1 0) (eq-eqb q p e) in omega arith) (λ ne. let h : only p q ≡ 0 = ap (λ b. cond b 1 0) (ne_eqb q p ne) in omega arith)

pub only-same : (p : ℕ) → only p p ≡ 1
only-same p = ap (λ b. cond b 1 0) (eq-eqb p p refl)

pub only-other : (p q : ℕ) → q ≢ p → only p q ≡ 0
only-other p q ne = ap (λ b. cond b 1 0) (ne_eqb q p ne)

pub times-append : (p : ℕ) (l m : List ℕ) → times p (l ++ m) ≡ times p l + times p m
times-append p l m = sum_by-append (only p) l m

pub times-cons : (p q : ℕ) (l : List ℕ) → times p (q ∷ l) ≡ only p q + times p l
times-cons p q l = sum_by-cons (only p) q l

pub times-one : (p q : ℕ) → times p (q ∷ []) ≡ only p q
times-one p q = sum-one (only p) q

pub times-push : (p q : ℕ) (l : List ℕ) → times p (l ++ q ∷ []) ≡ times p l + only p q
times-push p q l = sum_by_push (only p) l q

range_more : (a n : ℕ) → range_with_len a (suc n) ≡ range_with_len a n ++ (a + n) ∷ []
range_more a zero = let e : a ≡ a + 0 = omega arith in ap (λ (z : ℕ). z ∷ []) e
range_more a (suc n) = let e : a + 1 + n ≡ a + suc n = omega arith in ap (λ (l : List ℕ). a ∷ l) (range_more (a + 1) n ∙ ap (λ (z : ℕ). range_with_len (a + 1) n ++ z ∷ []) e)

places-suc : (p n : ℕ) → times p (places (suc n)) ≡ times p (places n) + only p (suc n)
places-suc p n = let e : 1 + n ≡ suc n = omega arith in ap (times p) (range_more 1 n) ∙ times-push p (1 + n) (places n) ∙ ap (λ (z : ℕ). times p (places n) + only p z) e

places-above : (p n : ℕ) → n < p → times p (places n) ≡ 0
places-above p zero h = refl
places-above p (suc n) h = let other = only-other p (suc n) (λ e. omega arith) in let more = places-above p n (omega arith) in omega (arith, places-suc p n)

pub places-le : (p n : ℕ) → times p (places n) ≤ 1
places-le p zero = omega arith
places-le p (suc n) = let step = places-suc p n in
    dite (ℕ_discrete (suc n) p) (λ e. let above = places-above p n (omega arith) in let le = only-le p (suc n) in omega arith) (λ ne. let other = only-other p (suc n) ne in let more = places-le p n in omega arith)

-- The places after some entries

range_parts : (a i j : ℕ) → range_with_len a (i + j) ≡ range_with_len a i ++ range_with_len (a + i) j
range_parts a zero j = let e : 0 + j ≡ j = omega arith in let d : a ≡ a + 0 = omega arith in ap (range_with_len a) e ∙ ap (λ (z : ℕ). range_with_len z j) d
range_parts a (suc i) j = let e : suc i + j ≡ suc (i + j) = omega arith in let d : a + 1 + i ≡ a + suc i = omega arith in
    ap (range_with_len a) e ∙ ap (λ (l : List ℕ). a ∷ l) (range_parts (a + 1) i j ∙ ap (λ (z : ℕ). range_with_len (a + 1) i ++ range_with_len z j) d)

-- the places of n entries are those of the first m and those after them
pub places-parts : (p m n : ℕ) → m ≤ n → times p (places n) ≡ times p (places m) + times p (places_after m n)
places-parts p m n le = let e : n ≡ m + (n - m) = omega arith in let d : 1 + m ≡ m + 1 = omega arith in
    ap (λ (z : ℕ). times p (places z)) e ∙ (ap (times p) (range_parts 1 m (n - m) ∙ ap (λ (z : ℕ). places m ++ range_with_len z (n - m)) d) ∙ times-append p (places m) (places_after m n))

pub places_after-none : (m n : ℕ) → n ≡ m → places_after m n ≡ []
places_after-none m n e = let none : n - m ≡ 0 = omega arith in ap (range_with_len (m + 1)) none

pub places_after-one : (m n : ℕ) → n ≡ m + 1 → places_after m n ≡ n ∷ []
places_after-one m n e = let one : n - m ≡ 1 = omega arith in ap (range_with_len (m + 1)) one ∙ ap (λ (z : ℕ). z ∷ []) (sym e)

-- where there are some, the last one is the number of entries
pub places_after-last : (p m n : ℕ) → m < n → times p (places_after m n) ≡ times p (places_after m (n - 1)) + times p (n ∷ [])
places_after-last p m n lt = let k : ℕ = n - 1 - m in let e : n - m ≡ suc k = omega arith in let d : m + 1 + k ≡ n = omega arith in
    ap (λ (z : ℕ). times p (range_with_len (m + 1) z)) e ∙ (ap (times p) (range_more (m + 1) k ∙ ap (λ (z : ℕ). range_with_len (m + 1) k ++ z ∷ []) d) ∙ times-append p (places_after m (n - 1)) (n ∷ []))

-- Tests of 0

pub signum-positive : (n : ℕ) → 0 < n → signum n ≡ 1
signum-positive zero h = absurd (omega arith)
signum-positive (suc n) h = refl

pub signum-zero : (n : ℕ) → signum n ≡ 0 → n ≡ 0
signum-zero zero h = refl
signum-zero (suc n) h = absurd (omega arith)

pub signum-le : (n : ℕ) → signum n ≤ 1
signum-le zero = omega arith
signum-le (suc n) = omega arith

-- a sum is more than 0 where one of its terms is
pub positive-sum : (a b : ℕ) → nat_lt 0 (a + b) ≡ (nat_lt 0 a || nat_lt 0 b)
positive-sum zero b = let e : 0 + b ≡ b = omega arith in ap (nat_lt 0) e
positive-sum (suc a) b = lt-ltb 0 (suc a + b) (omega arith) ∙ sym (ap (λ c. c || nat_lt 0 b) (lt-ltb 0 (suc a) (omega arith)))

module _ {A : Type 0} where
  pub inside : (l : List A) (i : ℕ) (a : A) → get_elem? l i ≡ some a → i < length l
  inside [] i a e = absurd (some-ne-none a (sym e))
  inside (x ∷ xs) zero a e = omega arith
  inside (x ∷ xs) (suc i) a e = let h = inside xs i a e in omega arith
