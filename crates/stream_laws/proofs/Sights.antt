-- What is in sight on an input, and the first input that passes a test.
use Rattle.std.proofs.Common.{◌≡◌, ◌⊎◌, inl, inr, ℕ, zero, suc, ◌+◌, ◌<◌, ◌≤◌, Bool, true, false, cond, ◌||◌, ◌==◌, List, [], ◌∷◌, ◌++◌, refl, sym, ◌∙◌, ap, arith, Some, None}
use Rattle.std.specs.Prelude.{find}
use Rattle.std.specs.List.{range_with_len}
use Rattle.std.proofs.lemmas.Bool.Decides.{nat_tests}
use Rattle.std.proofs.lemmas.List.{append-nil}
use Rattle.std.proofs.lemmas.Bool.{eqb-true}
use Rattle.pipe_model.specs.Row.{Pair, sees, without}
use Rattle.pipe_model.specs.Shape.{Records, records_of}
use Rattle.pipe_model.specs.Inputs.{records_from}
use Rattle.pipe_model.proofs.Numbers.{test_same}
use Rattle.stream_laws.proofs.Streams.{from, on_both}

-- nothing is in sight where no record is
pub sees_none : (i : ℕ) (sight : List Pair) → records_from i sight ≡ [] → sees i sight ≡ false
sees_none i [] none = refl
sees_none i (p ∷ ps) none = by_test (p.0 == i) none (λ e. sees_none i ps e)
  where
    by_test : (b : Bool) → records_of (cond b (p ∷ from i ps) (from i ps)) ≡ [] → (records_from i ps ≡ [] → sees i ps ≡ false) → (b || sees i ps) ≡ false
    by_test true e rest = cc
    by_test false e rest = rest e

-- and something where one is
pub sees_some : (i : ℕ) (sight : List Pair) (rec : List ℕ) (more : Records) → records_from i sight ≡ rec ∷ more → sees i sight ≡ true
sees_some i [] rec more some = cc
sees_some i (p ∷ ps) rec more some = by_test (p.0 == i) some (λ e. sees_some i ps rec more e)
  where
    by_test : (b : Bool) → records_of (cond b (p ∷ from i ps) (from i ps)) ≡ rec ∷ more → (records_from i ps ≡ rec ∷ more → sees i ps ≡ true) → (b || sees i ps) ≡ true
    by_test true e rest = refl
    by_test false e rest = rest e

abbrev pub rest_of : Records → Records
rest_of [] = []
rest_of (rec ∷ recs) = recs

-- its own record is gone
pub without_own : (i : ℕ) (sight : List Pair) → records_from i (without i sight) ≡ rest_of (records_from i sight)
without_own i [] = refl
without_own i (p ∷ ps) = by_test (p.0 == i) refl (without_own i ps)
  where
    by_test : (b : Bool) → (p.0 == i) ≡ b → records_from i (without i ps) ≡ rest_of (records_from i ps) → records_from i (cond b ps (p ∷ without i ps)) ≡ rest_of (records_of (cond b (p ∷ from i ps) (from i ps)))
    by_test true is e = refl
    by_test false is e = ap (λ z. records_of (cond z (p ∷ from i (without i ps)) (from i (without i ps)))) is ∙ e

-- those of the others stay
pub without_others : (i j : ℕ) (sight : List Pair) → (i == j) ≡ false → records_from j (without i sight) ≡ records_from j sight
without_others i j [] apart = refl
without_others i j (p ∷ ps) apart = by_test (p.0 == i) refl (without_others i j ps apart)
  where
    cons : (b : Bool) (xs ys : List Pair) → records_of xs ≡ records_of ys → records_of (cond b (p ∷ xs) xs) ≡ records_of (cond b (p ∷ ys) ys)
    cons true xs ys e = ap (λ z. p.1 ∷ z) e
    cons false xs ys e = e

    by_test : (b : Bool) → (p.0 == i) ≡ b → records_from j (without i ps) ≡ records_from j ps → records_from j (cond b ps (p ∷ without i ps)) ≡ records_from j (p ∷ ps)
    by_test true is e =
        let it : (p.0 == j) ≡ false = ap (λ z. z == j) (eqb-true p.0 i is) ∙ apart in
        sym (ap (λ z. records_of (cond z (p ∷ from j ps) (from j ps))) it)
    by_test false is e = cons (p.0 == j) (from j (without i ps)) (from j ps) e

-- a record that is seen anew
pub now_own : (i : ℕ) (sight : List Pair) (rec : List ℕ) → records_from i sight ≡ [] → records_from i (without i sight ++ (i, rec) ∷ []) ≡ rec ∷ []
now_own i sight rec none =
    on_both i (without i sight) ((i, rec) ∷ []) ∙ ap (λ z. z ++ records_from i ((i, rec) ∷ [])) (without_own i sight ∙ ap rest_of none)
    ∙ ap (λ b. records_of (cond b ((i, rec) ∷ []) [])) (test_same i)

pub now_others : (i j : ℕ) (sight : List Pair) (rec : List ℕ) → (i == j) ≡ false → records_from j (without i sight ++ (i, rec) ∷ []) ≡ records_from j sight
now_others i j sight rec apart =
    on_both j (without i sight) ((i, rec) ∷ []) ∙ ap (λ b. records_from j (without i sight) ++ records_of (cond b ((i, rec) ∷ []) [])) apart
    ∙ append-nil (records_from j (without i sight)) ∙ without_others i j sight apart

-- The first input that passes

pub finds_it : (p : ℕ → Bool) (a m b : ℕ) → b ≤ a → a < b + m → ((j : ℕ) → j < a → p j ≡ false) → p a ≡ true → find p (range_with_len b m) ≡ Some a
finds_it p a zero b le lt none here = absurd (omega arith)
finds_it p a (suc m) b le lt none here = by_place (places a b le) (λ less. finds_it p a m (b + 1) (omega arith) (omega arith) none here)
  where
    places : (a b : ℕ) → b ≤ a → (b ≡ a) ⊎ (b < a)
    places a b le = grind (arith, nat_tests)

    by_place : (b ≡ a) ⊎ (b < a) → (b < a → find p (range_with_len (b + 1) m) ≡ Some a) → cond (p b) (Some b) (find p (range_with_len (b + 1) m)) ≡ Some a
    by_place (inl is) rest = ap (λ z. cond z (Some b) (find p (range_with_len (b + 1) m))) (ap p is ∙ here) ∙ ap (λ z. Some z) is
    by_place (inr less) rest = ap (λ z. cond z (Some b) (find p (range_with_len (b + 1) m))) (none b less) ∙ rest less

pub finds_none : (p : ℕ → Bool) (n m b : ℕ) → b + m ≡ n → ((j : ℕ) → j < n → p j ≡ false) → find p (range_with_len b m) ≡ None
finds_none p n zero b sum none = refl
finds_none p n (suc m) b sum none = ap (λ z. cond z (Some b) (find p (range_with_len (b + 1) m))) (none b (omega (arith, sum))) ∙ finds_none p n m (b + 1) (omega (arith, sum)) none
