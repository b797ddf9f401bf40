-- What is in sight on the inputs, and how many records of each.
use Rattle.std.proofs.Common.{◌≡◌, ◌≢◌, ℕ, suc, ◌≤◌, Bool, true, false, cond, ◌&&◌, ◌||◌, not, ◌==◌, List, [], ◌∷◌, ◌++◌, refl, sym, ◌∙◌, ap, subst, arith}
use Rattle.std.proofs.lemmas.Bool.Decides.{nat_tests}
use Rattle.std.proofs.lemmas.Bool.{eqb-true, ne_eqb}
use Rattle.std.proofs.Math.Bool.{and-false}
use Rattle.pipe_model.specs.Event.{one_more}
use Rattle.pipe_model.specs.Row.{Pair, sees, without}
use Rattle.pipe_model.proofs.Truths.{neither}

-- each input has one record in sight at most
abbrev pub IsOnce : List Pair → Type 0
IsOnce [] = Unit {0}
IsOnce (p ∷ ps) = (sees p.0 ps ≡ false) × IsOnce ps

-- a record more in sight
pub sees_more : (i : ℕ) (sight : List Pair) (j : ℕ) (rec : List ℕ) → sees i (sight ++ (j, rec) ∷ []) ≡ ((j == i) || sees i sight)
sees_more i [] j rec = refl
sees_more i (p ∷ ps) j rec = ap (λ b. (p.0 == i) || b) (sees_more i ps j rec) ∙ swap (p.0 == i) (j == i) (sees i ps)
  where
    swap : (a b c : Bool) → (a || (b || c)) ≡ (b || (a || c))
    swap true true c = refl
    swap true false c = refl
    swap false true c = refl
    swap false false c = refl

-- a record on an input that had none in sight leaves each input one at most
pub once_more : (sight : List Pair) (j : ℕ) (rec : List ℕ) → IsOnce sight → sees j sight ≡ false → IsOnce (sight ++ (j, rec) ∷ [])
once_more [] j rec once unseen = (refl, tt)
once_more (p ∷ ps) j rec once unseen =
    let parts = neither (p.0 == j) (sees j ps) unseen in
    (sees_more p.0 ps j rec ∙ ap (λ b. b || sees p.0 ps) (other p.0 j parts.0) ∙ once.0, once_more ps j rec once.1 parts.1)
  where
    other : (a b : ℕ) → (a == b) ≡ false → (b == a) ≡ false
    other a b e = grind (arith, nat_tests)

-- what is in sight after a record was taken
pub sees_without : (i j : ℕ) (sight : List Pair) → IsOnce sight → sees i (without j sight) ≡ (not (j == i) && sees i sight)
sees_without i j [] once = (elim (j == i) as (λ b. false ≡ (not b && false)) [ true ↦ refl | false ↦ refl ])
sees_without i j (p ∷ ps) once = (elim (p.0 == j) as (λ b. (p.0 == j) ≡ b → sees i (cond b ps (p ∷ without j ps)) ≡ (not (j == i) && ((p.0 == i) || sees i ps))) [
  | true ↦ λ is. (
      let same : p.0 ≡ j = eqb-true p.0 j is in
      let gone : sees j ps ≡ false = subst (λ z. sees z ps ≡ false) same once.0 in
      taken_one gone (ap (λ z. z == i) same)
      )
  | false ↦ λ is. kept (sees_without i j ps once.1) is
]) refl
  where
    taken_one : sees j ps ≡ false → (p.0 == i) ≡ (j == i) → sees i ps ≡ (not (j == i) && ((p.0 == i) || sees i ps))
    taken_one gone same = (elim (j == i) as (λ b. (j == i) ≡ b → (p.0 == i) ≡ b → sees i ps ≡ (not b && ((p.0 == i) || sees i ps))) [
      | true ↦ λ is q. subst (λ z. sees z ps ≡ false) (eqb-true j i is) gone
      | false ↦ λ is q. ap (λ b. b || sees i ps) (sym q)
    ]) refl same

    kept : sees i (without j ps) ≡ (not (j == i) && sees i ps) → (p.0 == j) ≡ false → ((p.0 == i) || sees i (without j ps)) ≡ (not (j == i) && ((p.0 == i) || sees i ps))
    kept rest apart = (elim (p.0 == i) as (λ b. (p.0 == i) ≡ b → (b || sees i (without j ps)) ≡ (not (j == i) && (b || sees i ps))) [
      | true ↦ λ is. ap (λ b. not b && true) (sym (unlike is))
      | false ↦ λ is. rest
    ]) refl
      where
        unlike : (p.0 == i) ≡ true → (j == i) ≡ false
        unlike is = grind (arith, nat_tests)

-- and so does taking one
pub once_without : (j : ℕ) (sight : List Pair) → IsOnce sight → IsOnce (without j sight)
once_without j [] once = tt
once_without j (p ∷ ps) once = elim (p.0 == j) as (λ b. IsOnce (cond b ps (p ∷ without j ps))) [
  | true ↦ once.1
  | false ↦ (sees_without p.0 j ps once.1 ∙ ap (λ b. not (j == p.0) && b) once.0 ∙ and-false (not (j == p.0)), once_without j ps once.1)
]

-- how many records are in sight on an input
abbrev pub count_on : ℕ → List Pair → ℕ
count_on i [] = 0
count_on i (p ∷ ps) = one_more (p.0 == i) (count_on i ps)

-- none is counted where none is seen
pub count_none : (i : ℕ) (ps : List Pair) → sees i ps ≡ false → count_on i ps ≡ 0
count_none i [] e = refl
count_none i (p ∷ ps) e = go (p.0 == i) e (λ q. count_none i ps q)
  where
    go : (b : Bool) → (b || sees i ps) ≡ false → (sees i ps ≡ false → count_on i ps ≡ 0) → one_more b (count_on i ps) ≡ 0
    go true q rest = cc
    go false q rest = rest q

-- nothing goes out of sight that isn't there
without_unseen : (i : ℕ) (ps : List Pair) → sees i ps ≡ false → without i ps ≡ ps
without_unseen i [] e = refl
without_unseen i (p ∷ ps) e = go (p.0 == i) e (λ q. without_unseen i ps q)
  where
    go : (b : Bool) → (b || sees i ps) ≡ false → (sees i ps ≡ false → without i ps ≡ ps) → cond b ps (p ∷ without i ps) ≡ p ∷ ps
    go true q rest = cc
    go false q rest = ap (λ z. p ∷ z) (rest q)

-- one more comes into sight
count_more : (i j : ℕ) (rec : List ℕ) (ps : List Pair) → count_on j (ps ++ (i, rec) ∷ []) ≡ one_more (i == j) (count_on j ps)
count_more i j rec [] = refl
count_more i j rec (p ∷ ps) = ap (one_more (p.0 == j)) (count_more i j rec ps) ∙ swap (p.0 == j) (i == j) (count_on j ps)
  where
    swap : (a b : Bool) (n : ℕ) → one_more a (one_more b n) ≡ one_more b (one_more a n)
    swap true true n = refl
    swap true false n = refl
    swap false b n = refl

-- where none was seen
pub count_saw : (i j : ℕ) (rec : List ℕ) (ps : List Pair) → sees i ps ≡ false → count_on j (without i ps ++ (i, rec) ∷ []) ≡ one_more (i == j) (count_on j ps)
count_saw i j rec ps unseen = ap (λ z. count_on j (z ++ (i, rec) ∷ [])) (without_unseen i ps unseen) ∙ count_more i j rec ps

-- one goes out of sight
pub count_took : (i : ℕ) (ps : List Pair) → sees i ps ≡ true → suc (count_on i (without i ps)) ≡ count_on i ps
count_took i [] e = cc
count_took i (p ∷ ps) e = go (p.0 == i) refl e (λ q. count_took i ps q)
  where
    go : (b : Bool) → (p.0 == i) ≡ b → (b || sees i ps) ≡ true → (sees i ps ≡ true → suc (count_on i (without i ps)) ≡ count_on i ps) → suc (count_on i (cond b ps (p ∷ without i ps))) ≡ one_more b (count_on i ps)
    go true is q rest = refl
    go false is q rest = ap (λ b. suc (one_more b (count_on i (without i ps)))) is ∙ rest q

-- and none of another input
pub count_other : (i j : ℕ) (ps : List Pair) → i ≢ j → count_on j (without i ps) ≡ count_on j ps
count_other i j [] apart = refl
count_other i j (p ∷ ps) apart = go (p.0 == i) refl (count_other i j ps apart)
  where
    go : (b : Bool) → (p.0 == i) ≡ b → count_on j (without i ps) ≡ count_on j ps → count_on j (cond b ps (p ∷ without i ps)) ≡ one_more (p.0 == j) (count_on j ps)
    go true is rest = ap (λ b. one_more b (count_on j ps)) (sym (ne_eqb p.0 j (λ e. apart (sym (eqb-true p.0 i is) ∙ e))))
    go false is rest = ap (one_more (p.0 == j)) rest

-- an input of which each record in sight is another's shows one at most
pub count_once : (i : ℕ) (ps : List Pair) → IsOnce ps → count_on i ps ≤ 1
count_once i [] once = omega arith
count_once i (p ∷ ps) once = by_test (p.0 == i) refl (count_once i ps once.1)
  where
    by_test : (b : Bool) → (p.0 == i) ≡ b → count_on i ps ≤ 1 → one_more b (count_on i ps) ≤ 1
    by_test true is rest = let a = count_none i ps (subst (λ z. sees z ps ≡ false) (eqb-true p.0 i is) once.0) in omega (arith, a)
    by_test false is rest = rest
