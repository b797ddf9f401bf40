-- What is in sight, by inputs.
use Rattle.std.proofs.Common.{◌≡◌, ◌≢◌, ℕ, zero, suc, ◌<◌, Bool, true, false, cond, ◌==◌, ◌&&◌, ◌||◌, List, [], ◌∷◌, ◌++◌, length, drop, refl, sym, ◌∙◌, ap, subst, arith, Some, slice_get, get_or}
use Rattle.std.specs.Prelude.{filter}
use Rattle.std.specs.List.{list_any, list_all}
use Rattle.std.proofs.lemmas.Bool.{eqb-true}
use Rattle.std.proofs.lemmas.List.{append-nil, map-append}
use Rattle.std.proofs.lemmas.List.Elements.{filter-append}
use Rattle.pipe_model.specs.Inputs.{records_from}
use Rattle.pipe_model.specs.Row.{Pair, sees, without}
use Rattle.pipe_model.specs.Shape.{records_of}
use Rattle.pipe_model.proofs.Numbers.{test_same}

-- One more record

abbrev pub one_by : Bool → List ℕ → List (List ℕ) → List (List ℕ)
one_by b rec recs = cond b (recs ++ rec ∷ []) recs

pub records_more : (seen : List Pair) (i j : ℕ) (rec : List ℕ) → records_from j (seen ++ (i, rec) ∷ []) ≡ one_by (i == j) rec (records_from j seen)
records_more seen i j rec =
    ap records_of (filter-append (λ (p : Pair). p.0 == j) seen ((i, rec) ∷ []))
    ∙ (elim (i == j) as (λ b. records_of (filter (λ (p : Pair). p.0 == j) seen ++ cond b ((i, rec) ∷ []) []) ≡ one_by b rec (records_from j seen)) [
      | true ↦ map-append (λ (p : Pair). p.1) (filter (λ (p : Pair). p.0 == j) seen) ((i, rec) ∷ [])
      | false ↦ ap records_of (append-nil (filter (λ (p : Pair). p.0 == j) seen))
    ])

-- One record less

pub without_here : (i : ℕ) (sight : List Pair) → records_from i (without i sight) ≡ drop 1 (records_from i sight)
without_here i [] = refl
without_here i (p ∷ ps) = by (p.0 == i) refl (without_here i ps)
  where
    by : (b : Bool) → (p.0 == i) ≡ b → records_from i (without i ps) ≡ drop 1 (records_from i ps) →
        records_from i (cond b ps (p ∷ without i ps)) ≡ drop 1 (records_of (cond b (p ∷ filter (λ (q : Pair). q.0 == i) ps) (filter (λ (q : Pair). q.0 == i) ps)))
    by true is rest = refl
    by false is rest = ap (λ b. records_of (cond b (p ∷ filter (λ (q : Pair). q.0 == i) (without i ps)) (filter (λ (q : Pair). q.0 == i) (without i ps)))) is ∙ rest

pub without_other : (i j : ℕ) (sight : List Pair) → j ≢ i → records_from j (without i sight) ≡ records_from j sight
without_other i j [] apart = refl
without_other i j (p ∷ ps) apart = by (p.0 == i) refl (p.0 == j) refl (without_other i j ps apart)
  where
    by : (a : Bool) → (p.0 == i) ≡ a → (b : Bool) → (p.0 == j) ≡ b → records_from j (without i ps) ≡ records_from j ps →
        records_from j (cond a ps (p ∷ without i ps)) ≡ records_of (cond b (p ∷ filter (λ (q : Pair). q.0 == j) ps) (filter (λ (q : Pair). q.0 == j) ps))
    by true is true it rest = absurd (apart (sym (eqb-true p.0 j it) ∙ eqb-true p.0 i is))
    by true is false it rest = refl
    by false is true it rest = ap (λ b. records_of (cond b (p ∷ filter (λ (q : Pair). q.0 == j) (without i ps)) (filter (λ (q : Pair). q.0 == j) (without i ps)))) it ∙ ap (λ recs. p.1 ∷ recs) rest
    by false is false it rest = ap (λ b. records_of (cond b (p ∷ filter (λ (q : Pair). q.0 == j) (without i ps)) (filter (λ (q : Pair). q.0 == j) (without i ps)))) it ∙ rest

-- Whether one is in sight

pub sees_none : (i : ℕ) (sight : List Pair) → records_from i sight ≡ [] → sees i sight ≡ false
sees_none i [] none = refl
sees_none i (p ∷ ps) none = by (p.0 == i) none (sees_none i ps)
  where
    by : (b : Bool) → records_of (cond b (p ∷ filter (λ (q : Pair). q.0 == i) ps) (filter (λ (q : Pair). q.0 == i) ps)) ≡ [] → (records_from i ps ≡ [] → sees i ps ≡ false) → (b || sees i ps) ≡ false
    by true none rest = cc
    by false none rest = rest none

pub sees_one : {rec : List ℕ} {recs : List (List ℕ)} (i : ℕ) (sight : List Pair) → records_from i sight ≡ rec ∷ recs → sees i sight ≡ true
sees_one i [] some = cc
sees_one {rec} {recs} i (p ∷ ps) some = by (p.0 == i) some (sees_one i ps)
  where
    by : (b : Bool) → records_of (cond b (p ∷ filter (λ (q : Pair). q.0 == i) ps) (filter (λ (q : Pair). q.0 == i) ps)) ≡ rec ∷ recs → (records_from i ps ≡ rec ∷ recs → sees i ps ≡ true) → (b || sees i ps) ≡ true
    by true some rest = refl
    by false some rest = rest some

-- Each of them

-- the first of an input stands somewhere
pub stands_at : {rec : List ℕ} {recs : List (List ℕ)} (i : ℕ) (sight : List Pair) → records_from i sight ≡ rec ∷ recs → (at : ℕ) × (slice_get sight at ≡ Some (i, rec))
stands_at i [] some = cc
stands_at {rec} {recs} i (p ∷ ps) some = by (p.0 == i) refl some (stands_at i ps)
  where
    by : (b : Bool) → (p.0 == i) ≡ b → records_of (cond b (p ∷ filter (λ (q : Pair). q.0 == i) ps) (filter (λ (q : Pair). q.0 == i) ps)) ≡ rec ∷ recs →
        (records_from i ps ≡ rec ∷ recs → (at : ℕ) × (slice_get ps at ≡ Some (i, rec))) → (at : ℕ) × (slice_get (p ∷ ps) at ≡ Some (i, rec))
    by true is some rest =
        let here : p.0 ≡ i = eqb-true p.0 i is in
        let it : p.1 ≡ rec = cc in
        (0, subst (λ j. Some p ≡ Some (j, rec)) here (subst (λ r. Some p ≡ Some (p.0, r)) it refl))
    by false is some rest = let r = rest some in (suc r.0, r.1)

-- what stands there is among those of its input
pub is_among : (sight : List Pair) (at : ℕ) (p : Pair) → slice_get sight at ≡ Some p → (k : ℕ) × (slice_get (records_from p.0 sight) k ≡ Some p.1)
is_among [] at p here = cc
is_among (q ∷ ps) zero p here =
    let same : q ≡ p = cc in
    subst (λ (z : Pair). (k : ℕ) × (slice_get (records_from z.0 (q ∷ ps)) k ≡ Some z.1)) same
    (0, ap (λ b. slice_get (records_of (cond b (q ∷ filter (λ (r : Pair). r.0 == q.0) ps) (filter (λ (r : Pair). r.0 == q.0) ps))) 0) (test_same q.0))
is_among (q ∷ ps) (suc at) p here = by (q.0 == p.0) (is_among ps at p here)
  where
    by : (b : Bool) → (k : ℕ) × (slice_get (records_from p.0 ps) k ≡ Some p.1) → (k : ℕ) × (slice_get (records_of (cond b (q ∷ filter (λ (r : Pair). r.0 == p.0) ps) (filter (λ (r : Pair). r.0 == p.0) ps))) k ≡ Some p.1)
    by true r = (suc r.0, r.1)
    by false r = r

pub not_among_none : (sight : List Pair) (at : ℕ) (p : Pair) → slice_get sight at ≡ Some p → records_from p.0 sight ≡ [] → ⊥
not_among_none sight at p here none =
    let r = is_among sight at p here in
    let e : slice_get [] r.0 ≡ Some p.1 = subst (λ recs. slice_get recs r.0 ≡ Some p.1) none r.1 in cc

pub is_the_one : {rec : List ℕ} (sight : List Pair) (at : ℕ) (p : Pair) → slice_get sight at ≡ Some p → records_from p.0 sight ≡ rec ∷ [] → p.1 ≡ rec
is_the_one {rec} sight at p here one =
    let r = is_among sight at p here in
    only r.0 (subst (λ recs. slice_get recs r.0 ≡ Some p.1) one r.1)
  where
    only : (k : ℕ) → slice_get (rec ∷ []) k ≡ Some p.1 → p.1 ≡ rec
    only zero e = cc
    only (suc k) e = cc

-- Tests along a list

pub any_at : {A : Type 0} {x : A} (f : A → Bool) (xs : List A) (j : ℕ) → slice_get xs j ≡ Some x → f x ≡ true → list_any f xs ≡ true
any_at f [] j here is = cc
any_at {A} {x} f (y ∷ ys) zero here is = let it : y ≡ x = cc in ap (λ b. b || list_any f ys) (ap f it ∙ is)
any_at f (y ∷ ys) (suc j) here is = or_true (f y) (any_at f ys j here is)
  where
    or_true : (a : Bool) {b : Bool} → b ≡ true → (a || b) ≡ true
    or_true true e = refl
    or_true false e = e

pub any_none : {A : Type 0} (f : A → Bool) (xs : List A) → ((j : ℕ) (x : A) → slice_get xs j ≡ Some x → f x ≡ false) → list_any f xs ≡ false
any_none f [] each = refl
any_none f (x ∷ xs) each = ap (λ b. b || list_any f xs) (each 0 x refl) ∙ any_none f xs (λ j y e. each (suc j) y e)

pub not_all : {A : Type 0} {x : A} (f : A → Bool) (xs : List A) (j : ℕ) → slice_get xs j ≡ Some x → f x ≡ false → list_all f xs ≡ false
not_all f [] j here is = cc
not_all {A} {x} f (y ∷ ys) zero here is = let it : y ≡ x = cc in ap (λ b. b && list_all f ys) (ap f it ∙ is)
not_all f (y ∷ ys) (suc j) here is = and_false (f y) (not_all f ys j here is)
  where
    and_false : (a : Bool) {b : Bool} → b ≡ false → (a && b) ≡ false
    and_false true e = e
    and_false false e = refl

-- two tests that agree along a list keep the same
pub keep_same : {A : Type 0} (f g : A → Bool) (xs : List A) → ((j : ℕ) (x : A) → slice_get xs j ≡ Some x → f x ≡ g x) → filter f xs ≡ filter g xs
keep_same f g [] each = refl
keep_same f g (x ∷ xs) each =
    ap (λ b. cond b (x ∷ filter f xs) (filter f xs)) (each 0 x refl)
    ∙ ap (λ ys. cond (g x) (x ∷ ys) ys) (keep_same f g xs (λ j y e. each (suc j) y e))

-- what was read at a place stands there
pub got : {A : Type 0} (xs : List A) (i : ℕ) (x : A) → i < length xs → x ≡ get_or xs i x → slice_get xs i ≡ Some x
got [] i x low e = absurd (omega (arith, low))
got (y ∷ ys) zero x low e = ap Some (sym e)
got (y ∷ ys) (suc i) x low e = got ys i x (omega (arith, low)) e

pub some_within : {A : Type 0} {x : A} (xs : List A) (i : ℕ) → slice_get xs i ≡ Some x → i < length xs
some_within [] i here = cc
some_within (y ∷ ys) zero here = omega arith
some_within (y ∷ ys) (suc i) here = let r = some_within ys i here in omega (arith, r)
