-- The flags of open outputs.
use Rattle.std.proofs.Common.{◌≡◌, ◌≢◌, ℕ, zero, suc, ◌+◌, ◌<◌, ◌≤◌, Bool, true, false, ◌&&◌, ◌||◌, not, ◌==◌, List, [], ◌∷◌, length, slice_set, refl, sym, ◌∙◌, ap, arith, add-zero}
use Rattle.std.specs.List.{list_any}
use Rattle.std.proofs.lemmas.Bool.{ne_eqb, eq-eqb}
use Rattle.std.proofs.Math.Bool.{and-true, and-false}
use Rattle.pipe_model.specs.Next.{is_open, all_refused_from, is_refused}
use Rattle.pipe_model.specs.Members.{has, flag_at}
use Rattle.stage_steps.specs.Outputs.{open_from, closed_from, none_left}

-- a flag that isn't the closed one
stays : (k q : ℕ) (flag : Bool) (flags : List Bool) → q ≢ k → closed_from k q (flag ∷ flags) ≡ flag ∷ closed_from (suc k) q flags
stays k q flag flags p = ap (λ z. (flag && not z) ∷ closed_from (suc k) q flags) (ne_eqb q k p) ∙ ap (λ z. z ∷ closed_from (suc k) q flags) (and-true flag)

closed-below : (k q : ℕ) (flags : List Bool) → q < k → closed_from k q flags ≡ flags
closed-below k q [] lt = refl
closed-below k q (flag ∷ flags) lt = stays k q flag flags (omega arith) ∙ ap (λ l. flag ∷ l) (closed-below (suc k) q flags (omega arith))

pub closed-beyond : (k q : ℕ) (flags : List Bool) → k + length flags ≤ q → flags ≡ closed_from k q flags
closed-beyond k q [] le = refl
closed-beyond k q (flag ∷ flags) le = sym (stays k q flag flags (omega arith) ∙ ap (λ l. flag ∷ l) (sym (closed-beyond (suc k) q flags (omega arith))))

pub closed-set : (j k q : ℕ) (flags : List Bool) → q ≡ k + j → slice_set flags j false ≡ closed_from k q flags
closed-set j k q [] e = refl
closed-set zero k q (flag ∷ flags) e =
    sym (ap (λ z. (flag && not z) ∷ closed_from (suc k) q flags) (eq-eqb q k (omega arith)) ∙ ap (λ z. z ∷ closed_from (suc k) q flags) (and-false flag) ∙ ap (λ l. false ∷ l) (closed-below (suc k) q flags (omega arith)))
closed-set (suc j) k q (flag ∷ flags) e = ap (λ l. flag ∷ l) (closed-set j (suc k) q flags (omega arith)) ∙ sym (stays k q flag flags (omega arith))

one_closed : (f a b : Bool) → ((f && not a) && not b) ≡ (f && not (b || a))
one_closed true true true = refl
one_closed true true false = refl
one_closed true false true = refl
one_closed true false false = refl
one_closed false a b = refl

-- the open outputs after a refusal
pub closed_open : (k q : ℕ) (outputs : List Bool) (refused : List ℕ) → closed_from k q (open_from k outputs refused) ≡ open_from k outputs (q ∷ refused)
closed_open k q [] refused = refl
closed_open k q (flag ∷ flags) refused =
    ap (λ z. z ∷ closed_from (suc k) q (open_from (suc k) flags refused)) (one_closed flag (has refused k) (q == k)) ∙ ap (λ l. (flag && not ((q == k) || has refused k)) ∷ l) (closed_open (suc k) q flags refused)

flag_open_from : (k o : ℕ) (outputs : List Bool) (refused : List ℕ) → flag_at (open_from k outputs refused) o ≡ (flag_at outputs o && not (has refused (k + o)))
flag_open_from k zero [] refused = refl
flag_open_from k (suc o) [] refused = refl
flag_open_from k zero (flag ∷ flags) refused = ap (λ n. flag && not (has refused n)) (sym (add-zero k))
flag_open_from k (suc o) (flag ∷ flags) refused =
    let same : suc k + o ≡ k + suc o = omega arith in
    flag_open_from (suc k) o flags refused ∙ ap (λ n. flag_at flags o && not (has refused n)) same

-- a flag tells whether the output is open
pub flag_open : (outputs : List Bool) (refused : List ℕ) (o : ℕ) → flag_at (open_from 0 outputs refused) o ≡ is_open outputs refused o
flag_open outputs refused o =
    let same : 0 + o ≡ o = omega arith in
    flag_open_from 0 o outputs refused ∙ ap (λ n. flag_at outputs o && not (has refused n)) same

still_open : (f a b : Bool) → (f && not (b || a)) ≡ true → (f && not a) ≡ true
still_open true true true h = h
still_open true true false h = h
still_open true false b h = refl
still_open false a b h = h

-- what is open after a refusal was open before it
pub fewer_open : (outputs : List Bool) (refused : List ℕ) (q o : ℕ) → flag_at (open_from 0 outputs (q ∷ refused)) o ≡ true → flag_at (open_from 0 outputs refused) o ≡ true
fewer_open outputs refused q o h = flag_open outputs refused o ∙ still_open (flag_at outputs o) (has refused o) (q == o) (sym (flag_open outputs (q ∷ refused) o) ∙ h)

-- an output that refused isn't open
pub shut : (outputs : List Bool) (refused : List ℕ) (q o : ℕ) → q ≡ o → is_open outputs (q ∷ refused) o ≡ false
shut outputs refused q o e = ap (λ b. flag_at outputs o && not (b || has refused o)) (eq-eqb q o e) ∙ and-false (flag_at outputs o)

no_more : (f a x y : Bool) → y ≡ not x → ((not f || a) && y) ≡ not ((f && not a) || x)
no_more true true x y e = e
no_more true false x y e = refl
no_more false a x y e = e

all_refused : (k : ℕ) (outputs : List Bool) (refused : List ℕ) → all_refused_from k outputs refused ≡ not (list_any (λ flag. flag) (open_from k outputs refused))
all_refused k [] refused = refl
all_refused k (flag ∷ flags) refused = no_more flag (has refused k) (list_any (λ f. f) (open_from (suc k) flags refused)) (all_refused_from (suc k) flags refused) (all_refused (suc k) flags refused)

-- whether all connected outputs have refused
pub refused_is : (outputs : List Bool) (refused : List ℕ) → is_refused outputs refused ≡ none_left (list_any (λ flag. flag) outputs) (open_from 0 outputs refused)
refused_is outputs refused = ap (λ z. list_any (λ flag. flag) outputs && z) (all_refused 0 outputs refused)
