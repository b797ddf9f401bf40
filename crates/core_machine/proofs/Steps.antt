-- A run is made of its steps.
use Rattle.std.proofs.Common.{◌≡◌, ◌<◌, ◌≤◌, ℕ, List, [], ◌∷◌, ◌++◌, inl, inr, length, refl, sym, ap, subst, arith, Some, None}
use Rattle.std.specs.Prelude.{Result, Ok, Err, OnErr}
use Rattle.pipe_model.specs.declared.step.Entry.{Entry}
use Rattle.pipe_model.proofs.Lists.{length_more}
use Rattle.core_machine.specs.declared.job.RunEnd.TheVariants.{Complete, Spent}
use Rattle.core_machine.specs.Answered.{LeastReady, HasRun, HasMade, Ends}
use Rattle.core_machine.specs.Machine.{Machine, IsLawful}

pub append_twice : (xs : List Entry) (x : Entry) (ys : List Entry) → (xs ++ x ∷ []) ++ ys ≡ xs ++ x ∷ ys
append_twice [] x ys = refl
append_twice (z ∷ zs) x ys = ap (λ l. z ∷ l) (append_twice zs x ys)

pub append_three : (xs ys zs : List Entry) → (xs ++ ys) ++ zs ≡ xs ++ (ys ++ zs)
append_three [] ys zs = refl
append_three (x ∷ xs) ys zs = ap (λ l. x ∷ l) (append_three xs ys zs)

pub append_none : (xs : List Entry) → xs ++ [] ≡ xs
append_none [] = refl
append_none (x ∷ xs) = ap (λ l. x ∷ l) (append_none xs)

-- a run at its budget is complete, or there is more to do
pub run_idles : (m n k : Machine) → HasRun m n → n.out ≡ [] → k ≡ n → LeastReady n None → HasRun m k × Ends Complete k
run_idles m n k run out same none = subst (λ (z : Machine). HasRun m z × Ends Complete z) (sym same) (run, (out, none))

pub run_spends : (m n k : Machine) (r : ℕ × ℕ) → HasRun m n → IsLawful n → n.budget ≤ length n.journal → k ≡ n → LeastReady n (Some r) → HasRun m k × Ends Spent k
run_spends m n k r run lawful full same ready =
    let at : length n.journal ≡ n.budget = (let a = lawful.within in omega (arith, a, full)) in
    subst (λ (z : Machine). HasRun m z × Ends Spent z) (sym same) (run, (at, (r, ready)))

-- by either it has more entries
pub made_longer : (m k : Machine) (e : Entry) → HasMade m e k → length m.journal < length k.journal
made_longer m k e (inl one) = let long : length k.journal ≡ length (m.journal ++ e ∷ []) = ap (λ (z : Machine). length z.journal) one in let a = length_more m.journal e in omega (arith, a, long)
made_longer m k e (inr two) =
    let next : Entry = record { strand = e.strand; stream = two.0 } in
    let long : length k.journal ≡ length ((m.journal ++ e ∷ []) ++ next ∷ []) = ap (λ (z : Machine). length z.journal) two.2 in
    let a = length_more m.journal e in
    let b = length_more (m.journal ++ e ∷ []) next in
    omega (arith, a, b, long)

pub on_err : {A E : Type 0} {P : Type 0} (r : Result A E) → P → OnErr r P
on_err (Ok x) p = tt
on_err (Err e) p = p
