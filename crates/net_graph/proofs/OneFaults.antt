-- Of ranked faults one is the least.
use Rattle.std.proofs.Common.{◌≡◌, ◌⊎◌, inl, inr, ℕ, zero, suc, ◌<◌, ◌≤◌, List, [], ◌∷◌, length, get_or, sym, ap, ◌∙◌, subst, arith}
use Rattle.spec_scanner.specs.declared.fault.SpecFaultKind.TheVariants.{BadArguments}
use Rattle.spec_scanner.specs.Faults.{IsLeast, number_of}
use Rattle.spec_scanner.specs.declared.fault.Fault.{Fault}
use Rattle.net_graph.proofs.FaultRanks.{IsPlain, Ranked}

-- each fault isn't of an argument, or stands not before a place
above : (at : ℕ) (faults : List Fault) (end : ℕ) (found : Fault) → Ranked at faults end → (k : ℕ) → k < length faults → get_or faults k found ≡ found
    → IsPlain found ⊎ ((found.number ≡ number_of BadArguments) × (at ≤ found.place))
above at [] end found are k below is = absurd (omega arith)
above at (first ∷ faults) end found (inl are) zero below is = inl (subst IsPlain is are.0)
above at (first ∷ faults) end found (inr are) zero below is = inr (subst (λ (f : Fault). (f.number ≡ number_of BadArguments) × (at ≤ f.place)) is (are.0, are.1))
above at (first ∷ faults) end found (inl are) (suc k) below is = above at faults end found are.1 k (omega arith) is
above at (first ∷ faults) end found (inr are) (suc k) below is =
    elim (above (suc first.place) faults end found are.2 k (omega arith) is) as (λ _. IsPlain found ⊎ ((found.number ≡ number_of BadArguments) × (at ≤ found.place))) [
      | inl plain ↦ inl plain
      | inr later ↦ inr (later.0, omega (arith, are.1, later.1))
    ]

-- the first fault and a later one of its number and its place have one argument
first_later : (at : ℕ) (faults : List Fault) (end : ℕ) (first found : Fault) → Ranked at (first ∷ faults) end → (k : ℕ) → k < length faults → get_or faults k found ≡ found
    → first.number ≡ found.number → first.place ≡ found.place → first.argument ≡ found.argument
first_later at faults end first found (inl are) k below is number place =
    elim (above at faults end found are.1 k below is) as (λ _. first.argument ≡ found.argument) [
      | inl plain ↦ are.0.no_argument ∙ sym plain.no_argument
      | inr later ↦ absurd (are.0.other (number ∙ later.0))
    ]
first_later at faults end first found (inr are) k below is number place =
    elim (above (suc first.place) faults end found are.2 k below is) as (λ _. first.argument ≡ found.argument) [
      | inl plain ↦ absurd (plain.other (sym number ∙ are.0))
      | inr later ↦ absurd (omega (arith, later.1, place))
    ]

-- two faults of one number and one place have one argument
one_argument : (at : ℕ) (faults : List Fault) (end : ℕ) (a b : Fault) → Ranked at faults end
    → (i : ℕ) → i < length faults → get_or faults i a ≡ a → (j : ℕ) → j < length faults → get_or faults j b ≡ b
    → a.number ≡ b.number → a.place ≡ b.place → a.argument ≡ b.argument
one_argument at [] end a b are i below is j under too number place = absurd (omega arith)
one_argument at (first ∷ faults) end a b are zero below is zero under too number place = ap (λ (f : Fault). f.argument) (sym is ∙ too)
one_argument at (first ∷ faults) end a b are zero below is (suc j) under too number place =
    ap (λ (f : Fault). f.argument) (sym is) ∙ first_later at faults end first b are j (omega arith) too (ap (λ (f : Fault). f.number) is ∙ number) (ap (λ (f : Fault). f.place) is ∙ place)
one_argument at (first ∷ faults) end a b are (suc i) below is zero under too number place =
    sym (ap (λ (f : Fault). f.argument) (sym too) ∙ first_later at faults end first a are i (omega arith) is (ap (λ (f : Fault). f.number) too ∙ sym number) (ap (λ (f : Fault). f.place) too ∙ sym place))
one_argument at (first ∷ faults) end a b (inl are) (suc i) below is (suc j) under too number place = one_argument at faults end a b are.1 i (omega arith) is j (omega arith) too number place
one_argument at (first ∷ faults) end a b (inr are) (suc i) below is (suc j) under too number place =
    one_argument (suc first.place) faults end a b are.2 i (omega arith) is j (omega arith) too number place

same_fields : (a b c d e f : ℕ) → a ≡ b → c ≡ d → e ≡ f
    → (let x : Fault = record { number = a; argument = c; place = e } in x) ≡ record { number = b; argument = d; place = f }
same_fields a b c d e f number argument place = cc

-- faults that stand so have one least fault
pub one_least : (at : ℕ) (faults : List Fault) (end : ℕ) (a b : Fault) → Ranked at faults end → IsLeast a faults → IsLeast b faults → a ≡ b
one_least at faults end a b are is too =
    let first = is.before b too.among in
    let second = too.before a is.among in
    let place : a.place ≡ b.place = grind (arith, first, second) in
    let number : a.number ≡ b.number = grind (arith, first, second) in
    let argument : a.argument ≡ b.argument = one_argument at faults end a b are is.among.0 is.among.1 is.among.2 too.among.0 too.among.1 too.among.2 number place in
    same_fields a.number b.number a.argument b.argument a.place b.place number argument place
