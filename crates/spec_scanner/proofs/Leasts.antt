-- The least of a list of faults, as more of them are found.
use Rattle.std.proofs.Common.{if◌then◌else◌, ◌≡◌, ℕ, ◌<◌, Bool, true, false, List, [], ◌∷◌, ◌++◌, length, get_or, zero, suc, refl, ap, arith, Option, Some, None, inl, inr}
use Rattle.std.proofs.lemmas.Bool.Decides.{nat_tests}
use Rattle.std.proofs.lemmas.List.{append-nil}
use Rattle.std.proofs.lemmas.List.Elements.{Contains-append_left, Contains-append_right, Contains-append_cases}
use Rattle.spec_scanner.specs.declared.fault.Fault.{Fault}
use Rattle.spec_scanner.specs.Faults.{IsBefore, IsLeast, IsLeastSo, is_before, least}

-- the test of two faults tells which stands before the other
before_when : (a b : Fault) → is_before a b ≡ true → IsBefore a b
before_when a b is = grind (arith, nat_tests)

before_unless : (a b : Fault) → is_before a b ≡ false → IsBefore b a
before_unless a b is = grind (arith, nat_tests)

-- a fault stands before itself, and before what stands after another that it is before
before_itself : (a b : Fault) → a ≡ b → IsBefore a b
before_itself a b is = inr (ap (λ (fault : Fault). fault.place) is, omega (arith, ap (λ (fault : Fault). fault.number) is))

before_both : (a b c : Fault) → IsBefore a b → IsBefore b c → IsBefore a c
before_both a b c (inl first) (inl second) = inl (omega arith)
before_both a b c (inl first) (inr second) = inl (omega arith)
before_both a b c (inr first) (inl second) = inl (omega arith)
before_both a b c (inr first) (inr second) = inr (omega arith, omega arith)

-- the only fault is the least
pub least_one : (only : Fault) → IsLeast only (only ∷ [])
least_one only = record {
  among = (0, omega arith, refl);
  before = λ other found. before_itself only other (the_only other found.0 found.1 found.2);
} where
  the_only : (other : Fault) (at : ℕ) → at < length (only ∷ []) → get_or (only ∷ []) at other ≡ other → only ≡ other
  the_only other zero below is = is
  the_only other (suc at) below is = absurd (omega arith)

-- of two lists of faults side by side the least is the one of the two least ones that stands before the other
module _ (a b : Fault) (faults more : List Fault) (first : IsLeast a faults) (second : IsLeast b more) where
  pub least_left : IsBefore a b → IsLeast a (faults ++ more)
  least_left before = record {
    among = Contains-append_left faults more a first.among;
    before = λ other found. elim (Contains-append_cases faults more other found) as (λ _. IsBefore a other) [
      | inl among ↦ first.before other among
      | inr among ↦ before_both a b other before (second.before other among)
    ];
  }

  pub least_right : IsBefore b a → IsLeast b (faults ++ more)
  least_right before = record {
    among = Contains-append_right faults more b second.among;
    before = λ other found. elim (Contains-append_cases faults more other found) as (λ _. IsBefore b other) [
      | inl among ↦ before_both b a other before (first.before other among)
      | inr among ↦ second.before other among
    ];
  }

  least_tested : (is : Bool) → is_before a b ≡ is → IsLeast (if is then a else b) (faults ++ more)
  least_tested true is = least_left (before_when a b is)
  least_tested false is = least_right (before_unless a b is)

-- the least of one list and another, from the least of each
pub least_both : (found : Option Fault) (other : Fault) (faults more : List Fault) → IsLeastSo found faults → IsLeast other more → IsLeastSo (Some (least found other)) (faults ++ more)
least_both None other faults more none second = rw none second
least_both (Some found) other faults more first second = least_tested found other faults more first second (is_before found other) refl

-- one fault more
pub least_more : (found : Option Fault) (other : Fault) (faults : List Fault) → IsLeastSo found faults → IsLeastSo (Some (least found other)) (faults ++ other ∷ [])
least_more found other faults first = least_both found other faults (other ∷ []) first (least_one other)

-- no fault more
pub least_same : (found : Option Fault) (faults more : List Fault) → IsLeastSo found faults → more ≡ [] → IsLeastSo found (faults ++ more)
least_same found faults more first none = rw (none, append-nil) first

-- the first of two faults that may both be missing
abbrev pub joined : Option Fault → Option Fault → Option Fault
joined found None = found
joined found (Some other) = Some (least found other)
