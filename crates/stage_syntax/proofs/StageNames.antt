-- The stages of a list, of which the first that has a name is found.
use Rattle.std.proofs.Common.{◌≡◌, ℕ, zero, suc, ◌+◌, ◌<◌, Bool, true, false, if◌then◌else◌, List, [], ◌∷◌, length, map, drop, get_or, refl, ap, arith, Option, Some, Bor, add-one}
use Rattle.std.specs.Str.{bytes_eq, str_to_ascii_lowercase}
use Rattle.std.proofs.lemmas.Slice.Eq.{bytes_eq-Decides}
use Rattle.stage_syntax.specs.Names.{named_in}
use Rattle.stage_syntax.specs.Rows.{Arguments}
use Rattle.stage_syntax.specs.StageForms.{arguments_by, named_as}
use Rattle.stage_syntax.specs.declared.form.Form.{Form}

-- a stage as the list in code has it
abbrev pub Listed : Type 0
Listed = Bor (List ℕ) × Form

other_test : (a b : List ℕ) → ¬ (a ≡ b) → bytes_eq a b ≡ false
other_test a b other = by (bytes_eq a b) (bytes_eq-Decides a b).0 where
  by : (test : Bool) → (test ≡ true → a ≡ b) → test ≡ false
  by true same = absurd (other (same refl))
  by false same = refl

module _ (first : Bool) (name : List ℕ) where
  -- a stage that has another name isn't found
  not_named : (stage : Listed) (rest : Option Arguments) → ¬ (str_to_ascii_lowercase name ≡ str_to_ascii_lowercase stage.0.now)
      → (if bytes_eq (str_to_ascii_lowercase name) (str_to_ascii_lowercase stage.0.now) then Some (arguments_by stage.1 first) else rest) ≡ rest
  not_named stage rest other =
      ap (λ same. if same then Some (arguments_by stage.1 first) else rest) (other_test (str_to_ascii_lowercase name) (str_to_ascii_lowercase stage.0.now) other)

  -- and one that has it is
  is_named : (stage : Listed) (rest : Option Arguments) → str_to_ascii_lowercase name ≡ str_to_ascii_lowercase stage.0.now
      → (if bytes_eq (str_to_ascii_lowercase name) (str_to_ascii_lowercase stage.0.now) then Some (arguments_by stage.1 first) else rest) ≡ Some (arguments_by stage.1 first)
  is_named stage rest same =
      ap (λ same. if same then Some (arguments_by stage.1 first) else rest) ((bytes_eq-Decides (str_to_ascii_lowercase name) (str_to_ascii_lowercase stage.0.now)).1 same)

  -- the same of the stage at a place, before those after it
  module _ (other : Listed) where
    pub found_here : (stages : List Listed) (i : ℕ) → i < length stages → str_to_ascii_lowercase name ≡ str_to_ascii_lowercase (get_or stages i other).0.now
        → named_in (map (named_as first) (drop i stages)) name ≡ Some (arguments_by (get_or stages i other).1 first)
    found_here [] i within same = absurd (omega (arith, within))
    found_here (stage ∷ stages) zero within same = is_named stage (named_in (map (named_as first) stages) name) same
    found_here (stage ∷ stages) (suc i) within same = found_here stages i (omega (arith, within)) same

    named_after : (stages : List Listed) (i : ℕ) → i < length stages → ¬ (str_to_ascii_lowercase name ≡ str_to_ascii_lowercase (get_or stages i other).0.now)
        → named_in (map (named_as first) (drop i stages)) name ≡ named_in (map (named_as first) (drop (suc i) stages)) name
    named_after [] i within apart = absurd (omega (arith, within))
    named_after (stage ∷ stages) zero within apart = not_named stage (named_in (map (named_as first) stages) name) apart
    named_after (stage ∷ stages) (suc i) within apart = named_after stages i (omega (arith, within)) apart

    pub not_named_here : (stages : List Listed) (i : ℕ) → i < length stages → ¬ (str_to_ascii_lowercase name ≡ str_to_ascii_lowercase (get_or stages i other).0.now)
        → named_in (map (named_as first) (drop i stages)) name ≡ named_in (map (named_as first) (drop (i + 1) stages)) name
    not_named_here stages i within apart = rw add-one (named_after stages i within apart)
