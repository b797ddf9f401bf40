-- Which of the parts that may come a text is.
use Rattle.std.proofs.Common.{◌≡◌, ℕ, zero, suc, ◌+◌, ◌-◌, ◌<◌, ◌≤◌, List, [], ◌∷◌, length, take, drop, get_or, refl, ap, ◌∙◌, arith, subst, inl, inr, Option, Some, None, MatchOption, add-one}
use Rattle.std.specs.Option.{unwrap_or}
use Rattle.std.proofs.lemmas.List.{take_all}
use Rattle.argument_parts.proofs.OneParts.{misfit_is_not}
use Rattle.argument_parts.proofs.Passed.{blanks_passed}
use Rattle.argument_parts.specs.Parts.{BeginsNone, BeginsNot, IsFirstMisfit, IsFirstPart, IsNext, IsNoPart, IsNone, IsNot, IsPart, IsPartMisfit, fault_of, fault_of_last}
use Rattle.pipe_model.specs.Words.{IsUnblanked}
use Rattle.argument_parts.specs.declared.part.Part.{Part}
use Rattle.argument_parts.specs.declared.part.TextFault.{TextFault}
use Rattle.argument_parts.specs.declared.part.Value.{Value}

-- the text is none of the parts, and this is the fault of the first that it begins as
pub record ArePassed (parts : List Part) (text : List ℕ) (first : Option TextFault) : Type 0 where
  pub none : IsNone parts text
  pub misfit : MatchOption first (BeginsNone parts text) (IsFirstMisfit parts text)

pub none_passed : (text : List ℕ) → ArePassed [] text None
none_passed text = record { none = tt; misfit = tt }

module _ (text : List ℕ) where
  -- one part more that the text isn't
  none_more : (parts : List Part) (i : ℕ) (other : Part) → i < length parts → IsNone (take i parts) text → IsNot (get_or parts i other) text → IsNone (take (suc i) parts) text
  none_more [] i other within none also = absurd (omega (arith, within))
  none_more (part ∷ parts) zero other within none also = (also, tt)
  none_more (part ∷ parts) (suc i) other within none also = (none.0, none_more parts i other (omega (arith, within)) none.1 also)

  begins_more : (parts : List Part) (i : ℕ) (other : Part) → i < length parts → BeginsNone (take i parts) text → BeginsNot (get_or parts i other) text → BeginsNone (take (suc i) parts) text
  begins_more [] i other within none also = absurd (omega (arith, within))
  begins_more (part ∷ parts) zero other within none also = (also, tt)
  begins_more (part ∷ parts) (suc i) other within none also = (none.0, begins_more parts i other (omega (arith, within)) none.1 also)

  -- the fault of an earlier part stays, and else a part gives its own
  first_kept : (parts : List Part) (i : ℕ) (fault : TextFault) → IsFirstMisfit (take i parts) text fault → IsFirstMisfit (take (suc i) parts) text fault
  first_kept [] zero fault is = is
  first_kept [] (suc i) fault is = is
  first_kept (part ∷ parts) zero fault is = absurd is
  first_kept (part ∷ parts) (suc i) fault (inl is) = inl is
  first_kept (part ∷ parts) (suc i) fault (inr is) = inr (is.0, first_kept parts i fault is.1)

  first_new : (parts : List Part) (i : ℕ) (other : Part) (fault : TextFault) → i < length parts → BeginsNone (take i parts) text → IsPartMisfit (get_or parts i other) text fault → IsFirstMisfit (take (suc i) parts) text fault
  first_new [] i other fault within none is = absurd (omega (arith, within))
  first_new (part ∷ parts) zero other fault within none is = inl is
  first_new (part ∷ parts) (suc i) other fault within none is = inr (none.0, first_new parts i other fault (omega (arith, within)) none.1 is)

  -- the first part that the text is
  fits_first : (parts : List Part) (i : ℕ) (other : Part) (value : Value) (rest : List ℕ) → i < length parts → IsNone (take i parts) text → IsPart (get_or parts i other) text value rest → IsFirstPart parts text value rest
  fits_first [] i other value rest within none is = absurd (omega (arith, within))
  fits_first (part ∷ parts) zero other value rest within none is = inl is
  fits_first (part ∷ parts) (suc i) other value rest within none is = inr (none.0, fits_first parts i other value rest (omega (arith, within)) none.1 is)

  misfit_kept : (parts : List Part) (i : ℕ) (other : Part) (first : Option TextFault) → i < length parts → MatchOption first (BeginsNone (take i parts) text) (IsFirstMisfit (take i parts) text) → BeginsNot (get_or parts i other) text
      → MatchOption first (BeginsNone (take (suc i) parts) text) (IsFirstMisfit (take (suc i) parts) text)
  misfit_kept parts i other None within none also = begins_more parts i other within none also
  misfit_kept parts i other (Some fault) within is also = first_kept parts i fault is

  misfit_new : (parts : List Part) (i : ℕ) (other : Part) (first : Option TextFault) (fault : TextFault) → i < length parts → MatchOption first (BeginsNone (take i parts) text) (IsFirstMisfit (take i parts) text) → IsPartMisfit (get_or parts i other) text fault
      → IsFirstMisfit (take (suc i) parts) text (unwrap_or first fault)
  misfit_new parts i other None fault within none is = first_new parts i other fault within none is
  misfit_new parts i other (Some first) fault within kept is = first_kept parts i first kept

  module _ (parts : List Part) (i : ℕ) (other : Part) (first : Option TextFault) (within : i < length parts) (passed : ArePassed (take i parts) text first) where
    pub passed_more : IsNoPart (get_or parts i other) text → ArePassed (take (i + 1) parts) text first
    passed_more also = rw add-one (record { none = none_more parts i other within passed.none also.0; misfit = misfit_kept parts i other first within passed.misfit also.1 })

    pub passed_misfit : (fault : TextFault) → IsPartMisfit (get_or parts i other) text fault → ArePassed (take (i + 1) parts) text (Some (unwrap_or first fault))
    passed_misfit fault is = rw add-one (record {
      none = none_more parts i other within passed.none (misfit_is_not text (get_or parts i other) fault is);
      misfit = misfit_new parts i other first fault within passed.misfit is;
    })

    pub first_fits : (value : Value) (rest : List ℕ) → IsPart (get_or parts i other) text value rest → IsFirstPart parts text value rest
    first_fits value rest is = fits_first parts i other value rest within passed.none is

  -- all were passed
  pub passed_all : (parts : List Part) (i : ℕ) (first : Option TextFault) → length parts ≤ i → ArePassed (take i parts) text first → ArePassed parts text first
  passed_all parts i first all passed = subst (λ parts. ArePassed parts text first) (take_all i parts all) passed

-- after blanks a part was read
pub next_read : (parts : List Part) (text front : List ℕ) (value : Value) (len : ℕ) → IsUnblanked text front → 0 < length front → IsFirstPart parts front value (drop len front)
    → (next : IsNext parts text value (drop (length text - length front + len) text)) × (length front ≡ length next.front)
next_read parts text front value len unblanked some read = (
  record {
    front = front;
    unblanked = unblanked;
    some = some;
    part = rw (blanks_passed text front len unblanked) read;
  },
  refl,
)

-- the last part gives the fault
pub last_gives : (parts : List Part) (part : Part) → 0 < length parts → ((other : Part) → part ≡ get_or parts (length parts - 1) other) → fault_of part ≡ fault_of_last parts
last_gives [] part some stands = absurd (omega arith)
last_gives (only ∷ []) part some stands = ap fault_of (stands only)
last_gives (first ∷ (next ∷ parts)) part some stands = last_gives (next ∷ parts) part (omega arith) (λ other.
    let later : length (first ∷ (next ∷ parts)) - 1 ≡ suc (length (next ∷ parts) - 1) = omega arith in
    stands other ∙ ap (λ at. get_or (first ∷ (next ∷ parts)) at other) later)
