-- The arguments of a stage as data, and how they are read one after another.
use Rattle.std.specs.Prelude.{◌≡◌, ℕ, List, [], ◌∷◌, ◌++◌, length}
use Rattle.std.specs.declared.option.Option.{Option}
use Rattle.std.specs.declared.option.Option.TheVariants.{Some, None}
use Rattle.pipe_model.specs.declared.kind.Kind.{Kind}
use Rattle.argument_parts.specs.declared.fault.FaultKind.TheVariants.{Missing}
use Rattle.argument_parts.specs.declared.part.Part.{Part}
use Rattle.argument_parts.specs.declared.part.Value.{Value}
use Rattle.argument_parts.specs.declared.part.TextFault.{TextFault}
use Rattle.argument_parts.specs.Parts.{IsAtEnd, IsNext, IsNoNext}

-- arguments that are read one after another
pub record Row : Type 0 where
  -- what may come after these, in the order in which the stage names it
  pub next : List Value → List Part
  -- a fault of one of these, each of which begins where so many bytes are left of the text
  pub wrong : List Value → List ℕ → Option TextFault
  -- what these make, where none is missing
  pub kind : List Value → Option Kind

pub data Arguments : Type 0 where
  -- TEXT, which is all that follows exactly one blank, or None where nothing follows the name; and what it makes, where it isn't missing
  OfText : (Option (List ℕ) → Option Kind) → Arguments
  OfParts : Row → Arguments

abbrev pub text_in : List ℕ → Option (List ℕ)
text_in [] = None
text_in (blank ∷ text) = Some text

-- the text has the arguments that come after these, and they make the kind
pub data Makes (row : Row) : List Value → List ℕ → List ℕ → Kind → Type 0 where
  Ended : (values : List Value) (lefts text : List ℕ) (kind : Kind) → IsAtEnd text → row.kind values ≡ Some kind → Makes row values lefts text kind
  GoesOn : (values : List Value) (lefts text : List ℕ) (value : Value) (rest : List ℕ) (kind : Kind) → (next : IsNext (row.next values) text value rest) →
      row.wrong (values ++ value ∷ []) (lefts ++ length next.front ∷ []) ≡ None → Makes row (values ++ value ∷ []) (lefts ++ length next.front ∷ []) rest kind → Makes row values lefts text kind

-- the text doesn't have the arguments that come after these, and this is the leftmost fault
pub data Fails (row : Row) : List Value → List ℕ → List ℕ → TextFault → Type 0 where
  Lacks : (values : List Value) (lefts text : List ℕ) → IsAtEnd text → row.kind values ≡ None → Fails row values lefts text (record { left = 0; kind = Missing })
  Stops : (values : List Value) (lefts text : List ℕ) (fault : TextFault) → IsNoNext (row.next values) text fault → Fails row values lefts text fault
  Wrong : (values : List Value) (lefts text : List ℕ) (value : Value) (rest : List ℕ) (fault : TextFault) → (next : IsNext (row.next values) text value rest) →
      row.wrong (values ++ value ∷ []) (lefts ++ length next.front ∷ []) ≡ Some fault → Fails row values lefts text fault
  FailsOn : (values : List Value) (lefts text : List ℕ) (value : Value) (rest : List ℕ) (fault : TextFault) → (next : IsNext (row.next values) text value rest) →
      row.wrong (values ++ value ∷ []) (lefts ++ length next.front ∷ []) ≡ None → Fails row (values ++ value ∷ []) (lefts ++ length next.front ∷ []) rest fault → Fails row values lefts text fault

-- the text of a stage's arguments makes the kind
abbrev pub Reads : Arguments → List ℕ → Kind → Type 0
Reads (OfText make) text kind = make (text_in text) ≡ Some kind
Reads (OfParts row) text kind = Makes row [] [] text kind

-- or has this leftmost fault
abbrev pub HasFault : Arguments → List ℕ → TextFault → Type 0
HasFault (OfText make) text fault = (make (text_in text) ≡ None) × (fault ≡ record { left = 0; kind = Missing })
HasFault (OfParts row) text fault = Fails row [] [] text fault
