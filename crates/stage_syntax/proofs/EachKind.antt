-- Each name and argument are a kind of stage, have a fault, or the name is unknown.
use Rattle.std.proofs.Common.{◌≡◌, ℕ, zero, suc, ◌<◌, ◌⊎◌, Bool, List, [], ◌∷◌, ◌++◌, length, None, Some, Option, refl, arith, inl, inr}
use Rattle.pipe_model.specs.declared.kind.Kind.{Kind}
use Rattle.argument_parts.proofs.EachPart.{SomeNext, each_next}
use Rattle.argument_parts.specs.Parts.{IsAtEnd, IsNext}
use Rattle.argument_parts.specs.declared.fault.ArgFault.{ArgFault}
use Rattle.argument_parts.specs.declared.fault.FaultKind.TheVariants.{Missing}
use Rattle.argument_parts.specs.declared.part.TextFault.{TextFault}
use Rattle.argument_parts.specs.declared.part.Value.{Value}
use Rattle.stage_syntax.proofs.Consumed.{next_takes}
use Rattle.stage_syntax.specs.Arg.{ArgText}
use Rattle.stage_syntax.specs.Kinds.{IsArgFault, IsKind, placed}
use Rattle.stage_syntax.specs.Names.{arguments_of}
use Rattle.stage_syntax.specs.Rows.{Arguments, Fails, HasFault, Makes, Reads, Row, text_in}
use Rattle.stage_syntax.specs.Rows.Arguments.{OfParts, OfText}
use Rattle.stage_syntax.specs.Rows.Fails.{FailsOn, Lacks, Stops, Wrong}
use Rattle.stage_syntax.specs.Rows.Makes.{Ended, GoesOn}

module _ (row : Row) where
  -- the text has the arguments that come after these, or a fault
  abbrev Outcome : List Value → List ℕ → List ℕ → Type 0
  Outcome values lefts text = ((kind : Kind) × Makes row values lefts text kind) ⊎ ((fault : TextFault) × Fails row values lefts text fault)

  module _ (values : List Value) (lefts text : List ℕ) where
    -- nothing comes any more
    at_end : IsAtEnd text → (kind : Option Kind) → row.kind values ≡ kind → Outcome values lefts text
    at_end ended (Some kind) is = inl (kind, Ended values lefts text kind ended is)
    at_end ended None is = inr (record { left = 0; kind = Missing }, Lacks values lefts text ended is)

    module _ (value : Value) (rest : List ℕ) (next : IsNext (row.next values) text value rest) where
      -- an argument comes that isn't wrong
      goes_on : row.wrong (values ++ value ∷ []) (lefts ++ length next.front ∷ []) ≡ None → Outcome (values ++ value ∷ []) (lefts ++ length next.front ∷ []) rest → Outcome values lefts text
      goes_on right (inl (kind, more)) = inl (kind, GoesOn values lefts text value rest kind next right more)
      goes_on right (inr (fault, more)) = inr (fault, FailsOn values lefts text value rest fault next right more)

      -- an argument comes
      with_next : (wrong : Option TextFault) → row.wrong (values ++ value ∷ []) (lefts ++ length next.front ∷ []) ≡ wrong → Outcome (values ++ value ∷ []) (lefts ++ length next.front ∷ []) rest → Outcome values lefts text
      with_next (Some fault) is more = inr (fault, Wrong values lefts text value rest fault next is)
      with_next None is more = goes_on is more

    step : (fuel : ℕ) → ((values : List Value) (lefts text : List ℕ) → length text < fuel → Outcome values lefts text) → length text < suc fuel → SomeNext (row.next values) text → Outcome values lefts text
    step fuel more below (inl (value, rest, next)) =
        with_next value rest next (row.wrong (values ++ value ∷ []) (lefts ++ length next.front ∷ [])) refl
        (more (values ++ value ∷ []) (lefts ++ length next.front ∷ []) rest (omega (arith, next_takes (row.next values) text value rest next, below)))
    step fuel more below (inr (inl (fault, stop))) = inr (fault, Stops values lefts text fault stop)
    step fuel more below (inr (inr ended)) = at_end ended (row.kind values) refl

  each_from : (fuel : ℕ) (values : List Value) (lefts text : List ℕ) → length text < fuel → Outcome values lefts text
  each_from zero values lefts text below = absurd (omega (arith, below))
  each_from (suc fuel) values lefts text below = step values lefts text fuel (λ v l t b. each_from fuel v l t b) below (each_next (row.next values) text)

-- the text of arguments is read or has a fault
abbrev Read : Arguments → List ℕ → Type 0
Read arguments text = ((kind : Kind) × Reads arguments text kind) ⊎ ((fault : TextFault) × HasFault arguments text fault)

each_text : (arguments : Arguments) (text : List ℕ) → Read arguments text
each_text (OfText make) text = by (make (text_in text)) refl
  where
    by : (kind : Option Kind) → make (text_in text) ≡ kind → Read (OfText make) text
    by (Some kind) is = inl (kind, is)
    by None is = inr (record { left = 0; kind = Missing }, (is, refl))
each_text (OfParts row) text = each_from row (suc (length text)) [] [] text (omega arith)

-- a name and an argument are a kind, have a fault, or the name is unknown
module _ (name : List ℕ) (arg : ArgText) (first : Bool) where
  abbrev Known : Type 0
  Known = ((kind : Kind) × IsKind name arg first kind) ⊎ (((fault : ArgFault) × IsArgFault name arg first fault) ⊎ (arguments_of name first ≡ None))

  with_text : (arguments : Arguments) → arguments_of name first ≡ Some arguments → Read arguments arg.bytes → Known
  with_text arguments named (inl (kind, reads)) = inl (kind, record { arguments = arguments; named = named; reads = reads })
  with_text arguments named (inr (fault, fails)) = inr (inl (placed arg fault, record { arguments = arguments; named = named; inside = fault; fails = fails; fault_is = refl }))

  with_name : (arguments : Option Arguments) → arguments_of name first ≡ arguments → Known
  with_name (Some arguments) named = with_text arguments named (each_text arguments arg.bytes)
  with_name None unknown = inr (inr unknown)

  pub each_kind : ((kind : Kind) × IsKind name arg first kind) ⊎ (((fault : ArgFault) × IsArgFault name arg first fault) ⊎ (arguments_of name first ≡ None))
  each_kind = with_name (arguments_of name first) refl
