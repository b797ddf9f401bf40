-- How the arguments of a row are read one after another.
use Rattle.std.proofs.Common.{◌≡◌, ℕ, ◌-◌, List, [], ◌∷◌, ◌++◌, length, take, drop, sym, ap, ◌∙◌, subst, None, Some}
use Rattle.pipe_model.proofs.Cuts.{tail_of}
use Rattle.pipe_model.specs.declared.kind.Kind.{Kind}
use Rattle.argument_parts.specs.Parts.{IsAtEnd, IsNext, IsNoNext}
use Rattle.argument_parts.specs.Refusals.{Refuses}
use Rattle.stage_syntax.specs.Rows.{Fails, Makes, Row}
use Rattle.stage_syntax.specs.Rows.Fails.{FailsOn, Lacks, Stops, Wrong}
use Rattle.stage_syntax.specs.Rows.Makes.{Ended, GoesOn}
use Rattle.argument_parts.specs.declared.fault.FaultKind.TheVariants.{Missing}
use Rattle.argument_parts.specs.declared.part.TextFault.{TextFault}
use Rattle.argument_parts.specs.declared.part.Value.{Value}
use Rattle.argument_parts.specs.declared.refusal.Refusal.{Refusal}
use Rattle.argument_parts.specs.declared.refusal.Refusal.TheVariants.{Fault, NoMemory}

-- what the rest makes or lacks after these arguments, the whole text does
pub record IsReadTo (row : Row) (whole : List ℕ) (values : List Value) (lefts text : List ℕ) : Type 0 where
  pub makes : (kind : Kind) → Makes row values lefts text kind → Makes row [] [] whole kind
  pub fails : (fault : TextFault) → Fails row values lefts text fault → Fails row [] [] whole fault

pub nothing_read : (row : Row) (whole : List ℕ) → IsReadTo row whole [] [] whole
nothing_read row whole = record { makes = λ kind makes. makes; fails = λ fault fails. fails }

-- the text after so many bytes, as a slice
abbrev pub left_after : List ℕ → ℕ → List ℕ
left_after text len = take (length text - len) (drop len text)

module _ (row : Row) (whole : List ℕ) (values : List Value) (lefts text : List ℕ) (to : IsReadTo row whole values lefts text) where
  -- at the end
  pub made_at_end : (kind : Kind) → IsAtEnd text → Some kind ≡ row.kind values → Makes row [] [] whole kind
  made_at_end kind ended is = to.makes kind (Ended values lefts text kind ended (sym is))

  pub lacks_at_end : IsAtEnd text → None ≡ row.kind values → Fails row [] [] whole (record { left = 0; kind = Missing })
  lacks_at_end ended is = to.fails _ (Lacks values lefts text ended (sym is))

  -- where what comes is none of the arguments that may
  pub stops_there : (refusal : Refusal) → Refuses (IsNoNext (row.next values) text) refusal → Refuses (Fails row [] [] whole) refusal
  stops_there (Fault fault) refused = to.fails fault (Stops values lefts text fault refused)
  stops_there NoMemory refused = tt

  module _ (value : Value) (left len : ℕ) (next : (next : IsNext (row.next values) text value (drop len text)) × (left ≡ length next.front)) where
    -- an argument that is wrong
    pub wrong_there : (fault : TextFault) → Some fault ≡ row.wrong (values ++ value ∷ []) (lefts ++ left ∷ []) → Fails row [] [] whole fault
    wrong_there fault is = to.fails fault (Wrong values lefts text value (drop len text) fault next.0 (ap (λ left. row.wrong (values ++ value ∷ []) (lefts ++ left ∷ [])) (sym next.1) ∙ sym is))

    -- and one that isn't
    pub one_more : None ≡ row.wrong (values ++ value ∷ []) (lefts ++ left ∷ []) → IsReadTo row whole (values ++ value ∷ []) (lefts ++ left ∷ []) (left_after text len)
    one_more is =
        let right = ap (λ left. row.wrong (values ++ value ∷ []) (lefts ++ left ∷ [])) (sym next.1) ∙ sym is in
        let lefts_are : lefts ++ left ∷ [] ≡ lefts ++ length next.0.front ∷ [] = ap (λ left. lefts ++ left ∷ []) next.1 in
        record {
          makes = λ kind makes. to.makes kind (GoesOn values lefts text value (drop len text) kind next.0 right
              (subst (λ lefts. Makes row (values ++ value ∷ []) lefts (drop len text) kind) lefts_are (subst (λ rest. Makes row (values ++ value ∷ []) (lefts ++ left ∷ []) rest kind) (tail_of text len) makes)));
          fails = λ fault fails. to.fails fault (FailsOn values lefts text value (drop len text) fault next.0 right
              (subst (λ lefts. Fails row (values ++ value ∷ []) lefts (drop len text) fault) lefts_are (subst (λ rest. Fails row (values ++ value ∷ []) (lefts ++ left ∷ []) rest fault) (tail_of text len) fails)));
        }
