-- What was read adds to what was found, stage by stage.
use Rattle.std.proofs.Common.{◌≡◌, ◌==◌, ℕ, suc, true, false, List, [], ◌∷◌, ◌++◌, length, take, drop, refl, ap, sym, subst, arith, Some, None, Option, Result, IfOk, is_some}
use Rattle.std.proofs.lemmas.Bool.{eqb-true}
use Rattle.std.proofs.lemmas.List.{append-nil}
use Rattle.std.proofs.lemmas.Result.{IfOk-weaker}
use Rattle.pipe_model.specs.declared.memory.NoMemory.{NoMemory}
use Rattle.spec_scanner.specs.declared.fault.Fault.{Fault}
use Rattle.spec_scanner.specs.declared.findings.Findings.{Findings}
use Rattle.spec_scanner.specs.declared.item.Item.{Item}
use Rattle.spec_scanner.specs.declared.piece.Piece.{Piece}
use Rattle.spec_scanner.specs.declared.piece.PieceKind.TheVariants.{Stage}
use Rattle.spec_scanner.specs.Additions.{Adds, AddsFound}
use Rattle.spec_scanner.specs.declared.fault.SpecFaultKind.TheVariants.{EmptyStage, LabelTwice, BadLabel}
use Rattle.spec_scanner.specs.Faults.{IsLeastSo, fault, least}
use Rattle.spec_scanner.specs.Labels.{Found, Label, bad_label, define, found, labelled, read_stage, read_text}
use Rattle.spec_scanner.specs.Pieces.{bytes_of, end_of, named_piece, place_of, reference_piece}
use Rattle.spec_scanner.specs.Stretches.{without_front}
use Rattle.spec_scanner.proofs.Leasts.{least_more, least_same}

-- nothing is added
pub nothing_added : {X : Type 0} (old : Findings) (before : List X) → Adds old old before before [] old.labels []
nothing_added old before = record {
  labels_are = refl;
  all_are = sym (append-nil before);
  least = λ earlier so. least_same old.fault earlier [] so refl;
}

-- the findings after a fault
abbrev pub with_fault : Findings → Fault → Findings
with_fault old other = record old { fault = Some (least old.fault other) }

-- a fault is noted, beside what is added
pub fault_noted : {X : Type 0} (old new : Findings) (other : Fault) (before after added : List X) → new ≡ with_fault old other → after ≡ before ++ added
    → Adds old new before after added old.labels (other ∷ [])
fault_noted old new other before after added noted all = record {
  labels_are = ap (λ (f : Findings). f.labels) noted;
  all_are = all;
  least = λ earlier so. subst (λ (f : Findings). IsLeastSo f.fault (earlier ++ other ∷ [])) (sym noted) (least_more old.fault other earlier so);
}

-- one piece with one fault
module _ (old new : Findings) (other : Fault) (noted : new ≡ with_fault old other) (read : Found) (named : Piece) (read_is : read ≡ found (named ∷ []) old.labels (other ∷ [])) where
  pub piece_noted : (piece : Piece) → piece ≡ named → AddsFound old new [] (piece ∷ []) read
  piece_noted piece is = subst (AddsFound old new [] (piece ∷ [])) (sym read_is) (fault_noted old new other [] (piece ∷ []) (named ∷ []) noted (ap (λ p. p ∷ []) is))

  pub pieces_noted : (result : Result Piece NoMemory) → IfOk result (λ piece. piece ≡ named) → IfOk result (λ piece. AddsFound old new [] (piece ∷ []) read)
  pieces_noted result = IfOk-weaker result (λ piece. piece ≡ named) (λ piece. AddsFound old new [] (piece ∷ []) read) piece_noted

-- a bad label alone, or with its stage
pub bad_alone : (labels : List Label) (place end : ℕ) (items : List Item) → (length items == 0) ≡ true
    → bad_label labels place end items ≡ found (reference_piece None 0 place end ∷ []) labels (fault BadLabel place ∷ [])
bad_alone labels place end [] is = refl
bad_alone labels place end (item ∷ items) is = absurd (omega (arith, eqb-true (length (item ∷ items)) 0 is))

pub bad_named : (labels : List Label) (place end : ℕ) (items : List Item) → (length items == 0) ≡ false
    → bad_label labels place end items ≡ found (named_piece Stage None place items ∷ []) labels (fault BadLabel place ∷ [])
bad_named labels place end [] is = cc
bad_named labels place end (item ∷ items) is = refl

-- a label that is there is defined again
pub defined_again : (labels : List Label) (name : List ℕ) (place : ℕ) (items : List Item) (number : Option ℕ) → is_some number ≡ true
    → define labels name place items number ≡ found (named_piece Stage None place items ∷ []) labels (fault LabelTwice place ∷ [])
defined_again labels name place items None is = cc
defined_again labels name place items (Some number) is = refl

-- an empty stage
pub empty_noted : (old new : Findings) (closed : ℕ) (before : List Piece) (items : List Item) → (length items == 0) ≡ true → new ≡ with_fault old (fault EmptyStage closed)
    → AddsFound old new before before (read_stage old.labels closed items)
empty_noted old new closed before [] is noted = fault_noted old new (fault EmptyStage closed) before before [] noted (sym (append-nil before))
empty_noted old new closed before (item ∷ items) is noted = absurd (omega (arith, eqb-true (length (item ∷ items)) 0 is))

-- a stage's text with a label, by its parts
pub text_parts : (labels : List Label) (items : List Item) (colon : ℕ) (count : Option ℕ) (name : List ℕ) (place end : ℕ) (rest : List Item)
    → count ≡ Some colon → name ≡ bytes_of (take colon items) → place ≡ place_of items 0 → end ≡ end_of items 0 → rest ≡ without_front (drop (suc colon) items)
    → labelled labels name place end rest ≡ read_text labels items count
text_parts labels items colon count name place end rest count_is name_is place_is end_is rest_is = rw (count_is, name_is, place_is, end_is, rest_is) refl
