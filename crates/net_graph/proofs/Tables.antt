-- The table of the stages that labels define.
use Rattle.std.proofs.Common.{◌≡◌, ◌≢◌, ◌⊎◌, inl, inr, ℕ, suc, ◌<◌, ◌≤◌, Bool, true, false, List, [], ◌∷◌, ◌++◌, ◌∙◌, if◌then◌else◌, length, length-append, length-set, get_or, map, slice_get, slice_set, refl, ap, sym, subst, arith, append-nil, append_assoc, Option, Some, None}
use Rattle.std.specs.List.{position}
use Rattle.std.specs.Option.{option_map_or}
use Rattle.std.proofs.lemmas.Option.{slice_get_cases, slice_get_past, slice_get_read}
use Rattle.std.proofs.lemmas.List.{get_or_append_left}
use Rattle.std.proofs.lemmas.Bool.{ne_eqb}
use Rattle.pipe_model.proofs.Numbers.{equal_or_not, test_same}
use Rattle.pipe_model.proofs.Lists.{get_seam}
use Rattle.spec_scanner.specs.declared.piece.Piece.{Piece}
use Rattle.spec_scanner.specs.declared.piece.PieceKind.{PieceKind}
use Rattle.spec_scanner.specs.declared.piece.PieceKind.TheVariants.{Stage, Reference, Connector}
use Rattle.net_graph.specs.Nets.{counted, counted_all}
use Rattle.net_graph.specs.Numbered.{AreNumbered, AreScanned, IsNumbered, pieces_of, uses_after}
use Rattle.net_graph.specs.Outcomes.{tabled, tabled_one}
use Rattle.net_graph.specs.Stands.{Stand, is_label, is_of_stage, is_stage, stage_of, stages_of, stands_of}
use Rattle.net_graph.proofs.FormedLabels.{pieces_are, stages_with, stages_without}
use Rattle.net_graph.proofs.FormedPositions.{position_new, position_stays, position_still}

pub tabled_both : (table : List ℕ) (before : ℕ) (pieces more : List Piece) → tabled table before (pieces ++ more) ≡ tabled (tabled table before pieces) (counted_all before pieces) more
tabled_both table before [] more = refl
tabled_both table before (piece ∷ pieces) more = tabled_both (tabled_one table before piece.kind piece.label) (counted before piece) pieces more

position_same : {X : Type 0} (p : X → Bool) (xs : List X) (y : X) → p y ≡ false → position p (xs ++ y ∷ []) ≡ position p xs
position_same p xs y not = by (position p xs) refl where
  by : (found : Option ℕ) → position p xs ≡ found → position p (xs ++ y ∷ []) ≡ position p xs
  by None is = position_still p xs y is not ∙ sym is
  by (Some k) is = position_stays p xs (y ∷ []) k is ∙ sym is

get_push_other : {X : Type 0} (xs : List X) (y : X) (i : ℕ) → i ≢ length xs → slice_get (xs ++ y ∷ []) i ≡ slice_get xs i
get_push_other {X = X} xs y i apart = by (slice_get_cases xs i).1 where
  by : ((x : X) × (i < length xs) × (slice_get xs i ≡ Some x) × (get_or xs i x ≡ x)) ⊎ ((length xs ≤ i) × (slice_get xs i ≡ None)) → slice_get (xs ++ y ∷ []) i ≡ slice_get xs i
  by (inl here) =
      slice_get_read (xs ++ y ∷ []) (length (xs ++ y ∷ [])) i here.0 refl (omega (arith, length-append xs (y ∷ []), here.1)) (sym (get_or_append_left xs (y ∷ []) here.0 i here.1 ∙ here.3))
      ∙ sym here.2
  by (inr past) = slice_get_past (xs ++ y ∷ []) i (omega (arith, length-append xs (y ∷ []), past.0, apart)) ∙ sym past.1

-- the table of the labels of the stands so far
record IsTable (done : List Stand) (table uses : List ℕ) : Type 0 where
  told : (label : ℕ) → slice_get table label ≡ stage_of done (Some label)
  size : length table ≡ length uses

module _ (done : List Stand) (table uses : List ℕ) (so_far : IsTable done table uses) (s : Stand) where
  test : ℕ → Stand → Bool
  test label other = is_label (Some label) other.piece.label

  no_stage : is_stage s ≡ false → (label : ℕ) → stage_of (done ++ s ∷ []) (Some label) ≡ stage_of done (Some label)
  no_stage is label = ap (position (λ (other : Stand). is_label (Some label) other.piece.label)) (stages_without done [] s is ∙ append-nil (stages_of done))

  other_stage : is_stage s ≡ true → (label : ℕ) → is_label (Some label) s.piece.label ≡ false → stage_of (done ++ s ∷ []) (Some label) ≡ stage_of done (Some label)
  other_stage is label not =
      ap (position (λ (other : Stand). is_label (Some label) other.piece.label)) (stages_with done [] s is)
      ∙ position_same (λ (other : Stand). is_label (Some label) other.piece.label) (stages_of done) s not

  new_stage : is_stage s ≡ true → s.piece.label ≡ Some (length table) → stage_of (done ++ s ∷ []) (Some (length table)) ≡ Some (length (stages_of done))
  new_stage is named =
      ap (position (λ (other : Stand). is_label (Some (length table)) other.piece.label)) (stages_with done [] s is)
      ∙ position_new (λ (other : Stand). is_label (Some (length table)) other.piece.label) (stages_of done) s []
      (sym (so_far.told (length table)) ∙ slice_get_past table (length table) (omega arith))
      (ap (is_label (Some (length table))) named ∙ test_same (length table))

  unlabelled : is_stage s ≡ true → s.piece.label ≡ None → IsTable (done ++ s ∷ []) table uses
  unlabelled is none = record {
    told = λ label. so_far.told label ∙ sym (other_stage is label (ap (is_label (Some label)) none));
    size = so_far.size;
  }

  labelled : is_stage s ≡ true → s.piece.label ≡ Some (length uses) → IsTable (done ++ s ∷ []) (table ++ length (stages_of done) ∷ []) (uses ++ 0 ∷ [])
  labelled is next = record { told = told; size = omega (arith, length-append table (length (stages_of done) ∷ []), length-append uses (0 ∷ []), so_far.size) } where
    named : s.piece.label ≡ Some (length table)
    named = next ∙ ap Some (sym so_far.size)

    told_at : (label : ℕ) → (label ≡ length table) ⊎ (label ≢ length table) → slice_get (table ++ length (stages_of done) ∷ []) label ≡ stage_of (done ++ s ∷ []) (Some label)
    told_at label (inl same) =
        rw same (get_seam table (length (stages_of done)) [] ∙ sym (new_stage is named))
    told_at label (inr apart) =
        get_push_other table (length (stages_of done)) label apart
        ∙ (so_far.told label ∙ sym (other_stage is label (ap (is_label (Some label)) named ∙ ne_eqb label (length table) apart)))

    told : (label : ℕ) → slice_get (table ++ length (stages_of done) ∷ []) label ≡ stage_of (done ++ s ∷ []) (Some label)
    told label = told_at label (equal_or_not label (length table))

  not_stage : (kind : PieceKind) → s.piece.kind ≡ kind → is_of_stage kind ≡ false → IsTable (done ++ s ∷ []) table uses
  not_stage kind is not = record { told = λ label. so_far.told label ∙ sym (no_stage (ap is_of_stage is ∙ not) label); size = so_far.size }

-- a later use leaves as many labels
same_size : (uses : List ℕ) (piece : Piece) → IsNumbered uses piece Reference → length (uses_after uses Reference piece.label) ≡ length uses
same_size uses piece numbered =
    ap (λ (label : Option ℕ). length (uses_after uses Reference label)) numbered.label_is
    ∙ (ap (λ (count : Option ℕ). length (option_map_or (λ (c : ℕ). slice_set uses numbered.label (suc c)) count uses)) numbered.defined
    ∙ length-set uses numbered.label (suc numbered.count))

table_more : (done : List Stand) (table uses : List ℕ) → IsTable done table uses → (s : Stand) (kind : PieceKind) → s.piece.kind ≡ kind → IsNumbered uses s.piece kind →
    IsTable (done ++ s ∷ []) (tabled_one table (length (stages_of done)) kind s.piece.label) (uses_after uses kind s.piece.label)
table_more done table uses so_far s Stage kind (inl none, uses_is) =
    subst (λ (label : Option ℕ). IsTable (done ++ s ∷ []) (tabled_one table (length (stages_of done)) Stage label) (uses_after uses Stage label)) (sym none)
    (unlabelled done table uses so_far s (ap is_of_stage kind) none)
table_more done table uses so_far s Stage kind (inr next, uses_is) =
    subst (λ (label : Option ℕ). IsTable (done ++ s ∷ []) (tabled_one table (length (stages_of done)) Stage label) (uses_after uses Stage label)) (sym next)
    (labelled done table uses so_far s (ap is_of_stage kind) next)
table_more done table uses so_far s Reference kind numbered =
    let same = not_stage done table uses so_far s Reference kind refl in
    record { told = same.told; size = same.size ∙ sym (same_size uses s.piece numbered) }
table_more done table uses so_far s Connector kind numbered = not_stage done table uses so_far s Connector kind refl

-- as many stages are counted
counts : (done : List Stand) (s : Stand) → length (stages_of (done ++ s ∷ [])) ≡ counted (length (stages_of done)) s.piece
counts done s = by (is_stage s) refl where
  by : (is : Bool) → is_stage s ≡ is → length (stages_of (done ++ s ∷ [])) ≡ (if is then suc (length (stages_of done)) else length (stages_of done))
  by true is = ap (length {A = Stand}) (stages_with done [] s is) ∙ (length-append (stages_of done) (s ∷ []) ∙ omega arith)
  by false is = ap (length {A = Stand}) (stages_without done [] s is ∙ append-nil (stages_of done))

table_all : (done rest : List Stand) (table uses : List ℕ) → IsTable done table uses → AreNumbered uses (map (λ (s : Stand). s.piece) rest) →
    (label : ℕ) → slice_get (tabled table (length (stages_of done)) (map (λ (s : Stand). s.piece) rest)) label ≡ stage_of (done ++ rest) (Some label)
table_all done [] table uses so_far numbered label = so_far.told label ∙ ap (λ (stands : List Stand). stage_of stands (Some label)) (sym (append-nil done))
table_all done (s ∷ rest) table uses so_far numbered label =
    let pieces = map (λ (other : Stand). other.piece) rest in
    let new = tabled_one table (length (stages_of done)) s.piece.kind s.piece.label in
    ap (λ (before : ℕ). slice_get (tabled new before pieces) label) (sym (counts done s))
    ∙ (table_all (done ++ s ∷ []) rest new (uses_after uses s.piece.kind s.piece.label) (table_more done table uses so_far s s.piece.kind refl numbered.0) numbered.1 label
    ∙ ap (λ (stands : List Stand). stage_of stands (Some label)) (append_assoc done (s ∷ []) rest))

pub table_is_of : (pipelines : List (List Piece)) → AreScanned pipelines → (label : ℕ) → slice_get (tabled [] 0 (pieces_of pipelines)) label ≡ stage_of (stands_of pipelines) (Some label)
table_is_of pipelines scanned label =
    ap (λ (pieces : List Piece). slice_get (tabled [] 0 pieces) label) (sym (pieces_are pipelines))
    ∙ table_all [] (stands_of pipelines) [] [] (record { told = λ label. refl; size = refl }) (subst (AreNumbered []) (sym (pieces_are pipelines)) scanned) label

-- the table of what is left of pipelines, one pipeline on
pub tabled_past : (table new : List ℕ) (before after : ℕ) (slice pieces left more : List Piece) → slice ≡ pieces → left ≡ pieces ++ more →
    new ≡ tabled table before slice → after ≡ counted_all before slice → tabled new after more ≡ tabled table before left
tabled_past table new before after slice pieces left more slice_is left_is new_is after_is =
    rw (new_is, after_is, slice_is, left_is) (sym (tabled_both table before pieces more))
