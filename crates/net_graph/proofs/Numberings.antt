-- A text that reads as pipelines has its labels numbered as they come.
use Rattle.std.proofs.Common.{◌≡◌, inl, inr, ℕ, zero, suc, Bool, true, false, List, [], ◌∷◌, ◌++◌, refl, sym, ◌∙◌, ap, subst, Option, Some, None, slice_get, slice_set, length, map}
use Rattle.std.specs.Prelude.{if◌then◌else◌, drop, option_map, take}
use Rattle.std.specs.Str.{bytes_eq}
use Rattle.std.specs.Option.{option_map_or}
use Rattle.std.proofs.lemmas.List.{map-append}
use Rattle.std.proofs.lemmas.Option.{slice_get-map}
use Rattle.spec_scanner.specs.declared.piece.Piece.{Piece}
use Rattle.spec_scanner.specs.declared.piece.PieceKind.TheVariants.{Stage, Connector}
use Rattle.spec_scanner.specs.Labels.{Found, Label, Read, bad_label, define, good_label, labelled, number_of, read_pipelines, read_stage, read_stages, read_text, refer, used, uses_of}
use Rattle.spec_scanner.specs.Pieces.{bytes_of, colon_of, end_of, is_connector, is_good_label, first_word, named_piece, place_of, plain_piece, reference_piece}
use Rattle.spec_scanner.specs.Reads.{Reads, read_items}
use Rattle.spec_scanner.specs.Stretches.{Stretch, cut, is_end, is_ignored, is_separator, trimmed, without_front}
use Rattle.net_graph.specs.Numbered.{AreNumbered, AreScanned, pieces_of, uses_after}
use Rattle.net_graph.proofs.FormedLists.{nothing_joined}
use Rattle.net_graph.proofs.FormedPositions.{position_finds}

-- how many later uses each label has
abbrev counts : List Label → List ℕ
counts labels = map (λ (label : Label). label.uses) labels

-- the later uses after pieces
abbrev uses_after_all : List ℕ → List Piece → List ℕ
uses_after_all uses [] = uses
uses_after_all uses (piece ∷ pieces) = uses_after_all (uses_after uses piece.kind piece.label) pieces

-- the pieces are numbered after these labels, and afterwards the labels are those
record AreRead (before : List Label) (pieces : List Piece) (after : List Label) : Type 0 where
  numbered : AreNumbered (counts before) pieces
  uses : uses_after_all (counts before) pieces ≡ counts after

numbered_both : (uses : List ℕ) (front back : List Piece) → AreNumbered uses front → AreNumbered (uses_after_all uses front) back → AreNumbered uses (front ++ back)
numbered_both uses [] back first second = second
numbered_both uses (piece ∷ front) back first second = (first.0, numbered_both (uses_after uses piece.kind piece.label) front back first.1 second)

after_both : (uses : List ℕ) (front back : List Piece) → uses_after_all uses (front ++ back) ≡ uses_after_all (uses_after_all uses front) back
after_both uses [] back = refl
after_both uses (piece ∷ front) back = after_both (uses_after uses piece.kind piece.label) front back

read_nothing : (labels : List Label) → AreRead labels [] labels
read_nothing labels = record { numbered = tt; uses = refl }

-- pieces one after another
read_both : (before middle after : List Label) (front back : List Piece) → AreRead before front middle → AreRead middle back after → AreRead before (front ++ back) after
read_both before middle after front back first second = record {
  numbered = numbered_both (counts before) front back first.numbered (subst (λ uses. AreNumbered uses back) (sym first.uses) second.numbered);
  uses = after_both (counts before) front back ∙ ap (λ uses. uses_after_all uses back) first.uses ∙ second.uses;
}

-- A label that is used again

set_count : (labels : List Label) (number : ℕ) (label : Label) → map (λ (l : Label). l.uses) (slice_set labels number label) ≡ slice_set (counts labels) number label.uses
set_count [] number label = refl
set_count (l ∷ labels) zero label = refl
set_count (l ∷ labels) (suc number) label = ap (λ uses. l.uses ∷ uses) (set_count labels number label)

length-counts : (labels : List Label) → length (counts labels) ≡ length labels
length-counts [] = refl
length-counts (l ∷ labels) = ap suc (length-counts labels)

read_used : (labels : List Label) (number place end : ℕ) (label : Label) → slice_get labels number ≡ Some label
    → AreRead labels (reference_piece (Some number) (suc (uses_of labels number)) place end ∷ []) (used labels number)
read_used labels number place end label here =
    let count : slice_get (counts labels) number ≡ Some label.uses = slice_get-map (λ (l : Label). l.uses) labels number ∙ ap (option_map (λ (l : Label). l.uses)) here in
    record {
      numbered = (
        record {
          label = number;
          count = label.uses;
          label_is = refl;
          defined = count;
          uses_is = ap (λ o. suc (option_map_or (λ (l : Label). l.uses) o 0)) here;
        },
        tt,
      );
      uses = ap (λ o. option_map_or (λ count. slice_set (counts labels) number (suc count)) o (counts labels)) count
          ∙ sym (set_count labels number (record label { uses = suc label.uses }))
          ∙ ap (λ o. counts (option_map_or (λ (l : Label). slice_set labels number (record l { uses = suc l.uses })) o labels)) (sym here);
    }

-- Each reading without a fault

-- the pieces that are found are numbered, where there is no fault
abbrev IsRead : List Label → Found → Type 0
IsRead labels read = read.faults ≡ [] → AreRead labels read.pieces read.labels

read_refer : (labels : List Label) (name : List ℕ) (place end : ℕ) (number : Option ℕ) → number_of labels name ≡ number → IsRead labels (refer labels name place end number)
read_refer labels name place end None is good = cc
read_refer labels name place end (Some number) is good =
    let here = position_finds (λ (label : Label). bytes_eq label.name name) labels number is in
    read_used labels number place end here.0 here.1

read_define : (labels : List Label) (name : List ℕ) (place : ℕ) (items : _) (number : Option ℕ) → IsRead labels (define labels name place items number)
read_define labels name place items (Some number) good = cc
read_define labels name place items None good = record {
  numbered = ((inr (ap Some (sym (length-counts labels))), refl), tt);
  uses = sym (map-append (λ (label : Label). label.uses) labels (record { name = name; uses = 0 } ∷ []));
}

read_bad : (labels : List Label) (place end : ℕ) (items : _) → IsRead labels (bad_label labels place end items)
read_bad labels place end [] good = cc
read_bad labels place end (item ∷ items) good = cc

read_good : (labels : List Label) (name : List ℕ) (place end : ℕ) (items : _) → IsRead labels (good_label labels name place end items)
read_good labels name place end [] = read_refer labels name place end (number_of labels name) refl
read_good labels name place end (item ∷ items) = read_define labels name place (item ∷ items) (number_of labels name)

read_labelled : (labels : List Label) (name : List ℕ) (place end : ℕ) (items : _) → IsRead labels (labelled labels name place end items)
read_labelled labels name place end items = go (is_good_label name)
  where
    go : (b : Bool) → IsRead labels (if b then good_label labels name place end items else bad_label labels place end items)
    go true = read_good labels name place end items
    go false = read_bad labels place end items

read_plain : (labels : List Label) (items : _) → AreRead labels (plain_piece items ∷ []) labels
read_plain labels items = go (is_connector (first_word items))
  where
    go : (b : Bool) → AreRead labels (named_piece (if b then Connector else Stage) None (place_of items 0) items ∷ []) labels
    go true = record { numbered = ((refl, refl), tt); uses = refl }
    go false = record { numbered = ((inl refl, refl), tt); uses = refl }

read_any : (labels : List Label) (items : _) (colon : Option ℕ) → IsRead labels (read_text labels items colon)
read_any labels items None good = read_plain labels items
read_any labels items (Some colon) good = read_labelled labels (bytes_of (take colon items)) (place_of items 0) (end_of items 0) (without_front (drop (suc colon) items)) good

read_one : (labels : List Label) (closed : ℕ) (items : _) → IsRead labels (read_stage labels closed items)
read_one labels closed [] good = cc
read_one labels closed (item ∷ items) good = read_any labels (item ∷ items) (colon_of (item ∷ items)) good

-- the stages of a pipeline
read_all : (labels : List Label) (stretches : List Stretch) → IsRead labels (read_stages labels stretches)
read_all labels [] good = read_nothing labels
read_all labels (stretch ∷ stretches) good =
    let first : Found = read_stage labels stretch.closed (trimmed stretch.inside) in
    let rest : Found = read_stages first.labels stretches in
    let none = nothing_joined first.faults rest.faults good in
    read_both labels first.labels rest.labels first.pieces rest.pieces (read_one labels stretch.closed (trimmed stretch.inside) none.0) (read_all first.labels stretches none.1)

-- the pieces of all pipelines are numbered, where there is no fault
abbrev AreAllRead : List Label → Read → Type 0
AreAllRead labels read = read.faults ≡ [] → AreRead labels (pieces_of read.pipelines) read.labels

-- a pipeline that is ignored or not, before others
read_first : (labels : List Label) (ignored : Bool) (first : Found) (same rest : Read) → IsRead labels first → AreAllRead labels same → AreAllRead first.labels rest
    → AreAllRead labels (if ignored then same else record { pipelines = first.pieces ∷ rest.pipelines; labels = rest.labels; faults = first.faults ++ rest.faults })
read_first labels true first same rest here others after good = others good
read_first labels false first same rest here others after good =
    let none = nothing_joined first.faults rest.faults good in
    read_both labels first.labels rest.labels first.pieces (pieces_of rest.pipelines) (here none.0) (after none.1)

read_each : (labels : List Label) (stretches : List Stretch) → AreAllRead labels (read_pipelines labels stretches)
read_each labels [] good = read_nothing labels
read_each labels (pipeline ∷ pipelines) good =
    let first : Found = read_stages labels (cut is_separator pipeline.inside pipeline.closed) in
    read_first labels (is_ignored pipeline) first (read_pipelines labels pipelines) (read_pipelines first.labels pipelines)
    (read_all labels (cut is_separator pipeline.inside pipeline.closed)) (read_each labels pipelines) (read_each first.labels pipelines) good

pub numbered : (text : List ℕ) (pipelines : List (List Piece)) → Reads text pipelines → AreScanned pipelines
numbered text pipelines reads =
    let none = nothing_joined (read_items reads.items (length text)).faults _ reads.good in
    subst AreScanned (sym reads.pipelines_are) (read_each [] (cut is_end reads.items (length text)) none.0).numbered
