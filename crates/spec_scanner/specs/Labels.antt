-- The pieces of stage texts from the left, with the labels that are defined further left.
use Rattle.std.specs.Prelude.{ℕ, suc, if◌then◌else◌, List, [], ◌∷◌, ◌++◌, length, take, drop, slice_get, slice_set}
use Rattle.std.specs.Str.{bytes_eq}
use Rattle.std.specs.List.{position}
use Rattle.std.specs.Option.{option_map_or}
use Rattle.std.specs.declared.option.Option.{Option}
use Rattle.std.specs.declared.option.Option.TheVariants.{Some, None}
use Rattle.spec_scanner.specs.declared.fault.Fault.{Fault}
use Rattle.spec_scanner.specs.declared.item.Item.{Item}
use Rattle.spec_scanner.specs.declared.piece.Piece.{Piece}
use Rattle.spec_scanner.specs.declared.piece.PieceKind.TheVariants.{Stage}
use Rattle.spec_scanner.specs.declared.fault.SpecFaultKind.TheVariants.{EmptyStage, LabelTwice, UnknownLabel, BadLabel}
use Rattle.spec_scanner.specs.Faults.{fault}
use Rattle.spec_scanner.specs.Pieces.{bytes_of, colon_of, end_of, is_good_label, named_piece, place_of, plain_piece, reference_piece}
use Rattle.spec_scanner.specs.Stretches.{Stretch, cut, is_ignored, is_separator, trimmed, without_front}

-- a label that is defined, and how many later uses it has so far
pub record Label : Type 0 where
  pub name : List ℕ
  pub uses : ℕ

-- the number of a label
abbrev pub number_of : List Label → List ℕ → Option ℕ
number_of labels name = position (λ label. bytes_eq label.name name) labels

abbrev pub uses_of : List Label → ℕ → ℕ
uses_of labels number = option_map_or (λ label. label.uses) (slice_get labels number) 0

-- one more use of a label
abbrev pub used : List Label → ℕ → List Label
used labels number = option_map_or (λ label. slice_set labels number (record label { uses = suc label.uses })) (slice_get labels number) labels

-- what was read from the left: the pieces, the labels, and the faults
pub record Found : Type 0 where
  pub pieces : List Piece
  pub labels : List Label
  pub faults : List Fault

abbrev pub found : List Piece → List Label → List Fault → Found
found pieces labels faults = record { pieces = pieces; labels = labels; faults = faults }

-- a use of a label
abbrev pub refer : List Label → List ℕ → ℕ → ℕ → Option ℕ → Found
refer labels name place end None = found (reference_piece None 0 place end ∷ []) labels (fault UnknownLabel place ∷ [])
refer labels name place end (Some number) =
    found (reference_piece (Some number) (suc (uses_of labels number)) place end ∷ []) (used labels number) []

-- a definition of a label, with its stage
abbrev pub define : List Label → List ℕ → ℕ → List Item → Option ℕ → Found
define labels name place items (Some number) = found (named_piece Stage None place items ∷ []) labels (fault LabelTwice place ∷ [])
define labels name place items None =
    found (named_piece Stage (Some (length labels)) place items ∷ []) (labels ++ record { name = name; uses = 0 } ∷ []) []

-- a bad label, with its stage or without one
abbrev pub bad_label : List Label → ℕ → ℕ → List Item → Found
bad_label labels place end [] = found (reference_piece None 0 place end ∷ []) labels (fault BadLabel place ∷ [])
bad_label labels place end (item ∷ items) = found (named_piece Stage None place (item ∷ items) ∷ []) labels (fault BadLabel place ∷ [])

-- a good label, with its stage or without one
abbrev pub good_label : List Label → List ℕ → ℕ → ℕ → List Item → Found
good_label labels name place end [] = refer labels name place end (number_of labels name)
good_label labels name place end (item ∷ items) = define labels name place (item ∷ items) (number_of labels name)

abbrev pub labelled : List Label → List ℕ → ℕ → ℕ → List Item → Found
labelled labels name place end items =
    if is_good_label name then good_label labels name place end items else bad_label labels place end items

-- a stage's text that isn't empty, whose label has its colon after so many items, or none
abbrev pub read_text : List Label → List Item → Option ℕ → Found
read_text labels items None = found (plain_piece items ∷ []) labels []
read_text labels items (Some colon) =
    labelled labels (bytes_of (take colon items)) (place_of items 0) (end_of items 0) (without_front (drop (suc colon) items))

-- a stage's text, closed at a place; an empty one is a fault there
abbrev pub read_stage : List Label → ℕ → List Item → Found
read_stage labels closed [] = found [] labels (fault EmptyStage closed ∷ [])
read_stage labels closed (item ∷ items) = read_text labels (item ∷ items) (colon_of (item ∷ items))

-- the stages of a pipeline
abbrev pub read_stages : List Label → List Stretch → Found
read_stages labels [] = found [] labels []
read_stages labels (stretch ∷ stretches) =
    let first = read_stage labels stretch.closed (trimmed stretch.inside) in
    let rest = read_stages first.labels stretches in
    found (first.pieces ++ rest.pieces) rest.labels (first.faults ++ rest.faults)

-- the pipelines of a specification, as far as they were read
pub record Read : Type 0 where
  pub pipelines : List (List Piece)
  pub labels : List Label
  pub faults : List Fault

abbrev pub nothing_read : List Label → Read
nothing_read labels = record { pipelines = []; labels = labels; faults = [] }

abbrev pub read_pipelines : List Label → List Stretch → Read
read_pipelines labels [] = nothing_read labels
read_pipelines labels (pipeline ∷ pipelines) =
    if is_ignored pipeline then read_pipelines labels pipelines
    else
    let first = read_stages labels (cut is_separator pipeline.inside pipeline.closed) in
    let rest = read_pipelines first.labels pipelines in
    record { pipelines = first.pieces ∷ rest.pipelines; labels = rest.labels; faults = first.faults ++ rest.faults }
