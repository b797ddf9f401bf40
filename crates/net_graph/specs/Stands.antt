-- The pieces of a specification where they stand in their pipelines, and the stages that they use.
use Rattle.std.specs.Prelude.{ℕ, suc, ◌==◌, ◌&&◌, Bool, true, false, List, [], ◌∷◌, filter, option_map}
use Rattle.std.specs.List.{count_by, flat_map, position}
use Rattle.std.specs.declared.option.Option.{Option}
use Rattle.std.specs.declared.option.Option.TheVariants.{Some, None}
use Rattle.spec_scanner.specs.declared.piece.Piece.{Piece}
use Rattle.spec_scanner.specs.declared.piece.PieceKind.{PieceKind}
use Rattle.spec_scanner.specs.declared.piece.PieceKind.TheVariants.{Stage, Reference, Connector}

-- a piece, and whether it stands first and whether it stands last in its pipeline
pub record Stand : Type 0 where
  pub piece : Piece
  pub first : Bool
  pub last : Bool

abbrev pub stands_in : Bool → List Piece → List Stand
stands_in first [] = []
stands_in first (piece ∷ []) = record { piece = piece; first = first; last = true } ∷ []
stands_in first (piece ∷ (next ∷ pieces)) = record { piece = piece; first = first; last = false } ∷ stands_in false (next ∷ pieces)

-- all pieces in order
abbrev pub stands_of : List (List Piece) → List Stand
stands_of pipelines = flat_map (stands_in true) pipelines

abbrev pub is_of_stage : PieceKind → Bool
is_of_stage Stage = true
is_of_stage Reference = false
is_of_stage Connector = false

abbrev pub is_of_reference : PieceKind → Bool
is_of_reference Stage = false
is_of_reference Reference = true
is_of_reference Connector = false

-- the stand defines a stage
abbrev pub is_stage : Stand → Bool
is_stage stand = is_of_stage stand.piece.kind

-- the stages, which are numbered from 0 in this order
abbrev pub stages_of : List Stand → List Stand
stages_of stands = filter is_stage stands

abbrev pub is_label : Option ℕ → Option ℕ → Bool
is_label (Some a) (Some b) = a == b
is_label (Some a) None = false
is_label None label = false

-- the stand is a later one of this label
abbrev pub refers_to : Option ℕ → Stand → Bool
refers_to label stand = is_of_reference stand.piece.kind && is_label label stand.piece.label

-- how many streams the stage of a label has: one, and one more for each later use
abbrev pub streams_of : List Stand → Option ℕ → ℕ
streams_of stands label = suc (count_by (refers_to label) stands)

-- the number of the stage that defines a label
abbrev pub stage_of : List Stand → Option ℕ → Option ℕ
stage_of stands label = position (λ stand. is_label label stand.piece.label) (stages_of stands)

-- a stream of a stage
pub record Spot : Type 0 where
  pub stage : ℕ
  pub stream : ℕ

-- the stream that a piece stands for, where so many stages are defined before it; a connector stands for none
abbrev pub spot_of : List Stand → ℕ → Piece → Option Spot
spot_of stands before piece = by_kind piece.kind where
  by_kind : PieceKind → Option Spot
  by_kind Stage = Some (record { stage = before; stream = 0 })
  by_kind Reference = option_map (λ stage. record { stage = stage; stream = piece.uses }) (stage_of stands piece.label)
  by_kind Connector = None
