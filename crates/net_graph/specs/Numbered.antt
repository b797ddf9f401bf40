-- What a scanned specification promises of its labels: they are numbered from 0 in the order of their definitions, and the later uses of each from 1.
use Rattle.std.specs.Prelude.{◌≡◌, ℕ, suc, List, [], ◌∷◌, ◌++◌, length, slice_get, slice_set, ◌⊎◌, ⊤}
use Rattle.std.specs.Option.{option_map_or}
use Rattle.std.specs.List.{flat_map}
use Rattle.std.specs.declared.option.Option.{Option}
use Rattle.std.specs.declared.option.Option.TheVariants.{Some, None}
use Rattle.spec_scanner.specs.declared.piece.Piece.{Piece}
use Rattle.spec_scanner.specs.declared.piece.PieceKind.{PieceKind}
use Rattle.spec_scanner.specs.declared.piece.PieceKind.TheVariants.{Stage, Reference, Connector}

-- the piece is the next use of a label that is defined
pub record IsNextUse (uses : List ℕ) (piece : Piece) : Type 0 where
  pub label : ℕ
  pub count : ℕ
  pub label_is : piece.label ≡ Some label
  pub defined : slice_get uses label ≡ Some count
  pub uses_is : piece.uses ≡ suc count

-- the label and the use of a piece, where the labels so far have so many later uses each
abbrev pub IsNumbered : List ℕ → Piece → PieceKind → Type 0
IsNumbered uses piece Stage = ((piece.label ≡ None) ⊎ (piece.label ≡ Some (length uses))) × (piece.uses ≡ 0)
IsNumbered uses piece Reference = IsNextUse uses piece
IsNumbered uses piece Connector = (piece.label ≡ None) × (piece.uses ≡ 0)

abbrev pub used_again : List ℕ → ℕ → List ℕ
used_again uses label = option_map_or (λ count. slice_set uses label (suc count)) (slice_get uses label) uses

-- the later uses of each label after a piece
abbrev pub uses_after : List ℕ → PieceKind → Option ℕ → List ℕ
uses_after uses Stage None = uses
uses_after uses Stage (Some label) = uses ++ 0 ∷ []
uses_after uses Reference None = uses
uses_after uses Reference (Some label) = used_again uses label
uses_after uses Connector label = uses

-- pieces one after another
abbrev pub AreNumbered : List ℕ → List Piece → Type 0
AreNumbered uses [] = ⊤
AreNumbered uses (piece ∷ pieces) = IsNumbered uses piece piece.kind × AreNumbered (uses_after uses piece.kind piece.label) pieces

abbrev pub pieces_of : List (List Piece) → List Piece
pieces_of pipelines = flat_map (λ pieces. pieces) pipelines

-- the pieces of pipelines, from the left
abbrev pub AreScanned : List (List Piece) → Type 0
AreScanned pipelines = AreNumbered [] (pieces_of pipelines)
