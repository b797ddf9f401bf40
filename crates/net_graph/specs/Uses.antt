-- How many later uses the labels and the stages have.
use Rattle.std.specs.Prelude.{ℕ, List, [], ◌∷◌, ◌++◌, count_by, get_or}
use Rattle.std.specs.declared.option.Option.{Option}
use Rattle.std.specs.declared.option.Option.TheVariants.{Some, None}
use Rattle.spec_scanner.specs.declared.piece.Piece.{Piece}
use Rattle.spec_scanner.specs.declared.piece.PieceKind.{PieceKind}
use Rattle.spec_scanner.specs.declared.piece.PieceKind.TheVariants.{Stage, Reference, Connector}
use Rattle.net_graph.specs.Numbered.{uses_after}
use Rattle.net_graph.specs.Stands.{Stand, refers_to}

-- the later uses of each label after pieces
abbrev pub uses_past : List ℕ → List Piece → List ℕ
uses_past uses [] = uses
uses_past uses (piece ∷ pieces) = uses_past (uses_after uses piece.kind piece.label) pieces

-- the later uses of the label of a stage
abbrev pub later_of : List ℕ → PieceKind → Option ℕ → List ℕ
later_of uses Stage None = 0 ∷ []
later_of uses Stage (Some label) = get_or uses label 0 ∷ []
later_of uses Reference label = []
later_of uses Connector label = []

-- the later uses of each stage, by those of the labels
abbrev pub later_by : List ℕ → List Piece → List ℕ
later_by uses [] = []
later_by uses (piece ∷ pieces) = later_of uses piece.kind piece.label ++ later_by uses pieces

-- the streams of a stage but for the first
abbrev pub more_streams : List Stand → Stand → ℕ
more_streams stands stand = count_by (refers_to stand.piece.label) stands
