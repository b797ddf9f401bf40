-- The outcomes of stages, and the table of the stages that labels define, as pieces come.
use Rattle.std.specs.Prelude.{◌≡◌, ℕ, List, [], ◌∷◌, ◌++◌}
use Rattle.std.specs.declared.result.Result.{Result}
use Rattle.std.specs.declared.option.Option.{Option}
use Rattle.std.specs.declared.option.Option.TheVariants.{Some, None}
use Rattle.pipe_model.specs.declared.kind.Kind.{Kind}
use Rattle.stage_syntax.specs.declared.fault.KindFault.{KindFault}
use Rattle.spec_scanner.specs.declared.piece.Piece.{Piece}
use Rattle.spec_scanner.specs.declared.piece.PieceKind.{PieceKind}
use Rattle.spec_scanner.specs.declared.piece.PieceKind.TheVariants.{Stage, Reference, Connector}
use Rattle.net_graph.specs.Nets.{AreOutcomes, counted}
use Rattle.net_graph.specs.Stands.{Stand, stages_of}

-- the outcomes of the stages of more stands are added
pub record AddsOutcomes (stands : List Stand) (old new : List (Result Kind KindFault)) : Type 0 where
  pub more : List (Result Kind KindFault)
  pub new_is : new ≡ old ++ more
  pub are : AreOutcomes (stages_of stands) more

-- the table of labels after a piece, where so many stages are defined before it
abbrev pub tabled_one : List ℕ → ℕ → PieceKind → Option ℕ → List ℕ
tabled_one table before Stage (Some label) = table ++ before ∷ []
tabled_one table before Stage None = table
tabled_one table before Reference label = table
tabled_one table before Connector label = table

abbrev pub tabled : List ℕ → ℕ → List Piece → List ℕ
tabled table before [] = table
tabled table before (piece ∷ pieces) = tabled (tabled_one table before piece.kind piece.label) (counted before piece) pieces
