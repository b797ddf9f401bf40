-- No stage of the net of a specification is given a file yet.
use Rattle.std.proofs.Common.{◌≡◌, true, List}
use Rattle.pipe_model.specs.declared.net.Net.{Net}
use Rattle.stage_syntax.specs.Files.{is_unfiled}
use Rattle.stage_syntax.proofs.TypedKinds.{typed_kind}
use Rattle.spec_scanner.specs.declared.piece.Piece.{Piece}
use Rattle.net_graph.specs.Faults.{IsGraph}
use Rattle.net_graph.specs.Fed.{AreUnfiled}
use Rattle.net_graph.proofs.GraphKinds.{graph_kinds}

pub graph_unfiled : (pipelines : List (List Piece)) (net : Net) → IsGraph pipelines net → AreUnfiled net
graph_unfiled = graph_kinds (λ kind. is_unfiled kind ≡ true) (λ name arg first kind read. (typed_kind name arg first kind read).unfiled)
