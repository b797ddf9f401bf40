-- Each strand of the net of a specification is of a kind that was read.
use Rattle.std.proofs.Common.{◌≡◌, ℕ, Bool, List, sym, ◌∙◌, ap, subst, Some, slice_get}
use Rattle.pipe_model.specs.declared.kind.Kind.{Kind}
use Rattle.pipe_model.specs.declared.net.Net.{Net}
use Rattle.pipe_model.specs.declared.net.Strand.{Strand}
use Rattle.stage_syntax.specs.Arg.{ArgText}
use Rattle.stage_syntax.specs.Kinds.{IsKind}
use Rattle.spec_scanner.specs.declared.piece.Piece.{Piece}
use Rattle.net_graph.specs.Faults.{IsGraph}
use Rattle.net_graph.specs.Nets.{StageSize, joins_of, links_of, sizes_of}
use Rattle.net_graph.specs.Stands.{stages_of, stands_of}
use Rattle.net_graph.proofs.FormedKinds.{kind_here}
use Rattle.net_graph.proofs.Parted.{part_was, size_was}

-- what holds of each kind that is read holds of those of the strands
pub graph_kinds : (P : Kind → Type 0) → ((name : List ℕ) (arg : ArgText) (first : Bool) (kind : Kind) → IsKind name arg first kind → P kind)
    → (pipelines : List (List Piece)) (net : Net) → IsGraph pipelines net → (s : ℕ) (p : Strand) → slice_get net.strands s ≡ Some p → P p.kind
graph_kinds P each pipelines net graph s p at =
    let stands = stands_of pipelines in
    let sizes : List StageSize = sizes_of stands (stages_of stands) graph.kinds in
    let part = part_was sizes (links_of sizes (joins_of pipelines)) s p (subst (λ (n : Net). slice_get n.strands s ≡ Some p) graph.net_is at) in
    let stage = size_was stands (stages_of stands) graph.kinds part.0.stage part.0.size part.0.stage_there in
    let found = kind_here (stages_of stands) graph.kinds part.0.stage stage.0 graph.read stage.2 in
    let one_kind : found.0 ≡ stage.1 = cc in
    let kind_is : found.0 ≡ p.kind = one_kind ∙ ap (λ (size : StageSize). size.kind) (sym stage.4) ∙ ap (λ (q : Strand). q.kind) (sym part.1) in
    subst P kind_is (each stage.0.piece.name stage.0.piece.arg stage.0.first found.0 found.2)
