-- All pieces make a net, or are refused, and so each text has a net or a least fault.
use Rattle.std.proofs.Common.{◌≡◌, ◌⊎◌, ◌∙◌, ℕ, List, [], ◌∷◌, None, Ok, Err, refl, ap, sym, subst, inl, inr}
use Rattle.std.specs.declared.result.Result.{Result}
use Rattle.pipe_model.specs.declared.kind.Kind.{Kind}
use Rattle.pipe_model.specs.declared.net.Net.{Net}
use Rattle.argument_parts.specs.declared.fault.ArgFault.{ArgFault}
use Rattle.stage_syntax.proofs.EachKind.{each_kind}
use Rattle.stage_syntax.specs.Kinds.{IsArgFault, IsKind}
use Rattle.stage_syntax.specs.Names.{arguments_of}
use Rattle.stage_syntax.specs.declared.fault.KindFault.{KindFault}
use Rattle.stage_syntax.specs.declared.fault.KindFault.TheVariants.{Unknown, Argument}
use Rattle.spec_scanner.proofs.EachText.{each_least, each_text}
use Rattle.spec_scanner.specs.Faults.{IsLeast}
use Rattle.spec_scanner.specs.Reads.{IsRefused as IsTextRefused, Reads}
use Rattle.spec_scanner.specs.declared.fault.Fault.{Fault}
use Rattle.spec_scanner.specs.declared.piece.Piece.{Piece}
use Rattle.net_graph.proofs.Goods.{graph_of, kinds_known}
use Rattle.net_graph.specs.Faults.{IsGraph, IsRefused, faults_of}
use Rattle.net_graph.specs.Kept.{kinds_in}
use Rattle.net_graph.specs.Nets.{AreOutcomes, IsOutcome, net_of}
use Rattle.net_graph.specs.Stands.{Stand, stages_of, stands_of}

-- each stage has an outcome
each_outcome : (stand : Stand) → (outcome : Result Kind KindFault) × IsOutcome stand outcome
each_outcome stand = by (each_kind stand.piece.name stand.piece.arg stand.first)
  where
    by : ((kind : Kind) × IsKind stand.piece.name stand.piece.arg stand.first kind) ⊎ (((fault : ArgFault) × IsArgFault stand.piece.name stand.piece.arg stand.first fault) ⊎ (arguments_of stand.piece.name stand.first ≡ None))
        → (outcome : Result Kind KindFault) × IsOutcome stand outcome
    by (inl (kind, is)) = (Ok kind, is)
    by (inr (inl (fault, is))) = (Err (Argument fault), (λ same. cc, is))
    by (inr (inr unknown)) = (Err Unknown, (λ same. cc, unknown))

each_outcomes : (stands : List Stand) → (outcomes : List (Result Kind KindFault)) × AreOutcomes stands outcomes
each_outcomes [] = ([], tt)
each_outcomes (stand ∷ stands) =
    let first = each_outcome stand in
    let rest = each_outcomes stands in
    (first.0 ∷ rest.0, (first.1, rest.1))

module _ (pipelines : List (List Piece)) where
  abbrev Told : Type 0
  Told = ((net : Net) × IsGraph pipelines net) ⊎ ((fault : Fault) × IsRefused pipelines fault)

  by_faults : (outcomes : List (Result Kind KindFault)) → AreOutcomes (stages_of (stands_of pipelines)) outcomes → (faults_of pipelines outcomes ≡ []) ⊎ ((fault : Fault) × IsLeast fault (faults_of pipelines outcomes)) → Told
  by_faults outcomes read (inl none) =
      let kinds = kinds_in outcomes in
      let known = kinds_known pipelines outcomes kinds read none refl in
      inl (net_of pipelines kinds, graph_of pipelines kinds (net_of pipelines kinds) (subst (AreOutcomes (stages_of (stands_of pipelines))) (sym known) read) (ap (faults_of pipelines) known ∙ none) refl)
  by_faults outcomes read (inr (fault, is)) = inr (fault, record { outcomes = outcomes; read = read; least_is = is })

  pub each_graph : ((net : Net) × IsGraph pipelines net) ⊎ ((fault : Fault) × IsRefused pipelines fault)
  each_graph = let outcomes = each_outcomes (stages_of (stands_of pipelines)) in by_faults outcomes.0 outcomes.1 (each_least (faults_of pipelines outcomes.0))

-- each text reads as pieces that make a net, or it is refused, or they are
module _ (text : List ℕ) where
  abbrev NetTold : Type 0
  NetTold =
      ((pipelines : List (List Piece)) × (net : Net) × Reads text pipelines × IsGraph pipelines net)
      ⊎ ((fault : Fault) × (IsTextRefused text fault ⊎ ((pipelines : List (List Piece)) × Reads text pipelines × IsRefused pipelines fault)))

  with_pieces : (pipelines : List (List Piece)) → Reads text pipelines → ((net : Net) × IsGraph pipelines net) ⊎ ((fault : Fault) × IsRefused pipelines fault) → NetTold
  with_pieces pipelines reads (inl (net, graph)) = inl (pipelines, net, reads, graph)
  with_pieces pipelines reads (inr (fault, refused)) = inr (fault, inr (pipelines, reads, refused))

  by_text : ((pipelines : List (List Piece)) × Reads text pipelines) ⊎ ((fault : Fault) × IsTextRefused text fault) → NetTold
  by_text (inl (pipelines, reads)) = with_pieces pipelines reads (each_graph pipelines)
  by_text (inr (fault, refused)) = inr (fault, inl refused)

  pub each_net : ((pipelines : List (List Piece)) × (net : Net) × Reads text pipelines × IsGraph pipelines net)
      ⊎ ((fault : Fault) × (IsTextRefused text fault ⊎ ((pipelines : List (List Piece)) × Reads text pipelines × IsRefused pipelines fault)))
  each_net = by_text (each_text text)
