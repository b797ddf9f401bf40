use Rattle.std.proofs.Common.{[], List, ap, sym, subst, true}
use Rattle.std.proofs.lemmas.List.{append-nil}
use Rattle.spec_scanner.specs.declared.piece.Piece.{Piece}
use Rattle.net_graph.specs.Nets.{AreOutcomes}
use Rattle.net_graph.specs.Outcomes.{AddsOutcomes}
use Rattle.net_graph.specs.Stands.{Stand, stages_of, stands_in, stands_of}
use Rattle.net_graph.proofs.Adding.{more_outcomes}
use Rattle.net_graph.proofs.Walks.{no_stands, stands_past}
use Rattle.net_graph.proofs.outcomes.outcomes_of.Goals as goal

pub loop-pieces-preserved : goal.loop-pieces-preserved
loop-pieces-preserved c =
    let on = stands_past c.args.pipelines.now c.loop-pieces.pieces-index c.pieces-item.result c.pieces-item.is c.loop-pieces-test.true in
    let adds = subst (λ (pieces : List Piece). AddsOutcomes (stands_in true pieces) c.loop-pieces.outcomes.items c.add_outcomes.new.outcomes.items) c.as_slice.ensures c.in_ok-add_outcomes.ensures in
    more_outcomes (stands_of c.args.pipelines.now) _ _ _ _ _ on c.loop-pieces.invariant adds

pub returns : goal.returns
returns c =
    let none = ap stages_of (no_stands c.args.pipelines.now c.loop-pieces.pieces-index c.loop-pieces-test.false) in
    subst (AreOutcomes (stages_of (stands_of c.args.pipelines.now))) (append-nil c.loop-pieces.outcomes.items)
    (c.loop-pieces.invariant [] (subst (λ (stages : List Stand). AreOutcomes stages []) (sym none) tt))
