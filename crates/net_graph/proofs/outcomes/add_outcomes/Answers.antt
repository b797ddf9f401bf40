use Rattle.std.proofs.Common.{[], ◌∙◌, List, nat_eq, ap, sym, subst, true}
use Rattle.std.proofs.lemmas.List.{append-nil}
use Rattle.net_graph.specs.Nets.{AreOutcomes}
use Rattle.net_graph.specs.Outcomes.{AddsOutcomes}
use Rattle.net_graph.specs.Stands.{Stand, stages_of, stands_in}
use Rattle.net_graph.proofs.Adding.{no_outcome, one_outcome}
use Rattle.net_graph.proofs.Walks.{stands_end, stands_on}
use Rattle.net_graph.proofs.outcomes.add_outcomes.Goals as goal
use Rattle.net_graph.proofs.outcomes.add_outcomes.Goals.{then-is_stage+in_ok-outcome+in_ok-push, else-is_stage}

pub loop-k-preserved : goal.loop-k-preserved
loop-k-preserved c =
    let on = stands_on c.args.pieces.now c.loop-k.k c.index-pieces-k.result c.index-pieces-k.is c.loop-k-test.true in
    elim c.if-is_stage.branch [
      | then-is_stage+in_ok-outcome+in_ok-push w ↦ one_outcome _ _ _ _ _ _ _ on c.loop-k.invariant w.in_ok-outcome.field-0 (sym c.is_stage.ensures ∙ w.if-is_stage.true) w.in_ok-outcome.ensures.read
          (ap (λ v. v.items) w.outcomes-is ∙ w.in_ok-push.ensures.items)
      | else-is_stage w ↦ no_outcome _ _ _ _ _ _ _ on c.loop-k.invariant (sym c.is_stage.ensures ∙ w.if-is_stage.false) (ap (λ v. v.items) w.outcomes-is)
    ]

pub returns : goal.returns
returns c =
    let none = ap stages_of (stands_end c.args.pieces.now c.loop-k.k (nat_eq c.loop-k.k 0) c.loop-k-test.false) in
    subst (AddsOutcomes (stands_in true c.args.pieces.now) c.args.outcomes.now.items) (append-nil c.loop-k.outcomes.items)
    (c.loop-k.invariant [] (subst (λ (stages : List Stand). AreOutcomes stages []) (sym none) tt))
