use Rattle.std.proofs.Common.{Bool, false, List, sym, ap, subst}
use Rattle.pipe_model.specs.declared.kind.Kind.{Kind}
use Rattle.stage_steps.specs.declared.listed.Listed.{Listed}
use Rattle.stage_steps.specs.declared.order.Order.{Order}
use Rattle.stage_steps.specs.Drivers.{IsFresh, IsStageOf}
use Rattle.stage_steps.specs.Listed.{lists_of}
use Rattle.stage_steps.proofs.Fitting.{stage_of}
use Rattle.specs_stage.specs.declared.specs_lists.SpecsLists.{SpecsLists}
use Rattle.specs_stage.specs.SpecsLists.{SpecsStand, specs_look, order_by}
use Rattle.specs_stage.specs.SpecsStage.{AreListsOf}
use Rattle.specs_stage.proofs.stage.SpecsStage.of.Goals as goal

-- a fresh driver of a kind's lists is the stage of that kind
of_lists : (kind : Kind) (lists : SpecsLists) (outputs : List Bool) (x : Listed SpecsLists) → AreListsOf kind lists → IsFresh SpecsStand specs_look lists (order_by lists.has_read) outputs false x → IsStageOf SpecsStand specs_look kind outputs x
of_lists kind lists outputs x are fresh =
    stage_of SpecsStand specs_look kind (λ o. are.0) lists (order_by lists.has_read) outputs false x fresh (λ s. ap (lists_of s) are.1) (sym are.2) (λ keeps. cc) are.3

pub returns : goal.returns
returns c =
    let lists = c.in_ok-lists.lists in
    of_lists c.args.kind.now lists c.args.outputs.now c.in_ok-new.field-0 c.in_ok-lists.ensures
    (subst (λ (order : Order). IsFresh SpecsStand specs_look lists order c.args.outputs.now false c.in_ok-new.field-0) c.order-order.ensures c.in_ok-new.ensures)
