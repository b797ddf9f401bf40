use Rattle.std.proofs.Common.{◌≡◌, Bool, false, List, ◌∙◌, sym, ap, Some}
use Rattle.pipe_model.specs.declared.kind.Kind.{Kind}
use Rattle.stage_steps.specs.declared.listed.Listed.{Listed}
use Rattle.stage_steps.specs.declared.order.Order.{Order}
use Rattle.stage_steps.specs.Drivers.{IsFresh, IsStageOf}
use Rattle.stage_steps.specs.Listed.{lists_of, Listing}
use Rattle.stage_steps.specs.Places.{order_of}
use Rattle.stage_steps.proofs.Fitting.{stage_of}
use Rattle.edit_stages.specs.declared.any_lists.AnyLists.{AnyLists}
use Rattle.edit_stages.specs.AnyLists.{AnyListsStand, any_look, any_order, AreListsOf}
use Rattle.edit_stages.proofs.edit.EditStage.of.Goals as goal

-- a fresh driver of a kind's lists in their order is the stage of that kind
of_lists : (kind : Kind) (lists : AnyLists) (order : Order) (outputs : List Bool) (x : Listed AnyLists) → AreListsOf kind lists → order ≡ any_order lists →
    IsFresh AnyListsStand any_look lists order outputs false x → IsStageOf AnyListsStand any_look kind outputs x
of_lists kind lists order outputs x are in_order fresh =
    stage_of AnyListsStand any_look kind (λ o. are.0) lists order outputs false x fresh
    (λ s. ap (lists_of s) are.1 ∙ ap (λ o. Some (let l : Listing = record { order = order_of o; keeps = false; stream = are.0 } in l)) (sym in_order)) are.2 (λ keeps. cc) are.3

pub returns : goal.returns
returns c = of_lists c.args.kind.now c.in_ok-lists.lists c.order-order.result c.args.outputs.now c.in_ok-new.field-0 c.in_ok-lists.ensures c.order-order.ensures c.in_ok-new.ensures
