use Rattle.std.proofs.Common.{refl, ap, false, None}
use Rattle.stage_steps.specs.declared.order.Order.TheVariants.{WritesFirst}
use Rattle.stage_steps.specs.Listed.{lists_of}
use Rattle.stage_steps.proofs.Fitting.{stage_of}
use Rattle.select_stages.specs.declared.select_lists.SelectLists.TheVariants.{Pick}
use Rattle.select_stages.specs.Picks.{chosen}
use Rattle.select_stages.specs.SelectLists.{SelectListsStand, select_lists_look}
use Rattle.select_stages.proofs.select.SelectStage.of_picks.Goals as goal

pub returns : goal.returns
returns c = λ kind is.
    let outputs = c.args.outputs.now in
    stage_of SelectListsStand select_lists_look kind (λ outputs. chosen (is.0 outputs)) (Pick (record { picks = c.args.picks; waiting = None })) WritesFirst outputs false c.in_ok-stage.stage c.in_ok-stage.ensures
    (λ s. ap (lists_of s) is.1.0) is.1.1 (λ keeps. cc) (is.0 outputs, refl, is.2, refl, tt)
