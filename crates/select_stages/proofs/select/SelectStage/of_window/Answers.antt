use Rattle.std.proofs.Common.{refl, sym, ap, false}
use Rattle.stage_steps.specs.declared.order.Order.TheVariants.{TakesFirst}
use Rattle.stage_steps.specs.Listed.{lists_of}
use Rattle.stage_steps.proofs.Fitting.{stage_of}
use Rattle.select_stages.specs.declared.select_lists.SelectLists.TheVariants.{Hold}
use Rattle.select_stages.specs.SelectLists.{SelectListsStand, select_lists_look}
use Rattle.select_stages.proofs.select.SelectStage.of_window.Goals as goal

pub returns : goal.returns
returns c = λ kind is.
    stage_of SelectListsStand select_lists_look kind (λ outputs. is.0) (Hold c.args.window) TakesFirst c.args.outputs.now false c.in_ok-stage.stage c.in_ok-stage.ensures
    (λ s. ap (lists_of s) is.1) (sym is.2) (λ keeps. refl) is.3
