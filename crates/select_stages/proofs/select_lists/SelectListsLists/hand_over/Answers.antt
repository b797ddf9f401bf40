use Rattle.std.proofs.Common.{IfOk, sym, subst}
use Rattle.stage_steps.specs.Lists.{HandsOver}
use Rattle.select_stages.specs.declared.select_lists.SelectLists.TheVariants.{Hold}
use Rattle.select_stages.specs.SelectLists.{SelectListsStand, select_made}
use Rattle.select_stages.proofs.select_lists.SelectListsLists.hand_over.Goals as goal

pub returns-in-Hold-clause-hands : goal.returns-in-Hold-clause-hands
returns-in-Hold-clause-hands c =
    subst (λ x. IfOk c.hand_over-in-Hold.result (λ rec. HandsOver SelectListsStand select_made x rec (Hold c.hand_over-in-Hold.new.self))) (sym c.in-Hold.is) c.hand_over-in-Hold.ensures.hands
