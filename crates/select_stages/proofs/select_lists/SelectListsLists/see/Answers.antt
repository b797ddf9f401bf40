use Rattle.std.proofs.Common.{IfOk, sym, subst}
use Rattle.stage_steps.specs.Lists.{Sees}
use Rattle.select_stages.specs.declared.select_lists.SelectLists.TheVariants.{Hold}
use Rattle.select_stages.specs.SelectLists.{SelectListsStand, select_lists_look}
use Rattle.select_stages.proofs.select_lists.SelectListsLists.see.Goals as goal

pub returns-in-Hold-clause-sees : goal.returns-in-Hold-clause-sees
returns-in-Hold-clause-sees c =
    subst (λ x. IfOk c.see-in-Hold.result (λ done. Sees SelectListsStand (select_lists_look x) x (Hold c.see-in-Hold.new.self) c.args.bytes.now)) (sym c.in-Hold.is) c.see-in-Hold.ensures.sees
