use Rattle.std.proofs.Common.{IfOk, sym, subst}
use Rattle.stage_steps.specs.Lists.{Finishes}
use Rattle.select_stages.specs.declared.select_lists.SelectLists.TheVariants.{Hold}
use Rattle.select_stages.specs.SelectLists.{SelectListsStand}
use Rattle.select_stages.proofs.select_lists.SelectListsLists.end.Goals as goal

pub returns-in-Hold-clause-finishes : goal.returns-in-Hold-clause-finishes
returns-in-Hold-clause-finishes c = subst (λ x. IfOk c.end-in-Hold.result (λ done. Finishes SelectListsStand x (Hold c.end-in-Hold.new.self))) (sym c.in-Hold.is) c.end-in-Hold.ensures.finishes
