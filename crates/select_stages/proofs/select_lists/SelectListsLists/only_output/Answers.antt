use Rattle.std.proofs.Common.{sym, subst}
use Rattle.std.specs.Prelude.{IfSome}
use Rattle.stage_steps.specs.Lists.{IsAllFor}
use Rattle.select_stages.specs.SelectLists.{SelectListsStand}
use Rattle.select_stages.proofs.select_lists.SelectListsLists.only_output.Goals as goal

pub returns-in-Hold : goal.returns-in-Hold
returns-in-Hold c = subst (λ x. IfSome c.only_output.result (λ output. IsAllFor SelectListsStand x output)) (sym c.in-Hold.is) c.only_output.ensures
