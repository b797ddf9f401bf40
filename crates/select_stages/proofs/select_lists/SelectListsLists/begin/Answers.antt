use Rattle.std.proofs.Common.{sym, subst}
use Rattle.stage_steps.specs.Lists.{Begins}
use Rattle.select_stages.specs.declared.select_lists.SelectLists.TheVariants.{Hold}
use Rattle.select_stages.specs.SelectLists.{SelectListsStand}
use Rattle.select_stages.proofs.select_lists.SelectListsLists.begin.Goals as goal

pub returns-in-Hold-clause-begins : goal.returns-in-Hold-clause-begins
returns-in-Hold-clause-begins c = subst (λ x. Begins SelectListsStand x (Hold c.begin-in-Hold.new.self)) (sym c.in-Hold.is) c.begin-in-Hold.ensures.begins
