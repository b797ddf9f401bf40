use Rattle.std.proofs.Common.{subst}
use Rattle.select_stages.specs.SelectLists.{SelectListsStand}
use Rattle.select_stages.proofs.select_lists.SelectListsLists.is_spent.Goals as goal

pub returns-in-Pick : goal.returns-in-Pick
returns-in-Pick c = λ spent over t recs acts is. c.is_spent.ensures spent over t recs acts (subst (λ x. SelectListsStand x over t recs acts) c.in-Pick.is is)

pub returns-in-Hold : goal.returns-in-Hold
returns-in-Hold c = λ spent over t recs acts is. c.is_spent-in-Hold.ensures spent over t recs acts (subst (λ x. SelectListsStand x over t recs acts) c.in-Hold.is is)
