use Rattle.std.proofs.Common.{sym, subst, IfOk}
use Rattle.edit_stages.specs.declared.any_lists.AnyLists.TheVariants.{Duplicate, Edit, Chop, Split, Join}
use Rattle.stage_steps.specs.Lists.{GivesNext}
use Rattle.edit_stages.specs.AnyLists.{AnyListsStand, any_given}
use Rattle.edit_stages.proofs.any_lists.AnyListsLists.next.Goals as goal

pub returns-in-Duplicate-clause-gives : goal.returns-in-Duplicate-clause-gives
returns-in-Duplicate-clause-gives c = subst (λ x. IfOk c.next.result (λ given. GivesNext AnyListsStand any_given x (Duplicate c.next.new.self) given)) (sym c.in-Duplicate.is) c.next.ensures.gives

pub returns-in-Edit-clause-gives : goal.returns-in-Edit-clause-gives
returns-in-Edit-clause-gives c = subst (λ x. IfOk c.next-in-Edit.result (λ given. GivesNext AnyListsStand any_given x (Edit c.next-in-Edit.new.self) given)) (sym c.in-Edit.is) c.next-in-Edit.ensures.gives

pub returns-in-Chop-clause-gives : goal.returns-in-Chop-clause-gives
returns-in-Chop-clause-gives c = subst (λ x. IfOk c.next-in-Chop.result (λ given. GivesNext AnyListsStand any_given x (Chop c.next-in-Chop.new.self) given)) (sym c.in-Chop.is) c.next-in-Chop.ensures.gives

pub returns-in-Split-clause-gives : goal.returns-in-Split-clause-gives
returns-in-Split-clause-gives c = subst (λ x. IfOk c.next-in-Split.result (λ given. GivesNext AnyListsStand any_given x (Split c.next-in-Split.new.self) given)) (sym c.in-Split.is) c.next-in-Split.ensures.gives

pub returns-in-Join-clause-gives : goal.returns-in-Join-clause-gives
returns-in-Join-clause-gives c = subst (λ x. IfOk c.next-in-Join.result (λ given. GivesNext AnyListsStand any_given x (Join c.next-in-Join.new.self) given)) (sym c.in-Join.is) c.next-in-Join.ensures.gives
