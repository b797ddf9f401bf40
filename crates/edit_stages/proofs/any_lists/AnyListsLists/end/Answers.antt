use Rattle.std.proofs.Common.{sym, subst, IfOk}
use Rattle.edit_stages.specs.declared.any_lists.AnyLists.TheVariants.{Duplicate, Edit, Chop, Split, Join}
use Rattle.stage_steps.specs.Lists.{Finishes}
use Rattle.edit_stages.specs.AnyLists.{AnyListsStand}
use Rattle.edit_stages.proofs.any_lists.AnyListsLists.end.Goals as goal

pub returns-in-Duplicate-clause-finishes : goal.returns-in-Duplicate-clause-finishes
returns-in-Duplicate-clause-finishes c = subst (λ x. IfOk c.end.result (λ _. Finishes AnyListsStand x (Duplicate c.end.new.self))) (sym c.in-Duplicate.is) c.end.ensures.finishes

pub returns-in-Edit-clause-finishes : goal.returns-in-Edit-clause-finishes
returns-in-Edit-clause-finishes c = subst (λ x. IfOk c.end-in-Edit.result (λ _. Finishes AnyListsStand x (Edit c.end-in-Edit.new.self))) (sym c.in-Edit.is) c.end-in-Edit.ensures.finishes

pub returns-in-Chop-clause-finishes : goal.returns-in-Chop-clause-finishes
returns-in-Chop-clause-finishes c = subst (λ x. IfOk c.end-in-Chop.result (λ _. Finishes AnyListsStand x (Chop c.end-in-Chop.new.self))) (sym c.in-Chop.is) c.end-in-Chop.ensures.finishes

pub returns-in-Split-clause-finishes : goal.returns-in-Split-clause-finishes
returns-in-Split-clause-finishes c = subst (λ x. IfOk c.end-in-Split.result (λ _. Finishes AnyListsStand x (Split c.end-in-Split.new.self))) (sym c.in-Split.is) c.end-in-Split.ensures.finishes

pub returns-in-Join-clause-finishes : goal.returns-in-Join-clause-finishes
returns-in-Join-clause-finishes c = subst (λ x. IfOk c.end-in-Join.result (λ _. Finishes AnyListsStand x (Join c.end-in-Join.new.self))) (sym c.in-Join.is) c.end-in-Join.ensures.finishes
