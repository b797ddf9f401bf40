use Rattle.std.proofs.Common.{sym, subst, IfOk}
use Rattle.edit_stages.specs.declared.any_lists.AnyLists.TheVariants.{Duplicate, Edit, Chop, Split, Join}
use Rattle.stage_steps.specs.Lists.{Sees}
use Rattle.edit_stages.specs.AnyLists.{AnyListsStand, any_look}
use Rattle.edit_stages.proofs.any_lists.AnyListsLists.see.Goals as goal

pub returns-in-Duplicate-clause-sees : goal.returns-in-Duplicate-clause-sees
returns-in-Duplicate-clause-sees c = subst (λ x. IfOk c.see.result (λ _. Sees AnyListsStand (any_look x) x (Duplicate c.see.new.self) c.args.bytes.now)) (sym c.in-Duplicate.is) c.see.ensures.sees

pub returns-in-Edit-clause-sees : goal.returns-in-Edit-clause-sees
returns-in-Edit-clause-sees c = subst (λ x. IfOk c.see-in-Edit.result (λ _. Sees AnyListsStand (any_look x) x (Edit c.see-in-Edit.new.self) c.args.bytes.now)) (sym c.in-Edit.is) c.see-in-Edit.ensures.sees

pub returns-in-Chop-clause-sees : goal.returns-in-Chop-clause-sees
returns-in-Chop-clause-sees c = subst (λ x. IfOk c.see-in-Chop.result (λ _. Sees AnyListsStand (any_look x) x (Chop c.see-in-Chop.new.self) c.args.bytes.now)) (sym c.in-Chop.is) c.see-in-Chop.ensures.sees

pub returns-in-Split-clause-sees : goal.returns-in-Split-clause-sees
returns-in-Split-clause-sees c = subst (λ x. IfOk c.see-in-Split.result (λ _. Sees AnyListsStand (any_look x) x (Split c.see-in-Split.new.self) c.args.bytes.now)) (sym c.in-Split.is) c.see-in-Split.ensures.sees

pub returns-in-Join-clause-sees : goal.returns-in-Join-clause-sees
returns-in-Join-clause-sees c = subst (λ x. IfOk c.see-in-Join.result (λ _. Sees AnyListsStand (any_look x) x (Join c.see-in-Join.new.self) c.args.bytes.now)) (sym c.in-Join.is) c.see-in-Join.ensures.sees
