use Rattle.std.proofs.Common.{sym, subst, IfOk}
use Rattle.edit_stages.specs.declared.any_lists.AnyLists.TheVariants.{Edit, Chop, Split, Join}
use Rattle.stage_steps.specs.Lists.{HandsOver}
use Rattle.edit_stages.specs.AnyLists.{AnyListsStand, any_given}
use Rattle.edit_stages.proofs.any_lists.AnyListsLists.hand_over.Goals as goal

pub returns-in-Edit-clause-hands : goal.returns-in-Edit-clause-hands
returns-in-Edit-clause-hands c = subst (λ x. IfOk c.hand_over-in-Edit.result (λ rec. HandsOver AnyListsStand any_given x rec (Edit c.hand_over-in-Edit.new.self))) (sym c.in-Edit.is) c.hand_over-in-Edit.ensures.hands

pub returns-in-Chop-clause-hands : goal.returns-in-Chop-clause-hands
returns-in-Chop-clause-hands c = subst (λ x. IfOk c.hand_over-in-Chop.result (λ rec. HandsOver AnyListsStand any_given x rec (Chop c.hand_over-in-Chop.new.self))) (sym c.in-Chop.is) c.hand_over-in-Chop.ensures.hands

pub returns-in-Split-clause-hands : goal.returns-in-Split-clause-hands
returns-in-Split-clause-hands c = subst (λ x. IfOk c.hand_over-in-Split.result (λ rec. HandsOver AnyListsStand any_given x rec (Split c.hand_over-in-Split.new.self))) (sym c.in-Split.is) c.hand_over-in-Split.ensures.hands

pub returns-in-Join-clause-hands : goal.returns-in-Join-clause-hands
returns-in-Join-clause-hands c = subst (λ x. IfOk c.hand_over-in-Join.result (λ rec. HandsOver AnyListsStand any_given x rec (Join c.hand_over-in-Join.new.self))) (sym c.in-Join.is) c.hand_over-in-Join.ensures.hands
