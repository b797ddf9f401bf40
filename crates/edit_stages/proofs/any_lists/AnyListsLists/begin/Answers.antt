use Rattle.std.proofs.Common.{sym, subst}
use Rattle.edit_stages.specs.declared.any_lists.AnyLists.TheVariants.{Duplicate, Edit, Chop, Split, Join}
use Rattle.stage_steps.specs.Lists.{Begins}
use Rattle.edit_stages.specs.AnyLists.{AnyListsStand}
use Rattle.edit_stages.proofs.any_lists.AnyListsLists.begin.Goals as goal

pub returns-in-Duplicate-clause-begins : goal.returns-in-Duplicate-clause-begins
returns-in-Duplicate-clause-begins c = subst (λ x. Begins AnyListsStand x (Duplicate c.begin.new.self)) (sym c.in-Duplicate.is) c.begin.ensures.begins

pub returns-in-Edit-clause-begins : goal.returns-in-Edit-clause-begins
returns-in-Edit-clause-begins c = subst (λ x. Begins AnyListsStand x (Edit c.begin-in-Edit.new.self)) (sym c.in-Edit.is) c.begin-in-Edit.ensures.begins

pub returns-in-Chop-clause-begins : goal.returns-in-Chop-clause-begins
returns-in-Chop-clause-begins c = subst (λ x. Begins AnyListsStand x (Chop c.begin-in-Chop.new.self)) (sym c.in-Chop.is) c.begin-in-Chop.ensures.begins

pub returns-in-Split-clause-begins : goal.returns-in-Split-clause-begins
returns-in-Split-clause-begins c = subst (λ x. Begins AnyListsStand x (Split c.begin-in-Split.new.self)) (sym c.in-Split.is) c.begin-in-Split.ensures.begins

pub returns-in-Join-clause-begins : goal.returns-in-Join-clause-begins
returns-in-Join-clause-begins c = subst (λ x. Begins AnyListsStand x (Join c.begin-in-Join.new.self)) (sym c.in-Join.is) c.begin-in-Join.ensures.begins
