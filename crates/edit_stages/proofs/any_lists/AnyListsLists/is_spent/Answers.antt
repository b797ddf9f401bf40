use Rattle.std.proofs.Common.{◌≡◌, true, sym, subst}
use Rattle.edit_stages.specs.declared.any_lists.AnyLists.TheVariants.{Duplicate, Edit, Chop, Split, Join}
use Rattle.stage_steps.specs.Lists.{IsSpent}
use Rattle.edit_stages.specs.AnyLists.{AnyListsStand}
use Rattle.edit_stages.proofs.any_lists.AnyListsLists.is_spent.Goals as goal

pub returns-in-Duplicate : goal.returns-in-Duplicate
returns-in-Duplicate c = subst (λ x. c.is_spent.result ≡ true → IsSpent AnyListsStand x) (sym c.in-Duplicate.is) c.is_spent.ensures

pub returns-in-Edit : goal.returns-in-Edit
returns-in-Edit c = subst (λ x. c.is_spent-in-Edit.result ≡ true → IsSpent AnyListsStand x) (sym c.in-Edit.is) c.is_spent-in-Edit.ensures

pub returns-in-Chop : goal.returns-in-Chop
returns-in-Chop c = subst (λ x. c.is_spent-in-Chop.result ≡ true → IsSpent AnyListsStand x) (sym c.in-Chop.is) c.is_spent-in-Chop.ensures

pub returns-in-Split : goal.returns-in-Split
returns-in-Split c = subst (λ x. c.is_spent-in-Split.result ≡ true → IsSpent AnyListsStand x) (sym c.in-Split.is) c.is_spent-in-Split.ensures

pub returns-in-Join : goal.returns-in-Join
returns-in-Join c = subst (λ x. c.is_spent-in-Join.result ≡ true → IsSpent AnyListsStand x) (sym c.in-Join.is) c.is_spent-in-Join.ensures
