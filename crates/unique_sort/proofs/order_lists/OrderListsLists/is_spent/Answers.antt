use Rattle.std.proofs.Common.{◌≡◌, true, sym, subst}
use Rattle.stage_steps.specs.Lists.{IsSpent}
use Rattle.unique_sort.specs.OrderLists.{OrderListsStand}
use Rattle.unique_sort.proofs.order_lists.OrderListsLists.is_spent.Goals as goal

pub returns-in-First : goal.returns-in-First
returns-in-First c = subst (λ x. c.is_spent.result ≡ true → IsSpent OrderListsStand x) (sym c.in-First.is) c.is_spent.ensures

pub returns-in-Hold : goal.returns-in-Hold
returns-in-Hold c = subst (λ x. c.is_spent-in-Hold.result ≡ true → IsSpent OrderListsStand x) (sym c.in-Hold.is) c.is_spent-in-Hold.ensures

pub returns-in-Sort : goal.returns-in-Sort
returns-in-Sort c = subst (λ x. c.is_spent-in-Sort.result ≡ true → IsSpent OrderListsStand x) (sym c.in-Sort.is) c.is_spent-in-Sort.ensures

pub returns-in-Count : goal.returns-in-Count
returns-in-Count c = subst (λ x. c.is_spent-in-Count.result ≡ true → IsSpent OrderListsStand x) (sym c.in-Count.is) c.is_spent-in-Count.ensures
