use Rattle.std.proofs.Common.{sym, subst, IfOk}
use Rattle.unique_sort.specs.declared.order_lists.OrderLists.TheVariants.{Hold, Sort, Count}
use Rattle.stage_steps.specs.Lists.{HandsOver}
use Rattle.unique_sort.specs.OrderLists.{OrderListsStand, lists_made}
use Rattle.unique_sort.proofs.order_lists.OrderListsLists.hand_over.Goals as goal

pub returns-in-Hold-clause-hands : goal.returns-in-Hold-clause-hands
returns-in-Hold-clause-hands c = subst (λ x. IfOk c.hand_over-in-Hold.result (λ rec. HandsOver OrderListsStand lists_made x rec (Hold c.hand_over-in-Hold.new.self))) (sym c.in-Hold.is) c.hand_over-in-Hold.ensures.hands

pub returns-in-Sort-clause-hands : goal.returns-in-Sort-clause-hands
returns-in-Sort-clause-hands c = subst (λ x. IfOk c.hand_over-in-Sort.result (λ rec. HandsOver OrderListsStand lists_made x rec (Sort c.hand_over-in-Sort.new.self))) (sym c.in-Sort.is) c.hand_over-in-Sort.ensures.hands

pub returns-in-Count-clause-hands : goal.returns-in-Count-clause-hands
returns-in-Count-clause-hands c = subst (λ x. IfOk c.hand_over-in-Count.result (λ rec. HandsOver OrderListsStand lists_made x rec (Count c.hand_over-in-Count.new.self))) (sym c.in-Count.is) c.hand_over-in-Count.ensures.hands
