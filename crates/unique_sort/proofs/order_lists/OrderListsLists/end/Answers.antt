use Rattle.std.proofs.Common.{sym, subst, IfOk}
use Rattle.unique_sort.specs.declared.order_lists.OrderLists.TheVariants.{First, Hold, Sort, Count}
use Rattle.stage_steps.specs.Lists.{Finishes}
use Rattle.unique_sort.specs.OrderLists.{OrderListsStand}
use Rattle.unique_sort.proofs.order_lists.OrderListsLists.end.Goals as goal

pub returns-in-First-clause-finishes : goal.returns-in-First-clause-finishes
returns-in-First-clause-finishes c = subst (λ x. IfOk c.end.result (λ _. Finishes OrderListsStand x (First c.end.new.self))) (sym c.in-First.is) c.end.ensures.finishes

pub returns-in-Hold-clause-finishes : goal.returns-in-Hold-clause-finishes
returns-in-Hold-clause-finishes c = subst (λ x. IfOk c.end-in-Hold.result (λ _. Finishes OrderListsStand x (Hold c.end-in-Hold.new.self))) (sym c.in-Hold.is) c.end-in-Hold.ensures.finishes

pub returns-in-Sort-clause-finishes : goal.returns-in-Sort-clause-finishes
returns-in-Sort-clause-finishes c = subst (λ x. IfOk c.end-in-Sort.result (λ _. Finishes OrderListsStand x (Sort c.end-in-Sort.new.self))) (sym c.in-Sort.is) c.end-in-Sort.ensures.finishes

pub returns-in-Count-clause-finishes : goal.returns-in-Count-clause-finishes
returns-in-Count-clause-finishes c = subst (λ x. IfOk c.end-in-Count.result (λ _. Finishes OrderListsStand x (Count c.end-in-Count.new.self))) (sym c.in-Count.is) c.end-in-Count.ensures.finishes
