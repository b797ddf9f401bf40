use Rattle.std.proofs.Common.{sym, subst, IfOk}
use Rattle.unique_sort.specs.declared.order_lists.OrderLists.TheVariants.{First, Hold, Sort, Count}
use Rattle.stage_steps.specs.Lists.{GivesNext}
use Rattle.unique_sort.specs.OrderLists.{OrderListsStand, lists_made}
use Rattle.unique_sort.proofs.order_lists.OrderListsLists.next.Goals as goal

pub returns-in-First-clause-gives : goal.returns-in-First-clause-gives
returns-in-First-clause-gives c = subst (λ x. IfOk c.next.result (λ given. GivesNext OrderListsStand lists_made x (First c.next.new.self) given)) (sym c.in-First.is) c.next.ensures.gives

pub returns-in-Hold-clause-gives : goal.returns-in-Hold-clause-gives
returns-in-Hold-clause-gives c = subst (λ x. IfOk c.next-in-Hold.result (λ given. GivesNext OrderListsStand lists_made x (Hold c.next-in-Hold.new.self) given)) (sym c.in-Hold.is) c.next-in-Hold.ensures.gives

pub returns-in-Sort-clause-gives : goal.returns-in-Sort-clause-gives
returns-in-Sort-clause-gives c = subst (λ x. IfOk c.next-in-Sort.result (λ given. GivesNext OrderListsStand lists_made x (Sort c.next-in-Sort.new.self) given)) (sym c.in-Sort.is) c.next-in-Sort.ensures.gives

pub returns-in-Count-clause-gives : goal.returns-in-Count-clause-gives
returns-in-Count-clause-gives c = subst (λ x. IfOk c.next-in-Count.result (λ given. GivesNext OrderListsStand lists_made x (Count c.next-in-Count.new.self) given)) (sym c.in-Count.is) c.next-in-Count.ensures.gives
