use Rattle.std.proofs.Common.{sym, subst}
use Rattle.unique_sort.specs.declared.order_lists.OrderLists.TheVariants.{First, Hold, Sort, Count}
use Rattle.stage_steps.specs.Lists.{Begins}
use Rattle.unique_sort.specs.OrderLists.{OrderListsStand}
use Rattle.unique_sort.proofs.order_lists.OrderListsLists.begin.Goals as goal

pub returns-in-First-clause-begins : goal.returns-in-First-clause-begins
returns-in-First-clause-begins c = subst (λ x. Begins OrderListsStand x (First c.begin.new.self)) (sym c.in-First.is) c.begin.ensures.begins

pub returns-in-Hold-clause-begins : goal.returns-in-Hold-clause-begins
returns-in-Hold-clause-begins c = subst (λ x. Begins OrderListsStand x (Hold c.begin-in-Hold.new.self)) (sym c.in-Hold.is) c.begin-in-Hold.ensures.begins

pub returns-in-Sort-clause-begins : goal.returns-in-Sort-clause-begins
returns-in-Sort-clause-begins c = subst (λ x. Begins OrderListsStand x (Sort c.begin-in-Sort.new.self)) (sym c.in-Sort.is) c.begin-in-Sort.ensures.begins

pub returns-in-Count-clause-begins : goal.returns-in-Count-clause-begins
returns-in-Count-clause-begins c = subst (λ x. Begins OrderListsStand x (Count c.begin-in-Count.new.self)) (sym c.in-Count.is) c.begin-in-Count.ensures.begins
