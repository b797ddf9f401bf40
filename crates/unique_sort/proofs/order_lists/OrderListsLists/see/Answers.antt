use Rattle.std.proofs.Common.{sym, subst, IfOk}
use Rattle.unique_sort.specs.declared.order_lists.OrderLists.TheVariants.{First, Hold, Sort, Count}
use Rattle.stage_steps.specs.Lists.{Sees}
use Rattle.unique_sort.specs.OrderLists.{OrderListsStand, order_lists_look}
use Rattle.unique_sort.proofs.order_lists.OrderListsLists.see.Goals as goal

pub returns-in-First-clause-sees : goal.returns-in-First-clause-sees
returns-in-First-clause-sees c = subst (λ x. IfOk c.see.result (λ _. Sees OrderListsStand (order_lists_look x) x (First c.see.new.self) c.args.bytes.now)) (sym c.in-First.is) c.see.ensures.sees

pub returns-in-Hold-clause-sees : goal.returns-in-Hold-clause-sees
returns-in-Hold-clause-sees c = subst (λ x. IfOk c.see-in-Hold.result (λ _. Sees OrderListsStand (order_lists_look x) x (Hold c.see-in-Hold.new.self) c.args.bytes.now)) (sym c.in-Hold.is) c.see-in-Hold.ensures.sees

pub returns-in-Sort-clause-sees : goal.returns-in-Sort-clause-sees
returns-in-Sort-clause-sees c = subst (λ x. IfOk c.see-in-Sort.result (λ _. Sees OrderListsStand (order_lists_look x) x (Sort c.see-in-Sort.new.self) c.args.bytes.now)) (sym c.in-Sort.is) c.see-in-Sort.ensures.sees

pub returns-in-Count-clause-sees : goal.returns-in-Count-clause-sees
returns-in-Count-clause-sees c = subst (λ x. IfOk c.see-in-Count.result (λ _. Sees OrderListsStand (order_lists_look x) x (Count c.see-in-Count.new.self) c.args.bytes.now)) (sym c.in-Count.is) c.see-in-Count.ensures.sees
