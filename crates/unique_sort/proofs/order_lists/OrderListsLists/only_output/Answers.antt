use Rattle.std.proofs.Common.{sym, subst}
use Rattle.std.specs.Prelude.{IfSome}
use Rattle.stage_steps.specs.Lists.{IsAllFor}
use Rattle.unique_sort.specs.OrderLists.{OrderListsStand}
use Rattle.unique_sort.proofs.order_lists.OrderListsLists.only_output.Goals as goal

pub returns-in-Hold : goal.returns-in-Hold
returns-in-Hold c = subst (λ x. IfSome c.only_output.result (λ output. IsAllFor OrderListsStand x output)) (sym c.in-Hold.is) c.only_output.ensures
