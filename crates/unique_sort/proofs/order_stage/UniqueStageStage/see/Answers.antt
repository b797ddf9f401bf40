use Rattle.std.proofs.Common.{refl}
use Rattle.stage_steps.proofs.HandingOn.{handed_on}
use Rattle.unique_sort.specs.declared.order_stage.UniqueStage.{UniqueStage}
use Rattle.stage_steps.specs.Drivers.{ListedStands}
use Rattle.unique_sort.specs.OrderLists.{OrderListsStand, order_lists_look}
use Rattle.unique_sort.specs.OrderStage.{UniqueStands}
use Rattle.unique_sort.proofs.order_stage.UniqueStageStage.see.Goals as goal

pub returns : goal.returns
returns c =
    handed_on {T = UniqueStage} (ListedStands OrderListsStand order_lists_look) (λ x. record { stage = x }) UniqueStands (λ x s h is. is) (λ x s h is. is) c.args.self.now c.args.self.now.stage c.see.new.self c.args.bytes.now c.see.new.asked c.see.result refl c.see.ensures
