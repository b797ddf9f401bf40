use Rattle.stage_steps.proofs.HandingOn.{handed_on}
use Rattle.stage_steps.specs.Drivers.{ListedStands}
use Rattle.stage_steps.specs.Each.{EachStand, each_look}
use Rattle.stage_steps.specs.Planned.{PlannedStands}
use Rattle.fan_stages.specs.declared.fan.FanStage.TheVariants as Stages
use Rattle.fan_stages.specs.FanEach.{FanEachStand, fan_each_look}
use Rattle.fan_stages.specs.FanPlans.{FanPlansStand, fan_plans_look}
use Rattle.fan_stages.specs.Fan.{FanStands}
use Rattle.fan_stages.proofs.fan.FanStageStage.see.Goals as goal

pub returns-in-Parts : goal.returns-in-Parts
returns-in-Parts c =
    handed_on (ListedStands (EachStand FanEachStand) (each_look fan_each_look)) Stages.Parts FanStands (λ x s h is. is) (λ x s h is. is) c.args.self.now c.in-Parts.stage c.see.new.self c.args.bytes.now c.see.new.asked c.see.result c.in-Parts.is c.see.ensures

pub returns-in-Joins : goal.returns-in-Joins
returns-in-Joins c =
    handed_on (PlannedStands FanPlansStand fan_plans_look) Stages.Joins FanStands (λ x s h is. is) (λ x s h is. is) c.args.self.now c.in-Joins.stage c.see-in-Joins.new.self c.args.bytes.now c.see-in-Joins.new.asked c.see-in-Joins.result c.in-Joins.is c.see-in-Joins.ensures
