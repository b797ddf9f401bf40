use Rattle.std.proofs.Common.{sym, subst}
use Rattle.stage_steps.specs.Plans.{TellsGoal}
use Rattle.fan_stages.specs.FanPlans.{FanPlansStand}
use Rattle.fan_stages.proofs.fan_plans.FanPlansPlans.goal.Goals as goal

pub returns-in-FanIn : goal.returns-in-FanIn
returns-in-FanIn c = subst (λ x. TellsGoal FanPlansStand x c.goal.result) (sym c.in-FanIn.is) c.goal.ensures

pub returns-in-FanInAny : goal.returns-in-FanInAny
returns-in-FanInAny c = subst (λ x. TellsGoal FanPlansStand x c.goal-in-FanInAny.result) (sym c.in-FanInAny.is) c.goal-in-FanInAny.ensures

pub returns-in-Gather : goal.returns-in-Gather
returns-in-Gather c = subst (λ x. TellsGoal FanPlansStand x c.goal-in-Gather.result) (sym c.in-Gather.is) c.goal-in-Gather.ensures

pub returns-in-Overlay : goal.returns-in-Overlay
returns-in-Overlay c = subst (λ x. TellsGoal FanPlansStand x c.goal-in-Overlay.result) (sym c.in-Overlay.is) c.goal-in-Overlay.ensures

pub returns-in-Synchronise : goal.returns-in-Synchronise
returns-in-Synchronise c = subst (λ x. TellsGoal FanPlansStand x c.goal-in-Synchronise.result) (sym c.in-Synchronise.is) c.goal-in-Synchronise.ensures

pub returns-in-Juxtapose : goal.returns-in-Juxtapose
returns-in-Juxtapose c = subst (λ x. TellsGoal FanPlansStand x c.goal-in-Juxtapose.result) (sym c.in-Juxtapose.is) c.goal-in-Juxtapose.ensures
