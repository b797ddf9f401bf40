use Rattle.std.proofs.Common.{sym, subst, IfOk}
use Rattle.stage_steps.specs.Plans.{PlansBySight}
use Rattle.fan_stages.specs.declared.fan_plans.FanPlans.TheVariants.{FanIn, FanInAny, Gather, Overlay, Synchronise, Juxtapose}
use Rattle.fan_stages.specs.FanPlans.{FanPlansStand, fan_plans_look}
use Rattle.fan_stages.proofs.fan_plans.FanPlansPlans.see.Goals as goal

pub returns-in-FanIn-clause-plans : goal.returns-in-FanIn-clause-plans
returns-in-FanIn-clause-plans c = subst (λ x. IfOk c.see.result (λ _. PlansBySight FanPlansStand (fan_plans_look x) x (FanIn c.see.new.self) c.args.input c.args.bytes.now)) (sym c.in-FanIn.is) c.see.ensures.plans

pub returns-in-FanInAny-clause-plans : goal.returns-in-FanInAny-clause-plans
returns-in-FanInAny-clause-plans c = subst (λ x. IfOk c.see-in-FanInAny.result (λ _. PlansBySight FanPlansStand (fan_plans_look x) x (FanInAny c.see-in-FanInAny.new.self) c.args.input c.args.bytes.now)) (sym c.in-FanInAny.is) c.see-in-FanInAny.ensures.plans

pub returns-in-Gather-clause-plans : goal.returns-in-Gather-clause-plans
returns-in-Gather-clause-plans c = subst (λ x. IfOk c.see-in-Gather.result (λ _. PlansBySight FanPlansStand (fan_plans_look x) x (Gather c.see-in-Gather.new.self) c.args.input c.args.bytes.now)) (sym c.in-Gather.is) c.see-in-Gather.ensures.plans

pub returns-in-Overlay-clause-plans : goal.returns-in-Overlay-clause-plans
returns-in-Overlay-clause-plans c = subst (λ x. IfOk c.see-in-Overlay.result (λ _. PlansBySight FanPlansStand (fan_plans_look x) x (Overlay c.see-in-Overlay.new.self) c.args.input c.args.bytes.now)) (sym c.in-Overlay.is) c.see-in-Overlay.ensures.plans

pub returns-in-Synchronise-clause-plans : goal.returns-in-Synchronise-clause-plans
returns-in-Synchronise-clause-plans c = subst (λ x. IfOk c.see-in-Synchronise.result (λ _. PlansBySight FanPlansStand (fan_plans_look x) x (Synchronise c.see-in-Synchronise.new.self) c.args.input c.args.bytes.now)) (sym c.in-Synchronise.is) c.see-in-Synchronise.ensures.plans

pub returns-in-Juxtapose-clause-plans : goal.returns-in-Juxtapose-clause-plans
returns-in-Juxtapose-clause-plans c = subst (λ x. IfOk c.see-in-Juxtapose.result (λ _. PlansBySight FanPlansStand (fan_plans_look x) x (Juxtapose c.see-in-Juxtapose.new.self) c.args.input c.args.bytes.now)) (sym c.in-Juxtapose.is) c.see-in-Juxtapose.ensures.plans
