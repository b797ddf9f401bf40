use Rattle.std.proofs.Common.{sym, subst, IfOk}
use Rattle.pipe_model.specs.Event.Event.{SawEnd}
use Rattle.stage_steps.specs.Plans.{Plans}
use Rattle.fan_stages.specs.declared.fan_plans.FanPlans.TheVariants.{FanIn, FanInAny, Gather, Overlay, Synchronise, Juxtapose}
use Rattle.fan_stages.specs.FanPlans.{FanPlansStand}
use Rattle.fan_stages.proofs.fan_plans.FanPlansPlans.end.Goals as goal

pub returns-in-FanIn-clause-plans : goal.returns-in-FanIn-clause-plans
returns-in-FanIn-clause-plans c = subst (λ x. IfOk c.end.result (λ _. Plans FanPlansStand x (FanIn c.end.new.self) (SawEnd c.args.input))) (sym c.in-FanIn.is) c.end.ensures.plans

pub returns-in-FanInAny-clause-plans : goal.returns-in-FanInAny-clause-plans
returns-in-FanInAny-clause-plans c = subst (λ x. IfOk c.end-in-FanInAny.result (λ _. Plans FanPlansStand x (FanInAny c.end-in-FanInAny.new.self) (SawEnd c.args.input))) (sym c.in-FanInAny.is) c.end-in-FanInAny.ensures.plans

pub returns-in-Gather-clause-plans : goal.returns-in-Gather-clause-plans
returns-in-Gather-clause-plans c = subst (λ x. IfOk c.end-in-Gather.result (λ _. Plans FanPlansStand x (Gather c.end-in-Gather.new.self) (SawEnd c.args.input))) (sym c.in-Gather.is) c.end-in-Gather.ensures.plans

pub returns-in-Overlay-clause-plans : goal.returns-in-Overlay-clause-plans
returns-in-Overlay-clause-plans c = subst (λ x. IfOk c.end-in-Overlay.result (λ _. Plans FanPlansStand x (Overlay c.end-in-Overlay.new.self) (SawEnd c.args.input))) (sym c.in-Overlay.is) c.end-in-Overlay.ensures.plans

pub returns-in-Synchronise-clause-plans : goal.returns-in-Synchronise-clause-plans
returns-in-Synchronise-clause-plans c = subst (λ x. IfOk c.end-in-Synchronise.result (λ _. Plans FanPlansStand x (Synchronise c.end-in-Synchronise.new.self) (SawEnd c.args.input))) (sym c.in-Synchronise.is) c.end-in-Synchronise.ensures.plans

pub returns-in-Juxtapose-clause-plans : goal.returns-in-Juxtapose-clause-plans
returns-in-Juxtapose-clause-plans c = subst (λ x. IfOk c.end-in-Juxtapose.result (λ _. Plans FanPlansStand x (Juxtapose c.end-in-Juxtapose.new.self) (SawEnd c.args.input))) (sym c.in-Juxtapose.is) c.end-in-Juxtapose.ensures.plans
