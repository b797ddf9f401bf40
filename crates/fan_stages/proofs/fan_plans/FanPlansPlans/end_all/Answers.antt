use Rattle.std.proofs.Common.{sym, subst}
use Rattle.pipe_model.specs.Event.Event.{SawAllEnd}
use Rattle.stage_steps.specs.Plans.{Plans}
use Rattle.fan_stages.specs.declared.fan_plans.FanPlans.TheVariants.{FanIn, FanInAny, Gather, Overlay, Synchronise, Juxtapose}
use Rattle.fan_stages.specs.FanPlans.{FanPlansStand}
use Rattle.fan_stages.proofs.fan_plans.FanPlansPlans.end_all.Goals as goal

pub returns-in-FanIn-clause-plans : goal.returns-in-FanIn-clause-plans
returns-in-FanIn-clause-plans c = subst (λ x. Plans FanPlansStand x (FanIn c.end_all.new.self) SawAllEnd) (sym c.in-FanIn.is) c.end_all.ensures.plans

pub returns-in-FanInAny-clause-plans : goal.returns-in-FanInAny-clause-plans
returns-in-FanInAny-clause-plans c = subst (λ x. Plans FanPlansStand x (FanInAny c.end_all-in-FanInAny.new.self) SawAllEnd) (sym c.in-FanInAny.is) c.end_all-in-FanInAny.ensures.plans

pub returns-in-Gather-clause-plans : goal.returns-in-Gather-clause-plans
returns-in-Gather-clause-plans c = subst (λ x. Plans FanPlansStand x (Gather c.end_all-in-Gather.new.self) SawAllEnd) (sym c.in-Gather.is) c.end_all-in-Gather.ensures.plans

pub returns-in-Overlay-clause-plans : goal.returns-in-Overlay-clause-plans
returns-in-Overlay-clause-plans c = subst (λ x. Plans FanPlansStand x (Overlay c.end_all-in-Overlay.new.self) SawAllEnd) (sym c.in-Overlay.is) c.end_all-in-Overlay.ensures.plans

pub returns-in-Synchronise-clause-plans : goal.returns-in-Synchronise-clause-plans
returns-in-Synchronise-clause-plans c = subst (λ x. Plans FanPlansStand x (Synchronise c.end_all-in-Synchronise.new.self) SawAllEnd) (sym c.in-Synchronise.is) c.end_all-in-Synchronise.ensures.plans

pub returns-in-Juxtapose-clause-plans : goal.returns-in-Juxtapose-clause-plans
returns-in-Juxtapose-clause-plans c = subst (λ x. Plans FanPlansStand x (Juxtapose c.end_all-in-Juxtapose.new.self) SawAllEnd) (sym c.in-Juxtapose.is) c.end_all-in-Juxtapose.ensures.plans
