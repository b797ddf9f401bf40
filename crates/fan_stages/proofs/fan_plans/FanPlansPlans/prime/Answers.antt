use Rattle.std.proofs.Common.{sym, subst}
use Rattle.pipe_model.specs.Event.Event.{Primed}
use Rattle.stage_steps.specs.Plans.{Plans}
use Rattle.fan_stages.specs.declared.fan_plans.FanPlans.TheVariants.{FanIn, FanInAny, Gather, Overlay, Synchronise, Juxtapose}
use Rattle.fan_stages.specs.FanPlans.{FanPlansStand}
use Rattle.fan_stages.proofs.fan_plans.FanPlansPlans.prime.Goals as goal

pub returns-in-FanIn-clause-plans : goal.returns-in-FanIn-clause-plans
returns-in-FanIn-clause-plans c = subst (λ x. Plans FanPlansStand x (FanIn c.prime.new.self) (Primed c.args.primed)) (sym c.in-FanIn.is) c.prime.ensures.plans

pub returns-in-FanInAny-clause-plans : goal.returns-in-FanInAny-clause-plans
returns-in-FanInAny-clause-plans c = subst (λ x. Plans FanPlansStand x (FanInAny c.prime-in-FanInAny.new.self) (Primed c.args.primed)) (sym c.in-FanInAny.is) c.prime-in-FanInAny.ensures.plans

pub returns-in-Gather-clause-plans : goal.returns-in-Gather-clause-plans
returns-in-Gather-clause-plans c = subst (λ x. Plans FanPlansStand x (Gather c.prime-in-Gather.new.self) (Primed c.args.primed)) (sym c.in-Gather.is) c.prime-in-Gather.ensures.plans

pub returns-in-Overlay-clause-plans : goal.returns-in-Overlay-clause-plans
returns-in-Overlay-clause-plans c = subst (λ x. Plans FanPlansStand x (Overlay c.prime-in-Overlay.new.self) (Primed c.args.primed)) (sym c.in-Overlay.is) c.prime-in-Overlay.ensures.plans

pub returns-in-Synchronise-clause-plans : goal.returns-in-Synchronise-clause-plans
returns-in-Synchronise-clause-plans c = subst (λ x. Plans FanPlansStand x (Synchronise c.prime-in-Synchronise.new.self) (Primed c.args.primed)) (sym c.in-Synchronise.is) c.prime-in-Synchronise.ensures.plans

pub returns-in-Juxtapose-clause-plans : goal.returns-in-Juxtapose-clause-plans
returns-in-Juxtapose-clause-plans c = subst (λ x. Plans FanPlansStand x (Juxtapose c.prime-in-Juxtapose.new.self) (Primed c.args.primed)) (sym c.in-Juxtapose.is) c.prime-in-Juxtapose.ensures.plans
