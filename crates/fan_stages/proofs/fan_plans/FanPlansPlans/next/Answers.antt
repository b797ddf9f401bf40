use Rattle.std.proofs.Common.{sym, subst, IfOk}
use Rattle.stage_steps.specs.Plans.{GivesAct}
use Rattle.fan_stages.specs.declared.fan_plans.FanPlans.TheVariants.{FanIn, FanInAny, Gather, Overlay, Synchronise, Juxtapose}
use Rattle.fan_stages.specs.FanPlans.{FanPlansStand}
use Rattle.fan_stages.proofs.fan_plans.FanPlansPlans.next.Goals as goal

pub returns-in-FanIn-clause-gives : goal.returns-in-FanIn-clause-gives
returns-in-FanIn-clause-gives c = subst (λ x. IfOk c.next.result (λ given. GivesAct FanPlansStand x (FanIn c.next.new.self) given)) (sym c.in-FanIn.is) c.next.ensures.gives

pub returns-in-FanInAny-clause-gives : goal.returns-in-FanInAny-clause-gives
returns-in-FanInAny-clause-gives c = subst (λ x. IfOk c.next-in-FanInAny.result (λ given. GivesAct FanPlansStand x (FanInAny c.next-in-FanInAny.new.self) given)) (sym c.in-FanInAny.is) c.next-in-FanInAny.ensures.gives

pub returns-in-Gather-clause-gives : goal.returns-in-Gather-clause-gives
returns-in-Gather-clause-gives c = subst (λ x. IfOk c.next-in-Gather.result (λ given. GivesAct FanPlansStand x (Gather c.next-in-Gather.new.self) given)) (sym c.in-Gather.is) c.next-in-Gather.ensures.gives

pub returns-in-Overlay-clause-gives : goal.returns-in-Overlay-clause-gives
returns-in-Overlay-clause-gives c = subst (λ x. IfOk c.next-in-Overlay.result (λ given. GivesAct FanPlansStand x (Overlay c.next-in-Overlay.new.self) given)) (sym c.in-Overlay.is) c.next-in-Overlay.ensures.gives

pub returns-in-Synchronise-clause-gives : goal.returns-in-Synchronise-clause-gives
returns-in-Synchronise-clause-gives c = subst (λ x. IfOk c.next-in-Synchronise.result (λ given. GivesAct FanPlansStand x (Synchronise c.next-in-Synchronise.new.self) given)) (sym c.in-Synchronise.is) c.next-in-Synchronise.ensures.gives

pub returns-in-Juxtapose-clause-gives : goal.returns-in-Juxtapose-clause-gives
returns-in-Juxtapose-clause-gives c = subst (λ x. IfOk c.next-in-Juxtapose.result (λ given. GivesAct FanPlansStand x (Juxtapose c.next-in-Juxtapose.new.self) given)) (sym c.in-Juxtapose.is) c.next-in-Juxtapose.ensures.gives
