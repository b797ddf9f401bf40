use Rattle.std.proofs.Common.{sym, subst, IfOk}
use Rattle.stage_steps.specs.Lists.{SeesEach}
use Rattle.fan_stages.specs.declared.fan_each.FanEach.TheVariants.{FanOut, Deal}
use Rattle.fan_stages.specs.FanEach.{FanEachStand, fan_each_look}
use Rattle.fan_stages.proofs.fan_each.FanEachEachRecord.see.Goals as goal

pub returns-in-FanOut-clause-sees : goal.returns-in-FanOut-clause-sees
returns-in-FanOut-clause-sees c = subst (λ x. IfOk c.see.result (λ _. SeesEach FanEachStand (fan_each_look x) x (FanOut c.see.new.self) c.args.bytes.now)) (sym c.in-FanOut.is) c.see.ensures.sees

pub returns-in-Deal-clause-sees : goal.returns-in-Deal-clause-sees
returns-in-Deal-clause-sees c = subst (λ x. IfOk c.see-in-Deal.result (λ _. SeesEach FanEachStand (fan_each_look x) x (Deal c.see-in-Deal.new.self) c.args.bytes.now)) (sym c.in-Deal.is) c.see-in-Deal.ensures.sees
