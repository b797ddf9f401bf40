use Rattle.std.proofs.Common.{None, sym, subst}
use Rattle.stage_steps.specs.Lists.{GivesNext, always}
use Rattle.fan_stages.specs.declared.fan_each.FanEach.TheVariants.{FanOut, Deal}
use Rattle.fan_stages.specs.FanEach.{FanEachStand}
use Rattle.fan_stages.proofs.fan_each.FanEachEachRecord.next.Goals as goal

pub returns-in-FanOut-clause-gives : goal.returns-in-FanOut-clause-gives
returns-in-FanOut-clause-gives c = subst (λ x. GivesNext (always FanEachStand) (λ _. None) x (FanOut c.next.new.self) c.next.result) (sym c.in-FanOut.is) c.next.ensures.gives

pub returns-in-Deal-clause-gives : goal.returns-in-Deal-clause-gives
returns-in-Deal-clause-gives c = subst (λ x. GivesNext (always FanEachStand) (λ _. None) x (Deal c.next-in-Deal.new.self) c.next-in-Deal.result) (sym c.in-Deal.is) c.next-in-Deal.ensures.gives
