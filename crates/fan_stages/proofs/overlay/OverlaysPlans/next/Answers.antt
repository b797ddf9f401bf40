use Rattle.std.proofs.Common.{refl, ◌∙◌, arith}
use Rattle.fan_stages.proofs.Overlaid.{overlay_write, overlay_take}
use Rattle.fan_stages.proofs.Rounds.{takes_fall}
use Rattle.fan_stages.proofs.overlay.OverlaysPlans.next.Goals as goal

pub returns-then-self-clause-gives : goal.returns-then-self-clause-gives
returns-then-self-clause-gives c = λ plan k left is.
    overlay_write c.args.self.now plan k left c.in_ok-made.made _ is c.if-self.true (c.in_ok-made.ensures ∙ c.deref.ensures.value) refl refl c.clear.ensures.items refl

pub returns-in-Some-clause-falls : goal.returns-in-Some-clause-falls
returns-in-Some-clause-falls c =
    let x = c.args.self.now in
    let fewer = takes_fall x.round c.take.new.self c.in-Some.input c.in-Some.ensures in
    omega (arith, fewer)

pub returns-in-Some-clause-gives : goal.returns-in-Some-clause-gives
returns-in-Some-clause-gives c = λ plan k left is. overlay_take c.args.self.now plan k left c.in-Some.input c.take.new.self is c.if-self.false c.in-Some.ensures
