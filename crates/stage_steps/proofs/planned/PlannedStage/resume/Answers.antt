use Rattle.std.proofs.Common.{◌∙◌}
use Rattle.stage_steps.proofs.Steps.{plan_steps}
use Rattle.stage_steps.proofs.planned.PlannedStage.resume.Goals as goal

pub returns : goal.returns
returns g c =
    let x = c.args.self.now in λ s h e t.
    plan_steps g.P.Plans.stands (g.P.Plans.is_looking x.plans) (g.P.Plans.is_looking c.ask.new.plans) x.plans c.hear.new.plans c.ask.new.plans c.args.seen c.args.bytes.now x.outputs c.note.new.self
    x.place c.in_ok-place.place c.in_ok-place-2.place c.in_ok-place-2.asked s h (c.in_ok-place-2.ensures.looks_same ∙ c.in_ok-place.ensures.looks_same) c.note.ensures.flags c.note.ensures.connected
    c.in_ok-place.ensures.hears c.in_ok-place-2.ensures.asks e (record { stood = t.stood; answer = t.answer; seen_is = t.seen_is; bytes_are = t.bytes_are; room = t.room })
