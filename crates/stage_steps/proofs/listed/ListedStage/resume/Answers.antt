use Rattle.std.proofs.Common.{◌∙◌}
use Rattle.std.proofs.lemmas.Result.{IfOk-weaker}
use Rattle.stage_steps.proofs.Drives.{steps}
use Rattle.stage_steps.proofs.listed.ListedStage.resume.Goals as goal

pub returns : goal.returns
returns g c =
    let x = c.args.self.now in
    let y = c.ask.new in
    IfOk-weaker c.ask.result _ _ (λ asked asks. λ s h e t.
    steps g.L.Lists.stands g.L.Lists.made (g.L.Lists.is_looking x.lists) x.lists c.hear.new.lists y.lists c.args.seen c.args.bytes.now x.walk c.note_kept.new.kept c.note.new.self c.in_ok-place.place y.walk
    (g.L.Lists.is_looking y.lists) asked s h e (c.ask.ensures.looks_same ∙ c.in_ok-place.ensures.looks_same) c.ask.ensures.others
    (record { stood = t.stood; answer = t.answer; seen_is = t.seen_is; bytes_are = t.bytes_are; room = t.room })
    c.in_ok-note_kept.ensures c.note.ensures.flags c.note.ensures.connected c.in_ok-place.ensures.hears asks) c.ask.ensures.asks
