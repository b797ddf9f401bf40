use Rattle.std.proofs.lemmas.Result.{IfOk-weaker}
use Rattle.stage_steps.proofs.Replying.{replied, sifted}
use Rattle.stage_steps.proofs.listed.ListedStage.see.Goals as goal

pub returns-then-not-looks_plainly : goal.returns-then-not-looks_plainly
returns-then-not-looks_plainly g c =
    replied g.L.Lists.stands g.L.Lists.is_looking c.args.self.now c.resume.new.self.lists c.resume.new.self.walk c.reply.new.walk c.in_ok-want.want c.reply.new.asked c.args.bytes.now c.reply.result c.in_ok-want.ensures c.reply.ensures

pub returns : goal.returns
returns g c =
    IfOk-weaker c.sift.result _ _ (λ reply sifts.
    sifted g.L.Lists.stands g.L.Lists.is_looking g.L.Lists.made c.args.self.now.lists c.args.self.now.walk c.note_seen.new.kept c.args.bytes.now c.in_ok-note_seen.ensures
    (c.looks_plainly.ensures c.if-not-looks_plainly.false) c.sift.new.lists c.sift.new.walk c.sift.new.asked reply c.sift.ensures.looks_same sifts) c.sift.ensures.sifts
