use Rattle.std.proofs.lemmas.Result.{IfOk-weaker}
use Rattle.stage_steps.proofs.SiftingEach.{sifts_each}
use Rattle.stage_steps.proofs.each.EachLists.sift.Goals as goal

pub returns-clause-sifts : goal.returns-clause-sifts
returns-clause-sifts g c =
    IfOk-weaker c.sift.result _ _ (λ sifted sifts. sifts_each g.E.EachRecord.stands g.E.EachRecord.made (g.E.EachRecord.is_looking c.args.self.now.each) c.args.self.now (record { each = c.sift.new.self }) c.args.bytes.now sifted sifts) c.sift.ensures.sifts
