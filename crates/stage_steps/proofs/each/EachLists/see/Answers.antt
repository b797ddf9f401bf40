use Rattle.std.proofs.lemmas.Result.{IfOk-weaker}
use Rattle.stage_steps.proofs.SiftingEach.{sees_each}
use Rattle.stage_steps.proofs.each.EachLists.see.Goals as goal

pub returns-clause-sees : goal.returns-clause-sees
returns-clause-sees g c =
    IfOk-weaker c.see.result _ _ (λ done sees. sees_each g.E.EachRecord.stands (g.E.EachRecord.is_looking c.args.self.now.each) c.args.self.now (record { each = c.see.new.self }) c.args.bytes.now sees) c.see.ensures.sees
