use Rattle.stage_steps.proofs.SiftingEach.{gives_each}
use Rattle.stage_steps.proofs.each.EachLists.next.Goals as goal

pub returns-clause-gives : goal.returns-clause-gives
returns-clause-gives g c = gives_each g.E.EachRecord.stands g.E.EachRecord.made c.args.self.now (record { each = c.next.new.self }) c.next.result c.next.ensures.gives
