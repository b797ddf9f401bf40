use Rattle.std.proofs.Common.{rules, ◌<◌}
use Rattle.core_machine.proofs.Summaries.{inserted}
use Rattle.core_machine.proofs.ready.Ready.insert_new.Goals as goal

pub invariant_of-self : goal.invariant_of-self
invariant_of-self c =
    let less : c.args.strand < c.self.inside.size = search rules in
    inserted c.self.inside.size c.self.inside.members c.self.inside.summary c.insert.new.self c.insert-2.new.self c.args.strand less c.self.invariant
    c.insert.ensures.others c.insert.ensures.apart c.insert.ensures.size c.insert-2.ensures.others c.insert-2.ensures.size c.insert.ensures.here c.insert-2.ensures.here
