use Rattle.core_machine.proofs.Sounds.{hand_held}
use Rattle.core_machine.proofs.core_state.Core.takes_long.Goals as goal

pub takes_long-requires-clause-held : goal.takes_long-requires-clause-held
takes_long-requires-clause-held g c =
    let i = c.self.inside in
    hand_held g.S.Stage.stands i.floor.net i.budget i.journal.items i.out.items i.actors.items i.floor.desk i.floor.pool c.self.invariant.0 c.args.strand c.args.i
