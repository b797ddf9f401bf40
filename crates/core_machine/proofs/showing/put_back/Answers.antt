-- What is kept of the strand is as before, but for the coroutine.
use Rattle.std.proofs.Common.{ap, slice_set}
use Rattle.core_machine.specs.declared.actor.Actor.{Actor}
use Rattle.core_machine.specs.Pairs.{with_stage}
use Rattle.core_machine.proofs.Rounds.{read_is}
use Rattle.core_machine.proofs.showing.put_back.Goals as goal

pub returns : goal.returns
returns g c = λ a at.
    ap (λ (z : Actor g.row.S.Denot). slice_set c.args.actors.now.items c.args.strand (with_stage c.args.stage z)) (read_is c.args.actors.now.items c.args.strand a c.index_mut.result.now at c.index_mut.ensures.value)
