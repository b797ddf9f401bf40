use Rattle.std.proofs.Common.{◌≡◌, subst}
use Rattle.core_machine.specs.Answered.{LeastStream}
use Rattle.core_machine.specs.Machine.{Machine}
use Rattle.core_machine.proofs.Tales.{stream_is}
use Rattle.core_machine.proofs.core_state.Core.ready_stream.Goals as goal

pub returns : goal.returns
returns g c =
    let i = c.self.inside in
    let v : ◌≡◌ {A = Machine} (record { net = i.floor.net; budget = i.budget; journal = i.journal.items; out = i.out.items; is_broken = i.is_broken }) c.args.self.now = c.self.view_is in
    subst (λ (z : Machine). LeastStream z c.args.strand c.ready_stream.result) v
    (stream_is g.S.Stage.stands i.floor.net i.budget i.journal.items i.out.items i.actors.items i.floor.desk i.floor.pool c.self.invariant.0 i.is_broken c.args.strand c.ready_stream.result c.ready_stream.ensures)
