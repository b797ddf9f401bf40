-- The strand has doors.
use Rattle.std.proofs.Common.{◌≡◌, ◌<◌, length, sym, subst}
use Rattle.core_machine.specs.Machine.{Machine}
use Rattle.core_machine.proofs.Plays.{has_seat}
use Rattle.core_machine.proofs.Sounds.{in_use}
use Rattle.core_machine.proofs.core_state.Core.is_first.Goals as goal

pub link_in-requires : goal.link_in-requires
link_in-requires g c =
    let i = c.self.inside in
    let v : ◌≡◌ {A = Machine} (record { net = i.floor.net; budget = i.budget; journal = i.journal.items; out = i.out.items; is_broken = i.is_broken }) c.args.self.now = c.self.view_is in
    has_seat i.floor.net i.floor.desk c.args.strand (in_use g.S.Stage.stands i.floor.net i.budget i.journal.items i.out.items i.actors.items i.floor.desk i.floor.pool c.self.invariant.0)
    (subst (λ (z : Machine). c.args.strand < length z.net.strands) (sym v) c.requires)
