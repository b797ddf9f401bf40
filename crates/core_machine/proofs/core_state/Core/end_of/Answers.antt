use Rattle.std.proofs.Common.{◌≡◌, ◌<◌, length, subst, sym}
use Rattle.core_machine.specs.Answered.{end_of as ending}
use Rattle.core_machine.specs.Machine.{Machine}
use Rattle.core_machine.proofs.Tales.{end_is}
use Rattle.core_machine.proofs.core_state.Core.end_of.Goals as goal

pub returns : goal.returns
returns g c =
    let i = c.self.inside in
    let v : ◌≡◌ {A = Machine} (record { net = i.floor.net; budget = i.budget; journal = i.journal.items; out = i.out.items; is_broken = i.is_broken }) c.args.self.now = c.self.view_is in
    subst (λ (z : Machine). c.end_of.result ≡ ending z c.args.strand) v
    (end_is g.S.Stage.stands i.floor.net i.budget i.journal.items i.out.items i.actors.items i.floor.desk i.floor.pool c.self.invariant.0 i.is_broken c.args.strand c.end_of.result
    (subst (λ (z : Machine). c.args.strand < length z.net.strands) (sym v) c.requires) c.end_of.ensures)
