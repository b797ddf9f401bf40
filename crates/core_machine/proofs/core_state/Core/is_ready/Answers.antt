use Rattle.std.proofs.Common.{◌≡◌, is_some, ◌∙◌, ap, subst}
use Rattle.core_machine.specs.Machine.{Machine, licence_of}
use Rattle.core_machine.proofs.Sounds.{ready_is}
use Rattle.core_machine.proofs.core_state.Core.is_ready.Goals as goal

pub returns : goal.returns
returns g c =
    let i = c.self.inside in
    let v : ◌≡◌ {A = Machine} (record { net = i.floor.net; budget = i.budget; journal = i.journal.items; out = i.out.items; is_broken = i.is_broken }) c.args.self.now = c.self.view_is in
    subst (λ (z : Machine). c.is_some.result ≡ is_some (licence_of z c.args.strand c.args.stream)) v
    (c.is_some.ensures ∙ ap is_some c.seen_at.ensures ∙ ready_is g.S.Stage.stands i.floor.net i.budget i.journal.items i.out.items i.actors.items i.floor.desk i.floor.pool c.self.invariant.0 c.args.strand c.args.stream)
