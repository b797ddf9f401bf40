use Rattle.std.proofs.Common.{◌≡◌, ◌∙◌, ap, subst}
use Rattle.core_machine.specs.Actors.{looks_in}
use Rattle.core_machine.specs.Machine.{Machine, looks_at}
use Rattle.core_machine.proofs.Sounds.{looks_are}
use Rattle.core_machine.proofs.core_state.Core.looks.Goals as goal

pub returns : goal.returns
returns g c =
    let i = c.self.inside in
    let v : ◌≡◌ {A = Machine} (record { net = i.floor.net; budget = i.budget; journal = i.journal.items; out = i.out.items; is_broken = i.is_broken }) c.args.self.now = c.self.view_is in
    subst (λ (z : Machine). c.looks.result ≡ looks_at z.net c.args.strand) v
    (c.looks.ensures ∙ ap (λ l. looks_in l c.args.strand) c.deref.ensures.value ∙ looks_are g.S.Stage.stands i.floor.net i.budget i.journal.items i.out.items i.actors.items i.floor.desk i.floor.pool c.self.invariant.0 c.args.strand)
