use Rattle.std.proofs.Common.{◌≡◌, sym, subst}
use Rattle.core_machine.specs.Answered.{LeastEvent}
use Rattle.core_machine.specs.Machine.{Machine, IsLawful}
use Rattle.core_machine.proofs.Sounds.{event_is, lawful}
use Rattle.core_machine.proofs.core_state.Core.least_event.Goals as goal

pub returns-clause-least : goal.returns-clause-least
returns-clause-least g c =
    let i = c.self.inside in
    let v : ◌≡◌ {A = Machine} (record { net = i.floor.net; budget = i.budget; journal = i.journal.items; out = i.out.items; is_broken = i.is_broken }) c.args.self.now = c.self.view_is in
    subst (λ (z : Machine). LeastEvent z c.least_event.result) v (event_is g.S.Stage.stands i.floor.net i.budget i.journal.items i.out.items i.actors.items i.floor.desk i.floor.pool c.self.invariant.0 i.is_broken c.least_event.result c.least_event.ensures.least)

pub returns-clause-lawful : goal.returns-clause-lawful
returns-clause-lawful g c =
    let i = c.self.inside in
    let v : ◌≡◌ {A = Machine} (record { net = i.floor.net; budget = i.budget; journal = i.journal.items; out = i.out.items; is_broken = i.is_broken }) c.args.self.now = c.self.view_is in
    subst (λ n. IsLawful (record { net = n; budget = i.budget; journal = i.journal.items; out = i.out.items; is_broken = i.is_broken })) (sym c.least_event.ensures.net)
    (lawful g.S.Stage.stands i.floor.net i.budget i.journal.items i.out.items i.actors.items i.floor.desk i.floor.pool c.self.invariant.0 i.is_broken)
