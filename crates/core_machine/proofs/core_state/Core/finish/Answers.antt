-- A core that is broken stays as it is otherwise, and one whose strand came home keeps its journal.
use Rattle.std.proofs.Common.{◌≡◌, true, sym, ◌∙◌, ap, subst}
use Rattle.core_machine.specs.Machine.{Machine, IsLawful, broke_down}
use Rattle.core_machine.proofs.Sounds.{lawful}
use Rattle.core_machine.proofs.core_state.Core.finish.Goals as goal

pub returns-then-self-clause-broken : goal.returns-then-self-clause-broken
returns-then-self-clause-broken g c =
    let i = c.self.inside in
    let v : ◌≡◌ {A = Machine} (record { net = i.floor.net; budget = i.budget; journal = i.journal.items; out = i.out.items; is_broken = i.is_broken }) c.args.self.now = c.self.view_is in
    subst (λ (z : Machine). z ≡ broke_down z) v (ap (λ b. record { net = i.floor.net; budget = i.budget; journal = i.journal.items; out = i.out.items; is_broken = b }) c.if-self.true)

pub returns-then-self-clause-lawful : goal.returns-then-self-clause-lawful
returns-then-self-clause-lawful g c =
    let i = c.self.inside in
    subst IsLawful c.self.view_is (lawful g.S.Stage.stands i.floor.net i.budget i.journal.items i.out.items i.actors.items i.floor.desk i.floor.pool c.self.invariant.0 i.is_broken)

pub invariant_of-self : goal.invariant_of-self
invariant_of-self g c = c.self.invariant

pub returns-in_default-clause-broken : goal.returns-in_default-clause-broken
returns-in_default-clause-broken g c = ap broke_down c.self.view_is

pub returns-in_default-clause-lawful : goal.returns-in_default-clause-lawful
returns-in_default-clause-lawful g c =
    let i = c.self.inside in
    lawful g.S.Stage.stands i.floor.net i.budget i.journal.items i.out.items i.actors.items i.floor.desk i.floor.pool c.self.invariant.0 true

pub invariant_of-self-in_default-come_home : goal.invariant_of-self-in_default-come_home
invariant_of-self-in_default-come_home g c = c.self-2.invariant

pub returns-in_default-come_home-clause-broken : goal.returns-in_default-come_home-clause-broken
returns-in_default-come_home-clause-broken g c = ap broke_down (c.self-2.view_is ∙ c.in_default-come_home.ensures.err)

pub returns-in_default-come_home-clause-lawful : goal.returns-in_default-come_home-clause-lawful
returns-in_default-come_home-clause-lawful g c =
    let i = c.self-2.inside in
    lawful g.S.Stage.stands i.floor.net i.budget i.journal.items i.out.items i.actors.items i.floor.desk i.floor.pool c.self-2.invariant.0 true

pub returns-clause-lawful : goal.returns-clause-lawful
returns-clause-lawful g c =
    let i = c.self.inside in
    let law = subst IsLawful c.self.view_is (lawful g.S.Stage.stands i.floor.net i.budget i.journal.items i.out.items i.actors.items i.floor.desk i.floor.pool c.self.invariant.0 i.is_broken) in
    subst IsLawful (sym c.in-Ok-come_home.ensures.home) (record { legal = law.legal; within = law.within; bounded = law.bounded })
