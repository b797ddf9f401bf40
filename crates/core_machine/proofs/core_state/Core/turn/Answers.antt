use Rattle.std.proofs.Common.{◌≡◌, Some, None, false, refl, sym, ◌∙◌, subst}
use Rattle.core_machine.specs.Machine.{Machine, licence_of}
use Rattle.core_machine.proofs.Sounds.{none_is, some_is}
use Rattle.core_machine.proofs.core_state.Core.turn.Goals as goal

pub returns-in-None-clause-turned : goal.returns-in-None-clause-turned
returns-in-None-clause-turned g c =
    let i = c.self.inside in
    let v : ◌≡◌ {A = Machine} (record { net = i.floor.net; budget = i.budget; journal = i.journal.items; out = i.out.items; is_broken = i.is_broken }) c.args.self.now = c.self.view_is in
    let whole : c.args.self.now.is_broken ≡ false = subst (λ (z : Machine). z.is_broken ≡ false) v c.if-self.false in
    let none = none_is g.S.Stage.stands i.floor.net i.budget i.journal.items i.out.items i.actors.items i.floor.desk i.floor.pool c.self.invariant.0 c.args.strand c.args.stream (sym c.seen_at.ensures ∙ c.in-None.is) in
    (whole, subst (λ (z : Machine). licence_of z c.args.strand c.args.stream ≡ None) v none, refl)

pub turn_seen-requires-clause-may : goal.turn_seen-requires-clause-may
turn_seen-requires-clause-may g c =
    let i = c.self.inside in
    let v : ◌≡◌ {A = Machine} (record { net = i.floor.net; budget = i.budget; journal = i.journal.items; out = i.out.items; is_broken = i.is_broken }) c.args.self.now = c.self.view_is in
    let some = some_is g.S.Stage.stands i.floor.net i.budget i.journal.items i.out.items i.actors.items i.floor.desk i.floor.pool c.self.invariant.0 c.args.strand c.args.stream c.in-Some.seen (sym c.seen_at.ensures ∙ c.in-Some.is) in
    (some.0, subst (λ (z : Machine). licence_of z c.args.strand c.args.stream ≡ Some some.0) v some.1, some.2)

pub turn_seen-requires-clause-whole : goal.turn_seen-requires-clause-whole
turn_seen-requires-clause-whole g c =
    let i = c.self.inside in
    let v : ◌≡◌ {A = Machine} (record { net = i.floor.net; budget = i.budget; journal = i.journal.items; out = i.out.items; is_broken = i.is_broken }) c.args.self.now = c.self.view_is in
    subst (λ (z : Machine). z.is_broken ≡ false) v c.if-self.false
