use Rattle.std.proofs.Common.{◌≡◌, Some, false, sym, ◌∙◌, ap, subst, vec_capacity}
use Rattle.core_machine.specs.Answered.{LeastEvent, TurnedAs}
use Rattle.core_machine.specs.Machine.{Machine, licence_of}
use Rattle.core_machine.proofs.LeastTurns.{least_turned}
use Rattle.core_machine.proofs.core_state.Core.turn_least.Goals as goal

pub returns-in-None-clause-turned : goal.returns-in-None-clause-turned
returns-in-None-clause-turned g c =
    let i = c.self.inside in
    let v : ◌≡◌ {A = Machine} (record { net = i.floor.net; budget = i.budget; journal = i.journal.items; out = i.out.items; is_broken = i.is_broken }) c.args.self.now = c.self.view_is in
    let whole : c.args.self.now.is_broken ≡ false = subst (λ (z : Machine). z.is_broken ≡ false) v c.if-self.false in
    (whole, subst (LeastEvent c.args.self.now) c.in-None.is c.least_event.ensures.least, c.least_event.ensures.same)

pub turn_seen-requires-clause-may : goal.turn_seen-requires-clause-may
turn_seen-requires-clause-may g c =
    let least = c.in-Some.ensures.least in
    (least.1.0, subst (λ (z : Machine). licence_of z c.in-Some.strand c.in-Some.stream ≡ Some least.1.0) (sym c.least_event.ensures.same) least.1.1, least.1.2)

pub turn_seen-requires-clause-whole : goal.turn_seen-requires-clause-whole
turn_seen-requires-clause-whole g c =
    let i = c.self.inside in
    let v : ◌≡◌ {A = Machine} (record { net = i.floor.net; budget = i.budget; journal = i.journal.items; out = i.out.items; is_broken = i.is_broken }) c.args.self.now = c.self.view_is in
    let whole : c.args.self.now.is_broken ≡ false = subst (λ (z : Machine). z.is_broken ≡ false) v c.if-self.false in
    ap (λ (z : Machine). z.is_broken) c.least_event.ensures.same ∙ whole

pub returns-in-Some-clause-turned : goal.returns-in-Some-clause-turned
returns-in-Some-clause-turned g c =
    let i = c.self.inside in
    let v : ◌≡◌ {A = Machine} (record { net = i.floor.net; budget = i.budget; journal = i.journal.items; out = i.out.items; is_broken = i.is_broken }) c.args.self.now = c.self.view_is in
    let whole : c.args.self.now.is_broken ≡ false = subst (λ (z : Machine). z.is_broken ≡ false) v c.if-self.false in
    let least = c.in-Some.ensures.least in
    least_turned g.S.Stage.stands c.args.self.now c.in-Some.strand c.in-Some.stream (vec_capacity c.args.room.now) c.turn_seen.result c.turn_seen.new.self c.turn_seen.new.room.items least.0 whole
    (subst (λ (z : Machine). TurnedAs g.S.Stage.stands z c.in-Some.strand c.in-Some.stream (vec_capacity c.args.room.now) c.turn_seen.result c.turn_seen.new.self c.turn_seen.new.room.items) c.least_event.ensures.same c.turn_seen.ensures.turned)
