-- The strand goes on in place: the core is sound after it.
use Rattle.std.proofs.Common.{rules, ◌≡◌, ◌<◌, Some, length, slice_set, is_some, arith, sym, ◌∙◌, ap, subst, vec_capacity, ◌≤◌}
use Rattle.pipe_model.specs.declared.net.Net.{Net}
use Rattle.run_desk.specs.Turns.{CanCome}
use Rattle.run_desk.specs.Telling as Telling
use Rattle.core_machine.specs.declared.actor.Actor.{Actor}
use Rattle.core_machine.specs.Actors.{asking_for, bytes_told}
use Rattle.core_machine.specs.Floor.{IsInUse, StaysEarly}
use Rattle.core_machine.specs.Machine.{Machine, licence_of}
use Rattle.core_machine.proofs.GoesOn.{sights, can_go, went_out, home_ended, home_can, home_early}
use Rattle.core_machine.proofs.Plays.{has_seat}
use Rattle.core_machine.proofs.Sounds.{actor_at, does_pass, stage_at, its_looks, in_range, seen_back, can_make, in_use, event_is, lawful}
use Rattle.core_machine.proofs.core_state.Core.go_on.Goals as goal
mod ComesHome
mod GivesUp
use Rattle.core_machine.proofs.core_state.Core.go_on.Answers.ComesHome.{came}
use Rattle.core_machine.proofs.core_state.Core.go_on.Answers.GivesUp.{room, room_home, sound_broken, lawful_broken, lacks_broken, sound_broken_home, lawful_broken_home, lacks_broken_home}

pub make-requires : goal.make-requires
make-requires g c =
    let i = c.self.inside in
    let v : ◌≡◌ {A = Machine} (record { net = i.floor.net; budget = i.budget; journal = i.journal.items; out = i.out.items; is_broken = i.is_broken }) c.args.self.now = c.self.view_is in
    let may = subst (λ (z : Machine). licence_of z c.args.strand c.args.stream ≡ Some c.requires.least.1.0) (sym v) c.requires.least.1.1 in
    can_make g.S.Stage.stands i.floor.net i.budget i.journal.items i.out.items i.actors.items i.floor.desk i.floor.pool c.self.invariant.0 c.args.strand c.args.stream c.requires.least.1.0 may c.args.seen c.requires.least.1.2

pub index_mut-actor-requires : goal.index_mut-actor-requires
index_mut-actor-requires g c =
    let i = c.self.inside in
    let v : ◌≡◌ {A = Machine} (record { net = i.floor.net; budget = i.budget; journal = i.journal.items; out = i.out.items; is_broken = i.is_broken }) c.args.self.now = c.self.view_is in
    let may = subst (λ (z : Machine). licence_of z c.args.strand c.args.stream ≡ Some c.requires.least.1.0) (sym v) c.requires.least.1.1 in
    let within = in_range g.S.Stage.stands i.floor.net i.budget i.journal.items i.out.items i.actors.items i.floor.desk i.floor.pool c.self.invariant.0 c.args.strand c.args.stream c.requires.least.1.0 may in
    omega (arith, within, c.self.invariant.0.strands.count)

pub bytes_told-bytes-requires : goal.bytes_told-bytes-requires
bytes_told-bytes-requires g c =
    let i = c.self.inside in
    let v : ◌≡◌ {A = Machine} (record { net = i.floor.net; budget = i.budget; journal = i.journal.items; out = i.out.items; is_broken = i.is_broken }) c.args.self.now = c.self.view_is in
    let may = subst (λ (z : Machine). licence_of z c.args.strand c.args.stream ≡ Some c.requires.least.1.0) (sym v) c.requires.least.1.1 in
    let space : length i.journal.items < i.budget = subst (λ (z : Machine). length z.journal < z.budget) (sym v) c.requires.space in
    let a = c.index_mut-actor.result.now in
    let at = actor_at g.S.Stage.stands i.floor.net i.budget i.journal.items i.out.items i.actors.items i.floor.desk i.floor.pool c.self.invariant.0 c.args.strand a (in_range g.S.Stage.stands i.floor.net i.budget i.journal.items i.out.items i.actors.items i.floor.desk i.floor.pool c.self.invariant.0 c.args.strand c.args.stream c.requires.least.1.0 may) c.index_mut-actor.ensures.value in
    let its = stage_at g.S.Stage.stands i.floor.net i.budget i.journal.items i.out.items i.actors.items i.floor.desk i.floor.pool c.self.invariant.0 c.args.strand c.args.stream c.requires.least.1.0 may a at in
    let moved = c.make.new.self in
    record {
      strand = λ looks. has_seat i.floor.net moved.desk c.args.strand (went_out g.S.Stage.stands i.floor.net i.budget i.journal.items i.out.items i.actors.items i.floor.desk i.floor.pool c.self.invariant.0 c.args.strand c.args.stream c.requires.least.1.0 may a its.0 at its.1 c.args.seen c.requires.least.1.2 space moved.desk moved.pool c.make.ensures.desk c.make.ensures.pool its.0 a.asked a.passes) (in_range g.S.Stage.stands i.floor.net i.budget i.journal.items i.out.items i.actors.items i.floor.desk i.floor.pool c.self.invariant.0 c.args.strand c.args.stream c.requires.least.1.0 may);
      held = sights g.S.Stage.stands i.floor.net i.budget i.journal.items i.out.items i.actors.items i.floor.desk i.floor.pool c.self.invariant.0 c.args.strand c.args.stream c.requires.least.1.0 may a its.0 at its.1 c.args.seen c.requires.least.1.2 space moved.desk moved.pool c.make.ensures.desk c.make.ensures.pool;
    }

pub advance-requires-clause-can : goal.advance-requires-clause-can
advance-requires-clause-can g c =
    let i = c.self.inside in
    let v : ◌≡◌ {A = Machine} (record { net = i.floor.net; budget = i.budget; journal = i.journal.items; out = i.out.items; is_broken = i.is_broken }) c.args.self.now = c.self.view_is in
    let may = subst (λ (z : Machine). licence_of z c.args.strand c.args.stream ≡ Some c.requires.least.1.0) (sym v) c.requires.least.1.1 in
    let space : length i.journal.items < i.budget = subst (λ (z : Machine). length z.journal < z.budget) (sym v) c.requires.space in
    let a = c.index_mut-actor.result.now in
    let at = actor_at g.S.Stage.stands i.floor.net i.budget i.journal.items i.out.items i.actors.items i.floor.desk i.floor.pool c.self.invariant.0 c.args.strand a (in_range g.S.Stage.stands i.floor.net i.budget i.journal.items i.out.items i.actors.items i.floor.desk i.floor.pool c.self.invariant.0 c.args.strand c.args.stream c.requires.least.1.0 may) c.index_mut-actor.ensures.value in
    let its = stage_at g.S.Stage.stands i.floor.net i.budget i.journal.items i.out.items i.actors.items i.floor.desk i.floor.pool c.self.invariant.0 c.args.strand c.args.stream c.requires.least.1.0 may a at in
    let moved = c.make.new.self in
    let bytes_is = c.bytes_told-bytes.ensures ∙ ap (λ b. bytes_told b moved.desk moved.pool c.args.strand c.args.seen) (its_looks g.S.Stage.stands i.floor.net i.budget i.journal.items i.out.items i.actors.items i.floor.desk i.floor.pool c.self.invariant.0 c.args.strand a at) in
    (its.0, its.1, can_go g.S.Stage.stands i.floor.net i.budget i.journal.items i.out.items i.actors.items i.floor.desk i.floor.pool c.self.invariant.0 c.args.strand c.args.stream c.requires.least.1.0 may a its.0 at its.1 c.args.seen c.requires.least.1.2 space moved.desk moved.pool c.make.ensures.desk c.make.ensures.pool c.bytes_told-bytes.result.now bytes_is)

pub advance-requires-clause-passes : goal.advance-requires-clause-passes
advance-requires-clause-passes g c =
    let i = c.self.inside in
    let v : ◌≡◌ {A = Machine} (record { net = i.floor.net; budget = i.budget; journal = i.journal.items; out = i.out.items; is_broken = i.is_broken }) c.args.self.now = c.self.view_is in
    let may = subst (λ (z : Machine). licence_of z c.args.strand c.args.stream ≡ Some c.requires.least.1.0) (sym v) c.requires.least.1.1 in
    let a = c.index_mut-actor.result.now in
    let within = in_range g.S.Stage.stands i.floor.net i.budget i.journal.items i.out.items i.actors.items i.floor.desk i.floor.pool c.self.invariant.0 c.args.strand c.args.stream c.requires.least.1.0 may in
    let at = actor_at g.S.Stage.stands i.floor.net i.budget i.journal.items i.out.items i.actors.items i.floor.desk i.floor.pool c.self.invariant.0 c.args.strand a within c.index_mut-actor.ensures.value in
    does_pass g.S.Stage.stands i.floor.net i.budget i.journal.items i.out.items i.actors.items i.floor.desk i.floor.pool c.self.invariant.0 c.args.strand a within at

pub come_home-requires-clause-used : goal.come_home-requires-clause-used
come_home-requires-clause-used g c =
    let i = c.self.inside in
    let v : ◌≡◌ {A = Machine} (record { net = i.floor.net; budget = i.budget; journal = i.journal.items; out = i.out.items; is_broken = i.is_broken }) c.args.self.now = c.self.view_is in
    let may = subst (λ (z : Machine). licence_of z c.args.strand c.args.stream ≡ Some c.requires.least.1.0) (sym v) c.requires.least.1.1 in
    let space : length i.journal.items < i.budget = subst (λ (z : Machine). length z.journal < z.budget) (sym v) c.requires.space in
    let a = c.index_mut-actor.result.now in
    let at = actor_at g.S.Stage.stands i.floor.net i.budget i.journal.items i.out.items i.actors.items i.floor.desk i.floor.pool c.self.invariant.0 c.args.strand a (in_range g.S.Stage.stands i.floor.net i.budget i.journal.items i.out.items i.actors.items i.floor.desk i.floor.pool c.self.invariant.0 c.args.strand c.args.stream c.requires.least.1.0 may) c.index_mut-actor.ensures.value in
    let moved = c.make.new.self in
    let on = c.in-Ok.ensures in
    subst (λ n. IsInUse n moved.desk) (sym c.make.ensures.net) (went_out g.S.Stage.stands i.floor.net i.budget i.journal.items i.out.items i.actors.items i.floor.desk i.floor.pool c.self.invariant.0 c.args.strand c.args.stream c.requires.least.1.0 may a on.0 at on.4 c.args.seen c.requires.least.1.2 space moved.desk moved.pool c.make.ensures.desk c.make.ensures.pool on.1 on.2 on.3)

pub come_home-requires-clause-ended : goal.come_home-requires-clause-ended
come_home-requires-clause-ended g c =
    let i = c.self.inside in
    let v : ◌≡◌ {A = Machine} (record { net = i.floor.net; budget = i.budget; journal = i.journal.items; out = i.out.items; is_broken = i.is_broken }) c.args.self.now = c.self.view_is in
    let may = subst (λ (z : Machine). licence_of z c.args.strand c.args.stream ≡ Some c.requires.least.1.0) (sym v) c.requires.least.1.1 in
    let space : length i.journal.items < i.budget = subst (λ (z : Machine). length z.journal < z.budget) (sym v) c.requires.space in
    let a = c.index_mut-actor.result.now in
    let at = actor_at g.S.Stage.stands i.floor.net i.budget i.journal.items i.out.items i.actors.items i.floor.desk i.floor.pool c.self.invariant.0 c.args.strand a (in_range g.S.Stage.stands i.floor.net i.budget i.journal.items i.out.items i.actors.items i.floor.desk i.floor.pool c.self.invariant.0 c.args.strand c.args.stream c.requires.least.1.0 may) c.index_mut-actor.ensures.value in
    let moved = c.make.new.self in
    let bytes_is = c.bytes_told-bytes.ensures ∙ ap (λ b. bytes_told b moved.desk moved.pool c.args.strand c.args.seen) (its_looks g.S.Stage.stands i.floor.net i.budget i.journal.items i.out.items i.actors.items i.floor.desk i.floor.pool c.self.invariant.0 c.args.strand a at) in
    let on = c.in-Ok.ensures in
    c.ends.ensures ∙ home_ended g.S.Stage.stands i.floor.net i.budget i.journal.items i.out.items i.actors.items i.floor.desk i.floor.pool c.self.invariant.0 c.args.strand c.args.stream c.requires.least.1.0 may a on.0 at on.4 c.args.seen c.requires.least.1.2 space moved.desk moved.pool c.make.ensures.desk c.make.ensures.pool on.1 on.2 on.3 c.bytes_told-bytes.result.now bytes_is on.6.0

pub come_home-requires-clause-can : goal.come_home-requires-clause-can
come_home-requires-clause-can g c =
    let i = c.self.inside in
    let v : ◌≡◌ {A = Machine} (record { net = i.floor.net; budget = i.budget; journal = i.journal.items; out = i.out.items; is_broken = i.is_broken }) c.args.self.now = c.self.view_is in
    let may = subst (λ (z : Machine). licence_of z c.args.strand c.args.stream ≡ Some c.requires.least.1.0) (sym v) c.requires.least.1.1 in
    let space : length i.journal.items < i.budget = subst (λ (z : Machine). length z.journal < z.budget) (sym v) c.requires.space in
    let a = c.index_mut-actor.result.now in
    let at = actor_at g.S.Stage.stands i.floor.net i.budget i.journal.items i.out.items i.actors.items i.floor.desk i.floor.pool c.self.invariant.0 c.args.strand a (in_range g.S.Stage.stands i.floor.net i.budget i.journal.items i.out.items i.actors.items i.floor.desk i.floor.pool c.self.invariant.0 c.args.strand c.args.stream c.requires.least.1.0 may) c.index_mut-actor.ensures.value in
    let moved = c.make.new.self in
    let bytes_is = c.bytes_told-bytes.ensures ∙ ap (λ b. bytes_told b moved.desk moved.pool c.args.strand c.args.seen) (its_looks g.S.Stage.stands i.floor.net i.budget i.journal.items i.out.items i.actors.items i.floor.desk i.floor.pool c.self.invariant.0 c.args.strand a at) in
    let on = c.in-Ok.ensures in
    let asked_is : on.2 ≡ c.advance.new.actor.asked = sym (ap (λ (z : Actor g.row.S.Denot). z.asked) on.5) in
    let ended_is : c.ends.result ≡ Telling.ended_at moved.desk c.args.strand = c.ends.ensures ∙ home_ended g.S.Stage.stands i.floor.net i.budget i.journal.items i.out.items i.actors.items i.floor.desk i.floor.pool c.self.invariant.0 c.args.strand c.args.stream c.requires.least.1.0 may a on.0 at on.4 c.args.seen c.requires.least.1.2 space moved.desk moved.pool c.make.ensures.desk c.make.ensures.pool on.1 on.2 on.3 c.bytes_told-bytes.result.now bytes_is on.6.0 in
    λ going. subst (CanCome moved.desk moved.pool c.args.strand) asked_is (home_can g.S.Stage.stands i.floor.net i.budget i.journal.items i.out.items i.actors.items i.floor.desk i.floor.pool c.self.invariant.0 c.args.strand c.args.stream c.requires.least.1.0 may a on.0 at on.4 c.args.seen c.requires.least.1.2 space moved.desk moved.pool c.make.ensures.desk c.make.ensures.pool on.1 on.2 on.3 c.bytes_told-bytes.result.now bytes_is on.6.0 (sym ended_is ∙ going))

pub come_home-requires-clause-early : goal.come_home-requires-clause-early
come_home-requires-clause-early g c =
    let i = c.self.inside in
    let v : ◌≡◌ {A = Machine} (record { net = i.floor.net; budget = i.budget; journal = i.journal.items; out = i.out.items; is_broken = i.is_broken }) c.args.self.now = c.self.view_is in
    let may = subst (λ (z : Machine). licence_of z c.args.strand c.args.stream ≡ Some c.requires.least.1.0) (sym v) c.requires.least.1.1 in
    let space : length i.journal.items < i.budget = subst (λ (z : Machine). length z.journal < z.budget) (sym v) c.requires.space in
    let a = c.index_mut-actor.result.now in
    let at = actor_at g.S.Stage.stands i.floor.net i.budget i.journal.items i.out.items i.actors.items i.floor.desk i.floor.pool c.self.invariant.0 c.args.strand a (in_range g.S.Stage.stands i.floor.net i.budget i.journal.items i.out.items i.actors.items i.floor.desk i.floor.pool c.self.invariant.0 c.args.strand c.args.stream c.requires.least.1.0 may) c.index_mut-actor.ensures.value in
    let moved = c.make.new.self in
    let bytes_is = c.bytes_told-bytes.ensures ∙ ap (λ b. bytes_told b moved.desk moved.pool c.args.strand c.args.seen) (its_looks g.S.Stage.stands i.floor.net i.budget i.journal.items i.out.items i.actors.items i.floor.desk i.floor.pool c.self.invariant.0 c.args.strand a at) in
    let on = c.in-Ok.ensures in
    let asked_is : on.2 ≡ c.advance.new.actor.asked = sym (ap (λ (z : Actor g.row.S.Denot). z.asked) on.5) in
    let ended_is : c.ends.result ≡ Telling.ended_at moved.desk c.args.strand = c.ends.ensures ∙ home_ended g.S.Stage.stands i.floor.net i.budget i.journal.items i.out.items i.actors.items i.floor.desk i.floor.pool c.self.invariant.0 c.args.strand c.args.stream c.requires.least.1.0 may a on.0 at on.4 c.args.seen c.requires.least.1.2 space moved.desk moved.pool c.make.ensures.desk c.make.ensures.pool on.1 on.2 on.3 c.bytes_told-bytes.result.now bytes_is on.6.0 in
    λ going. subst (StaysEarly moved.desk moved.pool c.args.strand) asked_is (home_early g.S.Stage.stands i.floor.net i.budget i.journal.items i.out.items i.actors.items i.floor.desk i.floor.pool c.self.invariant.0 c.args.strand c.args.stream c.requires.least.1.0 may a on.0 at on.4 c.args.seen c.requires.least.1.2 space moved.desk moved.pool c.make.ensures.desk c.make.ensures.pool on.1 on.2 on.3 c.bytes_told-bytes.result.now bytes_is on.6.0 (sym ended_is ∙ going))

pub come_home-requires-clause-here : goal.come_home-requires-clause-here
come_home-requires-clause-here g c =
    let i = c.self.inside in
    let v : ◌≡◌ {A = Machine} (record { net = i.floor.net; budget = i.budget; journal = i.journal.items; out = i.out.items; is_broken = i.is_broken }) c.args.self.now = c.self.view_is in
    let may = subst (λ (z : Machine). licence_of z c.args.strand c.args.stream ≡ Some c.requires.least.1.0) (sym v) c.requires.least.1.1 in
    c.make.ensures.awake c.args.stream (ap is_some (seen_back g.S.Stage.stands i.floor.net i.budget i.journal.items i.out.items i.actors.items i.floor.desk i.floor.pool c.self.invariant.0 c.args.strand c.args.stream c.requires.least.1.0 may))

pub come_home-requires-clause-strand : goal.come_home-requires-clause-strand
come_home-requires-clause-strand g c =
    let i = c.self.inside in
    let v : ◌≡◌ {A = Machine} (record { net = i.floor.net; budget = i.budget; journal = i.journal.items; out = i.out.items; is_broken = i.is_broken }) c.args.self.now = c.self.view_is in
    let may = subst (λ (z : Machine). licence_of z c.args.strand c.args.stream ≡ Some c.requires.least.1.0) (sym v) c.requires.least.1.1 in
    subst (λ (n : Net). c.args.strand < length n.strands) (sym c.make.ensures.net) (in_range g.S.Stage.stands i.floor.net i.budget i.journal.items i.out.items i.actors.items i.floor.desk i.floor.pool c.self.invariant.0 c.args.strand c.args.stream c.requires.least.1.0 may)

pub invariant_of-self-then-settles : goal.invariant_of-self-then-settles
invariant_of-self-then-settles g c =
    let net = c.come_home.ensures.net ∙ c.make.ensures.net in
    ((came g (goal.at.invariant_of-self-then-settles g c).In-Ok-come_home).0, search rules, subst (λ (n : Net). length n.strands ≤ vec_capacity c.self.inside.out) (sym net) c.self.invariant.2)

pub returns-then-settles-clause-lawful : goal.returns-then-settles-clause-lawful
returns-then-settles-clause-lawful g c =
    lawful g.S.Stage.stands c.come_home.new.self.net c.self.inside.budget c.push_reserved.new.self.items c.self.inside.out.items (slice_set c.self.inside.actors.items c.args.strand (asking_for c.come_home.new.want c.advance.new.actor)) c.come_home.new.self.desk c.come_home.new.self.pool (came g (goal.at.returns-then-settles-clause-lawful g c).In-Ok-come_home).0 c.self.inside.is_broken

pub ahead-requires-clause-used : goal.ahead-requires-clause-used
ahead-requires-clause-used g c =
    in_use g.S.Stage.stands c.come_home.new.self.net c.self.inside.budget c.push_reserved.new.self.items c.self.inside.out.items (slice_set c.self.inside.actors.items c.args.strand (asking_for c.come_home.new.want c.advance.new.actor)) c.come_home.new.self.desk c.come_home.new.self.pool (came g (goal.at.ahead-requires-clause-used g c).In-Ok-come_home).0

pub ahead-requires-clause-strand : goal.ahead-requires-clause-strand
ahead-requires-clause-strand g c =
    ((came g (goal.at.ahead-requires-clause-strand g c).In-Ok-come_home).1 (sym c.if-settles.ensures)).0.strand

pub invariant_of-self-2 : goal.invariant_of-self-2
invariant_of-self-2 g c =
    let net = c.come_home.ensures.net ∙ c.make.ensures.net in
    ((came g (goal.at.invariant_of-self-2 g c).In-Ok-come_home).0, search rules, subst (λ (n : Net). length n.strands ≤ vec_capacity c.self.inside.out) (sym net) c.self.invariant.2)

pub returns-clause-ahead : goal.returns-clause-ahead
returns-clause-ahead g c =
    let home = came g (goal.at.returns-clause-ahead g c).In-Ok-come_home in
    let gone = home.1 (sym c.if-settles.ensures) in
    λ r named. event_is g.S.Stage.stands c.come_home.new.self.net c.self.inside.budget c.push_reserved.new.self.items c.self.inside.out.items (slice_set c.self.inside.actors.items c.args.strand (asking_for c.come_home.new.want c.advance.new.actor)) c.come_home.new.self.desk c.come_home.new.self.pool home.0 c.self.inside.is_broken (Some r)
    (c.ahead.ensures c.self.inside.floor.desk c.self.inside.floor.pool c.args.stream c.in-Ok.ensures.2 gone.0 gone.1 r named)

pub returns-clause-lawful : goal.returns-clause-lawful
returns-clause-lawful g c =
    lawful g.S.Stage.stands c.come_home.new.self.net c.self.inside.budget c.push_reserved.new.self.items c.self.inside.out.items (slice_set c.self.inside.actors.items c.args.strand (asking_for c.come_home.new.want c.advance.new.actor)) c.come_home.new.self.desk c.come_home.new.self.pool (came g (goal.at.returns-clause-lawful g c).In-Ok-come_home).0 c.self.inside.is_broken

pub give_up-requires : goal.give_up-requires
give_up-requires = room

pub give_up-requires-in_default-come_home : goal.give_up-requires-in_default-come_home
give_up-requires-in_default-come_home = room_home

pub invariant_of-self : goal.invariant_of-self
invariant_of-self = sound_broken

pub returns-in_default-advance-clause-lawful : goal.returns-in_default-advance-clause-lawful
returns-in_default-advance-clause-lawful = lawful_broken

pub invariant_of-self-in_default-come_home : goal.invariant_of-self-in_default-come_home
invariant_of-self-in_default-come_home = sound_broken_home

pub returns-in_default-come_home-clause-lawful : goal.returns-in_default-come_home-clause-lawful
returns-in_default-come_home-clause-lawful = lawful_broken_home

pub returns-in_default-advance-clause-lacks : goal.returns-in_default-advance-clause-lacks
returns-in_default-advance-clause-lacks = lacks_broken

pub returns-in_default-come_home-clause-lacks : goal.returns-in_default-come_home-clause-lacks
returns-in_default-come_home-clause-lacks = lacks_broken_home
