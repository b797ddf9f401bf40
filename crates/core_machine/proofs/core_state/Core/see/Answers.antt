-- The strand sees the record at hand, and takes it at once where that is all that it does: the core is sound after it.
use Rattle.std.proofs.Common.{rules, ◌≡◌, ◌≤◌, ◌<◌, ◌+◌, arith, inl, inr, Some, [], ◌∷◌, ◌++◌, true, suc, length, slice_set, refl, sym, ◌∙◌, ap, subst, vec_capacity}
use Rattle.pipe_model.specs.declared.net.Net.{Net}
use Rattle.pipe_model.specs.declared.step.Entry.{Entry}
use Rattle.pipe_model.proofs.Lists.{length_more}
use Rattle.pipe_model.specs.declared.step.Seen.TheVariants.{Saw, Took}
use Rattle.stage_steps.specs.Coroutine.{Resumes}
use Rattle.stage_steps.specs.PassesOn.{PassesOn}
use Rattle.stage_steps.specs.declared.reply.Reply.TheVariants.{Takes}
use Rattle.run_desk.specs.Telling as Telling
use Rattle.core_machine.specs.declared.actor.Actor.{Actor}
use Rattle.core_machine.specs.Actors.{HasSeen, asking_for, given_up}
use Rattle.core_machine.specs.Answered.{HasMade, LeastEvent}
use Rattle.core_machine.specs.Machine.{Machine}
use Rattle.core_machine.specs.Sound.{IsSound}
use Rattle.core_machine.proofs.Broken.{broke_so}
use Rattle.core_machine.proofs.InPlace.{below, fewer, lawful_broken, one_more, sound_broken, live, home, home_early, home_used, home_sound, went_so}
use Rattle.core_machine.proofs.Plays.{has_seat}
use Rattle.core_machine.proofs.Relays.{held_ahead}
use Rattle.core_machine.proofs.Runs.{ok_so}
use Rattle.core_machine.proofs.Sounds.{event_is, in_range, in_use, lawful}
use Rattle.core_machine.proofs.Tellings.{makes, looks_it, room_out, used_out, with_stage, sound_at}
use Rattle.core_machine.proofs.Twice.{IsTwice, twice}
use Rattle.core_machine.proofs.core_state.Core.see.Given.{Over}
use Rattle.core_machine.proofs.core_state.Core.see.Goals as goal
use Rattle.core_machine.proofs.core_state.Core.see.Goals.{Then-matches, Else-matches, After-at_once, In-Ok-see, in-Takes, in_default-matches}
mod Sight
use Rattle.core_machine.proofs.core_state.Core.see.Answers.Sight.{sight, bytes_right, asks}

-- The strand has a seat, and what is kept of it a place

pub may_settle-requires : goal.may_settle-requires
may_settle-requires g c =
    let i = c.self.inside in
    let v : ◌≡◌ {A = Machine} (record { net = i.floor.net; budget = i.budget; journal = i.journal.items; out = i.out.items; is_broken = i.is_broken }) c.args.self.now = c.self.view_is in
    let least = subst (λ (z : Machine). LeastEvent z (Some (c.args.strand, c.args.i, Saw c.args.i))) (sym v) c.requires.least in
    let within = in_range g.S.Stage.stands i.floor.net i.budget i.journal.items i.out.items i.actors.items i.floor.desk i.floor.pool c.self.invariant.0 c.args.strand c.args.i least.1.0 least.1.1 in
    has_seat i.floor.net i.floor.desk c.args.strand (in_use g.S.Stage.stands i.floor.net i.budget i.journal.items i.out.items i.actors.items i.floor.desk i.floor.pool c.self.invariant.0) within

pub link_in-requires : goal.link_in-requires
link_in-requires g c =
    let i = c.self.inside in
    let v : ◌≡◌ {A = Machine} (record { net = i.floor.net; budget = i.budget; journal = i.journal.items; out = i.out.items; is_broken = i.is_broken }) c.args.self.now = c.self.view_is in
    let least = subst (λ (z : Machine). LeastEvent z (Some (c.args.strand, c.args.i, Saw c.args.i))) (sym v) c.requires.least in
    let within = in_range g.S.Stage.stands i.floor.net i.budget i.journal.items i.out.items i.actors.items i.floor.desk i.floor.pool c.self.invariant.0 c.args.strand c.args.i least.1.0 least.1.1 in
    has_seat i.floor.net i.floor.desk c.args.strand (in_use g.S.Stage.stands i.floor.net i.budget i.journal.items i.out.items i.actors.items i.floor.desk i.floor.pool c.self.invariant.0) within

pub index_mut-actor-requires : goal.index_mut-actor-requires
index_mut-actor-requires g c =
    let i = c.self.inside in
    let v : ◌≡◌ {A = Machine} (record { net = i.floor.net; budget = i.budget; journal = i.journal.items; out = i.out.items; is_broken = i.is_broken }) c.args.self.now = c.self.view_is in
    let least = subst (λ (z : Machine). LeastEvent z (Some (c.args.strand, c.args.i, Saw c.args.i))) (sym v) c.requires.least in
    let within = in_range g.S.Stage.stands i.floor.net i.budget i.journal.items i.out.items i.actors.items i.floor.desk i.floor.pool c.self.invariant.0 c.args.strand c.args.i least.1.0 least.1.1 in
    let count = c.self.invariant.0.strands.count in
    omega (arith, within, count, i.actors.ok.0)

pub see_otherwise-requires-clause-space : goal.see_otherwise-requires-clause-space
see_otherwise-requires-clause-space g c = fewer (length c.args.self.now.journal) c.args.self.now.budget c.requires.space

pub returns-then-may_settle-clause-goes : goal.returns-then-may_settle-clause-goes
returns-then-may_settle-clause-goes g c =
    ok_so (c.see_otherwise.new.self ≡ record c.args.self.now { journal = c.args.self.now.journal ++ (record { strand = c.args.strand; stream = c.args.i }) ∷ [] }) (HasMade c.args.self.now (record { strand = c.args.strand; stream = c.args.i }) c.see_otherwise.new.self) c.see_otherwise.result (λ is. inl is) c.see_otherwise.ensures.goes

pub returns-then-may_settle-clause-ahead : goal.returns-then-may_settle-clause-ahead
returns-then-may_settle-clause-ahead g c = c.see_otherwise.ensures.ahead

pub returns-then-may_settle-clause-lacks : goal.returns-then-may_settle-clause-lacks
returns-then-may_settle-clause-lacks g c = c.see_otherwise.ensures.lacks

pub returns-then-may_settle-clause-lawful : goal.returns-then-may_settle-clause-lawful
returns-then-may_settle-clause-lawful g c = c.see_otherwise.ensures.lawful

pub see_otherwise-requires-in_default-clause-space : goal.see_otherwise-requires-in_default-clause-space
see_otherwise-requires-in_default-clause-space g c = fewer (length c.args.self.now.journal) c.args.self.now.budget c.requires.space

pub returns-in_default-clause-goes : goal.returns-in_default-clause-goes
returns-in_default-clause-goes g c =
    ok_so (c.see_otherwise-in_default.new.self ≡ record c.args.self.now { journal = c.args.self.now.journal ++ (record { strand = c.args.strand; stream = c.args.i }) ∷ [] }) (HasMade c.args.self.now (record { strand = c.args.strand; stream = c.args.i }) c.see_otherwise-in_default.new.self) c.see_otherwise-in_default.result (λ is. inl is) c.see_otherwise-in_default.ensures.goes

pub returns-in_default-clause-ahead : goal.returns-in_default-clause-ahead
returns-in_default-clause-ahead g c = c.see_otherwise-in_default.ensures.ahead

pub returns-in_default-clause-lacks : goal.returns-in_default-clause-lacks
returns-in_default-clause-lacks g c = c.see_otherwise-in_default.ensures.lacks

pub returns-in_default-clause-lawful : goal.returns-in_default-clause-lawful
returns-in_default-clause-lawful g c = c.see_otherwise-in_default.ensures.lawful

pub push_reserved-requires : goal.push_reserved-requires
push_reserved-requires g c =
    let i = c.self.inside in
    let v : ◌≡◌ {A = Machine} (record { net = i.floor.net; budget = i.budget; journal = i.journal.items; out = i.out.items; is_broken = i.is_broken }) c.args.self.now = c.self.view_is in
    let space : length i.journal.items + 1 < i.budget = subst (λ (z : Machine). length z.journal + 1 < z.budget) (sym v) c.requires.space in
    below (length i.journal.items) i.budget i.journal.room (fewer (length i.journal.items) i.budget space) c.self.invariant.1

-- It sees the record

pub bytes_ahead-bytes-requires-clause-held : goal.bytes_ahead-bytes-requires-clause-held
bytes_ahead-bytes-requires-clause-held g c =
    held_ahead c.self.inside.floor.desk c.self.inside.floor.pool c.args.strand c.args.i c.in-Some.from (makes (sight c.args.self.now c.self.view_is c.self.invariant.0 c.requires.least c.requires.space c.index_mut-actor.ensures.value)).can (sym c.in-Some.ensures.door)

pub see-requires : goal.see-requires
see-requires g c =
    let i = c.self.inside in
    let v : ◌≡◌ {A = Machine} (record { net = i.floor.net; budget = i.budget; journal = i.journal.items; out = i.out.items; is_broken = i.is_broken }) c.args.self.now = c.self.view_is in
    let t = (sight c.args.self.now c.self.view_is c.self.invariant.0 c.requires.least c.requires.space c.index_mut-actor.ensures.value) in
    let space : length i.journal.items + 1 < i.budget = subst (λ (z : Machine). length z.journal + 1 < z.budget) (sym v) c.requires.space in
    (t.stage, t.was, looks_it t c.args.i refl space c.bytes_ahead-bytes.result.now (bytes_right (sight c.args.self.now c.self.view_is c.self.invariant.0 c.requires.least c.requires.space c.index_mut-actor.ensures.value) c.in-Some.ensures.door c.bytes_ahead-bytes.ensures))

pub see_in_vain-requires : goal.see_in_vain-requires
see_in_vain-requires g c = makes (sight c.args.self.now c.self.view_is c.self.invariant.0 c.requires.least c.requires.space c.index_mut-actor.ensures.value)

-- The coroutine wanted memory

pub give_up-requires : goal.give_up-requires
give_up-requires g c =
    below (length c.self.inside.out.items) (length c.self.inside.floor.net.strands) (vec_capacity c.self.inside.out) (room_out (sight c.args.self.now c.self.view_is c.self.invariant.0 c.requires.least c.requires.space c.index_mut-actor.ensures.value)) c.self.invariant.2

pub invariant_of-self : goal.invariant_of-self
invariant_of-self g c =
    let i = c.self.inside in
    let on = c.see.ensures in
    let place : c.len.result ≡ suc (length i.journal.items) = c.len.ensures ∙ ap length c.push_reserved.ensures.items ∙ length_more i.journal.items (record { strand = c.args.strand; stream = c.args.i }) in
    let sound = sound_broken (sight c.args.self.now c.self.view_is c.self.invariant.0 c.requires.least c.requires.space c.index_mut-actor.ensures.value) on.0 on.1 on.2 on.3 on.4 c.len.result place c.see_in_vain.ensures.net c.push_reserved.ensures.items c.give_up.ensures.out
    (c.give_up.ensures.actor ∙ ap (λ (z : Actor g.row.S.Denot). given_up z) on.5) c.see_in_vain.ensures.desk c.see_in_vain.ensures.pool in (
      sound,
      subst (λ n. i.budget ≤ n) (sym c.push_reserved.ensures.room) c.self.invariant.1,
      subst (λ (n : Net). length n.strands ≤ vec_capacity c.give_up.new.out) (sym c.see_in_vain.ensures.net) (subst (λ n. length i.floor.net.strands ≤ n) (sym c.give_up.ensures.capacity) c.self.invariant.2),
    )

pub returns-in_default-see-clause-lawful : goal.returns-in_default-see-clause-lawful
returns-in_default-see-clause-lawful g c = lawful_broken (sight c.args.self.now c.self.view_is c.self.invariant.0 c.requires.least c.requires.space c.index_mut-actor.ensures.value) c.give_up.new.out.items c.see_in_vain.ensures.net c.push_reserved.ensures.items

pub returns-in_default-see-clause-lacks : goal.returns-in_default-see-clause-lacks
returns-in_default-see-clause-lacks g c =
    let i = c.self.inside in
    let v : ◌≡◌ {A = Machine} (record { net = i.floor.net; budget = i.budget; journal = i.journal.items; out = i.out.items; is_broken = i.is_broken }) c.args.self.now = c.self.view_is in
    let e : Entry = (record { strand = c.args.strand; stream = c.args.i }) in
    let place : c.len.result ≡ suc (length i.journal.items) = c.len.ensures ∙ ap length c.push_reserved.ensures.items ∙ length_more i.journal.items e in
    broke_so c.args.self.now e i.floor.net i.budget i.journal.items i.out.items i.is_broken v c.see_in_vain.ensures.net c.push_reserved.ensures.items c.len.result place c.give_up.ensures.out

-- It takes the record at once

took : (g : Over) (c : Then-matches g) → HasSeen g.S.Stage.stands c.in-Ok.ensures.0 c.in-Ok.ensures.1 c.args.i c.bytes_ahead-bytes.result.now c.in-Ok.ensures.2 c.in-Ok.ensures.3 Takes
took g c =
    let on = c.in-Ok.ensures in
    let is : c.in-Ok.reply ≡ Takes = elim c.match-matches.branch [
      | in-Takes w ↦ w.in-Takes.is
      | in_default-matches w ↦ (let both = sym w.matches-is ∙ c.if-matches.true in cc)
    ] in
    subst (HasSeen g.S.Stage.stands on.0 on.1 c.args.i c.bytes_ahead-bytes.result.now on.2 on.3) is on.6

taking : (g : Over) (c : Then-matches g) →
    IsTwice g.S.Stage.stands c.self.inside.floor.net c.self.inside.budget c.self.inside.journal.items c.self.inside.out.items c.self.inside.actors.items c.self.inside.floor.desk c.self.inside.floor.pool
    c.args.strand c.args.i 0 c.see.new.actor
taking g c =
    let i = c.self.inside in
    let v : ◌≡◌ {A = Machine} (record { net = i.floor.net; budget = i.budget; journal = i.journal.items; out = i.out.items; is_broken = i.is_broken }) c.args.self.now = c.self.view_is in
    let on = c.in-Ok.ensures in
    let space : length i.journal.items + 1 < i.budget = subst (λ (z : Machine). length z.journal + 1 < z.budget) (sym v) c.requires.space in
    twice (sight c.args.self.now c.self.view_is c.self.invariant.0 c.requires.least c.requires.space c.index_mut-actor.ensures.value) space (sym c.if-may_settle.ensures) (bytes_right (sight c.args.self.now c.self.view_is c.self.invariant.0 c.requires.least c.requires.space c.index_mut-actor.ensures.value) c.in-Some.ensures.door c.bytes_ahead-bytes.ensures) on.0 on.1 on.2 on.3 on.4 on.5 (took g c)

both : (g : Over) (c : After-at_once g) →
    IsTwice g.S.Stage.stands c.self.inside.floor.net c.self.inside.budget c.self.inside.journal.items c.self.inside.out.items c.self.inside.actors.items c.self.inside.floor.desk c.self.inside.floor.pool
    c.args.strand c.args.i 0 c.see.new.actor →
    IsSound g.S.Stage.stands c.take_after.new.self.net c.self.inside.budget c.push_reserved-then-matches.new.self.items c.self.inside.out.items
    (slice_set c.self.inside.actors.items c.args.strand c.see.new.actor) c.take_after.new.self.desk c.take_after.new.self.pool
both g c two =
    let e : Entry = record { strand = c.args.strand; stream = 0 } in
    sound_at c.take_after.ensures.net (c.push_reserved-then-matches.ensures.items ∙ ap (λ j. j ++ e ∷ []) c.push_reserved.ensures.items) refl refl c.take_after.ensures.desk c.take_after.ensures.pool two.sound

pub push_reserved-requires-then-matches : goal.push_reserved-requires-then-matches
push_reserved-requires-then-matches g c =
    let i = c.self.inside in
    let v : ◌≡◌ {A = Machine} (record { net = i.floor.net; budget = i.budget; journal = i.journal.items; out = i.out.items; is_broken = i.is_broken }) c.args.self.now = c.self.view_is in
    let space : length i.journal.items + 1 < i.budget = subst (λ (z : Machine). length z.journal + 1 < z.budget) (sym v) c.requires.space in
    one_more i.journal.items c.push_reserved.new.self.items (record { strand = c.args.strand; stream = c.args.i }) i.budget i.journal.room c.push_reserved.new.self.room c.push_reserved.ensures.items space c.self.invariant.1 c.push_reserved.ensures.room

pub take_after-requires-clause-by : goal.take_after-requires-clause-by
take_after-requires-clause-by g c = (refl, refl)

pub take_after-requires-clause-from : goal.take_after-requires-clause-from
take_after-requires-clause-from g c = subst (λ k. Telling.in_door c.self.inside.floor.desk c.args.strand k ≡ Some c.in-Some.from) (took g (goal.at.take_after-requires-clause-from g c).Then-matches).0 (sym c.in-Some.ensures.door)

pub take_after-requires-clause-there : goal.take_after-requires-clause-there
take_after-requires-clause-there g c = c.in-Some.ensures.there

pub take_after-requires-clause-told : goal.take_after-requires-clause-told
take_after-requires-clause-told g c = tt

pub take_after-requires-clause-can : goal.take_after-requires-clause-can
take_after-requires-clause-can g c = (taking g (goal.at.take_after-requires-clause-can g c).Then-matches).can

pub take_after-requires-clause-used : goal.take_after-requires-clause-used
take_after-requires-clause-used g c = (taking g (goal.at.take_after-requires-clause-used g c).Then-matches).used

pub take_after-requires-clause-early : goal.take_after-requires-clause-early
take_after-requires-clause-early g c = (taking g (goal.at.take_after-requires-clause-early g c).Then-matches).early

pub take_after-requires-clause-takes : goal.take_after-requires-clause-takes
take_after-requires-clause-takes g c = (taking g (goal.at.take_after-requires-clause-takes g c).Then-matches).takes

pub take_after-requires-clause-used_last : goal.take_after-requires-clause-used_last
take_after-requires-clause-used_last g c = (taking g (goal.at.take_after-requires-clause-used_last g c).Then-matches).used_last

pub take_after-requires-clause-early_last : goal.take_after-requires-clause-early_last
take_after-requires-clause-early_last g c = (taking g (goal.at.take_after-requires-clause-early_last g c).Then-matches).early_last

pub take_after-requires-clause-quiet : goal.take_after-requires-clause-quiet
take_after-requires-clause-quiet g c = sym c.if-may_settle.ensures

pub take_after-requires-clause-awake : goal.take_after-requires-clause-awake
take_after-requires-clause-awake g c = (c.args.i, (taking g (goal.at.take_after-requires-clause-awake g c).Then-matches).first)

pub take_after-requires-clause-least : goal.take_after-requires-clause-least
take_after-requires-clause-least g c = (0, (taking g (goal.at.take_after-requires-clause-least g c).Then-matches).least)

pub invariant_of-self-then-matches : goal.invariant_of-self-then-matches
invariant_of-self-then-matches g c = (both g c (taking g (goal.at.invariant_of-self-then-matches g c).Then-matches), subst (λ n. c.self.inside.budget ≤ n) (sym (c.push_reserved-then-matches.ensures.room ∙ c.push_reserved.ensures.room)) c.self.invariant.1, subst (λ (n : Net). length n.strands ≤ vec_capacity c.self.inside.out) (sym c.take_after.ensures.net) c.self.invariant.2)

pub returns-then-matches-clause-goes : goal.returns-then-matches-clause-goes
returns-then-matches-clause-goes g c =
    let i = c.self.inside in
    let v : ◌≡◌ {A = Machine} (record { net = i.floor.net; budget = i.budget; journal = i.journal.items; out = i.out.items; is_broken = i.is_broken }) c.args.self.now = c.self.view_is in
    let e : Entry = record { strand = c.args.strand; stream = c.args.i } in
    let e2 : Entry = record { strand = c.args.strand; stream = 0 } in
    let second = c.push_reserved-then-matches.ensures.items ∙ ap (λ j. j ++ e2 ∷ []) c.push_reserved.ensures.items in
    inr (
      0,
      subst (λ (z : Machine). LeastEvent (record z { journal = z.journal ++ e ∷ [] }) (Some (c.args.strand, 0, Took 0))) v ((taking g (goal.at.returns-then-matches-clause-goes g c).Then-matches).taking i.is_broken),
      ap (λ n. record { net = n; budget = i.budget; journal = c.push_reserved-then-matches.new.self.items; out = i.out.items; is_broken = i.is_broken }) c.take_after.ensures.net
          ∙ ap (λ j. record { net = i.floor.net; budget = i.budget; journal = j; out = i.out.items; is_broken = i.is_broken }) second
          ∙ ap (λ (z : Machine). record { net = z.net; budget = z.budget; journal = (z.journal ++ e ∷ []) ++ e2 ∷ []; out = z.out; is_broken = z.is_broken }) v,
    )

pub returns-then-matches-clause-ahead : goal.returns-then-matches-clause-ahead
returns-then-matches-clause-ahead g c = λ r named.
    event_is g.S.Stage.stands c.take_after.new.self.net c.self.inside.budget c.push_reserved-then-matches.new.self.items c.self.inside.out.items
    (slice_set c.self.inside.actors.items c.args.strand c.see.new.actor) c.take_after.new.self.desk c.take_after.new.self.pool (both g c (taking g (goal.at.returns-then-matches-clause-ahead g c).Then-matches)) c.self.inside.is_broken (Some r) (c.take_after.ensures.ahead r (sym c.at_once.ensures ∙ named))

pub returns-then-matches-clause-lawful : goal.returns-then-matches-clause-lawful
returns-then-matches-clause-lawful g c =
    lawful g.S.Stage.stands c.take_after.new.self.net c.self.inside.budget c.push_reserved-then-matches.new.self.items c.self.inside.out.items
    (slice_set c.self.inside.actors.items c.args.strand c.see.new.actor) c.take_after.new.self.desk c.take_after.new.self.pool (both g c (taking g (goal.at.returns-then-matches-clause-lawful g c).Then-matches)) c.self.inside.is_broken

-- It comes home with what it wants next

went : (g : Over) (c : Else-matches g) → Resumes g.S.Stage.stands c.in-Ok.ensures.0 c.in-Ok.ensures.1 (Saw c.args.i) c.bytes_ahead-bytes.result.now c.in-Ok.ensures.2
    × (c.in-Ok.ensures.3 ≡ true → PassesOn g.S.Stage.stands c.in-Ok.ensures.1)
went g c =
    asks g.S.Stage.stands c.in-Ok.ensures.0 c.in-Ok.ensures.1 c.args.i c.bytes_ahead-bytes.result.now c.in-Ok.ensures.2 c.in-Ok.ensures.3 c.in-Ok.reply (λ is. elim c.match-matches.branch [
      | in-Takes w ↦ (let both = sym w.matches-is ∙ c.if-matches.false in cc)
      | in_default-matches w ↦ w.in_default-matches.not-Takes is
    ]) c.in-Ok.ensures.6

pub see-requires-2-clause-from : goal.see-requires-2-clause-from
see-requires-2-clause-from g c = sym c.in-Some.ensures.door

pub see-requires-2-clause-can : goal.see-requires-2-clause-can
see-requires-2-clause-can g c = makes (sight c.args.self.now c.self.view_is c.self.invariant.0 c.requires.least c.requires.space c.index_mut-actor.ensures.value)

pub see-requires-2-clause-least : goal.see-requires-2-clause-least
see-requires-2-clause-least g c = (c.args.i, (sight c.args.self.now c.self.view_is c.self.invariant.0 c.requires.least c.requires.space c.index_mut-actor.ensures.value).least)

pub see-requires-2-clause-quiet : goal.see-requires-2-clause-quiet
see-requires-2-clause-quiet g c = sym c.if-may_settle.ensures

pub see-requires-2-clause-used : goal.see-requires-2-clause-used
see-requires-2-clause-used g c =
    let on = c.in-Ok.ensures in
    used_out (with_stage (sight c.args.self.now c.self.view_is c.self.invariant.0 c.requires.least c.requires.space c.index_mut-actor.ensures.value) on.0 on.4) on.1 on.2 on.3

pub see-requires-2-clause-live : goal.see-requires-2-clause-live
see-requires-2-clause-live g c =
    let on = c.in-Ok.ensures in
    let so = went g (goal.at.see-requires-2-clause-live g c).Else-matches in
    live (sight c.args.self.now c.self.view_is c.self.invariant.0 c.requires.least c.requires.space c.index_mut-actor.ensures.value) on.0 on.1 on.2 on.3 on.4 c.bytes_ahead-bytes.result.now (bytes_right (sight c.args.self.now c.self.view_is c.self.invariant.0 c.requires.least c.requires.space c.index_mut-actor.ensures.value) c.in-Some.ensures.door c.bytes_ahead-bytes.ensures) so.0 refl on.5

pub see-requires-2-clause-home : goal.see-requires-2-clause-home
see-requires-2-clause-home g c =
    let on = c.in-Ok.ensures in
    let so = went g (goal.at.see-requires-2-clause-home g c).Else-matches in
    home (sight c.args.self.now c.self.view_is c.self.invariant.0 c.requires.least c.requires.space c.index_mut-actor.ensures.value) on.0 on.1 on.2 on.3 on.4 c.bytes_ahead-bytes.result.now (bytes_right (sight c.args.self.now c.self.view_is c.self.invariant.0 c.requires.least c.requires.space c.index_mut-actor.ensures.value) c.in-Some.ensures.door c.bytes_ahead-bytes.ensures) so.0 refl on.5

pub see-requires-2-clause-early : goal.see-requires-2-clause-early
see-requires-2-clause-early g c =
    let on = c.in-Ok.ensures in
    let so = went g (goal.at.see-requires-2-clause-early g c).Else-matches in
    home_early (sight c.args.self.now c.self.view_is c.self.invariant.0 c.requires.least c.requires.space c.index_mut-actor.ensures.value) on.0 on.1 on.2 on.3 on.4 c.bytes_ahead-bytes.result.now (bytes_right (sight c.args.self.now c.self.view_is c.self.invariant.0 c.requires.least c.requires.space c.index_mut-actor.ensures.value) c.in-Some.ensures.door c.bytes_ahead-bytes.ensures) so.0 refl on.5

pub see-requires-2-clause-used_home : goal.see-requires-2-clause-used_home
see-requires-2-clause-used_home g c =
    let on = c.in-Ok.ensures in
    let so = went g (goal.at.see-requires-2-clause-used_home g c).Else-matches in
    home_used (sight c.args.self.now c.self.view_is c.self.invariant.0 c.requires.least c.requires.space c.index_mut-actor.ensures.value) on.0 on.1 on.2 on.3 on.4 c.bytes_ahead-bytes.result.now (bytes_right (sight c.args.self.now c.self.view_is c.self.invariant.0 c.requires.least c.requires.space c.index_mut-actor.ensures.value) c.in-Some.ensures.door c.bytes_ahead-bytes.ensures) so.0 refl on.5 so.1

pub give_up-requires-in_default-see-2 : goal.give_up-requires-in_default-see-2
give_up-requires-in_default-see-2 g c =
    below (length c.self.inside.out.items) (length c.self.inside.floor.net.strands) (vec_capacity c.self.inside.out) (room_out (sight c.args.self.now c.self.view_is c.self.invariant.0 c.requires.least c.requires.space c.index_mut-actor.ensures.value)) c.self.invariant.2

pub invariant_of-self-in_default-see-2 : goal.invariant_of-self-in_default-see-2
invariant_of-self-in_default-see-2 g c =
    let i = c.self.inside in
    let on = c.in-Ok.ensures in
    let place : c.len-in_default-see-2.result ≡ suc (length i.journal.items) = c.len-in_default-see-2.ensures ∙ ap length c.push_reserved.ensures.items ∙ length_more i.journal.items (record { strand = c.args.strand; stream = c.args.i }) in
    let sound = sound_broken (sight c.args.self.now c.self.view_is c.self.invariant.0 c.requires.least c.requires.space c.index_mut-actor.ensures.value) on.0 on.1 c.see-2.new.want on.3 on.4 c.len-in_default-see-2.result place c.see-2.ensures.net c.push_reserved.ensures.items c.give_up-in_default-see-2.ensures.out
    (c.give_up-in_default-see-2.ensures.actor ∙ ap (λ (z : Actor g.row.S.Denot). given_up (asking_for c.see-2.new.want z)) on.5) c.in_default-see-2.ensures.err c.in_default-see-2.ensures.err_pool in (
      sound,
      subst (λ n. i.budget ≤ n) (sym c.push_reserved.ensures.room) c.self.invariant.1,
      subst (λ (n : Net). length n.strands ≤ vec_capacity c.give_up-in_default-see-2.new.out) (sym c.see-2.ensures.net) (subst (λ n. length i.floor.net.strands ≤ n) (sym c.give_up-in_default-see-2.ensures.capacity) c.self.invariant.2),
    )

pub returns-in_default-see-2-clause-lawful : goal.returns-in_default-see-2-clause-lawful
returns-in_default-see-2-clause-lawful g c = lawful_broken (sight c.args.self.now c.self.view_is c.self.invariant.0 c.requires.least c.requires.space c.index_mut-actor.ensures.value) c.give_up-in_default-see-2.new.out.items c.see-2.ensures.net c.push_reserved.ensures.items

pub returns-in_default-see-2-clause-lacks : goal.returns-in_default-see-2-clause-lacks
returns-in_default-see-2-clause-lacks g c =
    let i = c.self.inside in
    let v : ◌≡◌ {A = Machine} (record { net = i.floor.net; budget = i.budget; journal = i.journal.items; out = i.out.items; is_broken = i.is_broken }) c.args.self.now = c.self.view_is in
    let e : Entry = (record { strand = c.args.strand; stream = c.args.i }) in
    let place : c.len-in_default-see-2.result ≡ suc (length i.journal.items) = c.len-in_default-see-2.ensures ∙ ap length c.push_reserved.ensures.items ∙ length_more i.journal.items e in
    broke_so c.args.self.now e i.floor.net i.budget i.journal.items i.out.items i.is_broken v c.see-2.ensures.net c.push_reserved.ensures.items c.len-in_default-see-2.result place c.give_up-in_default-see-2.ensures.out

came : (g : Over) (c : In-Ok-see g) →
    Resumes g.S.Stage.stands c.in-Ok.ensures.0 c.in-Ok.ensures.1 (Saw c.args.i) c.bytes_ahead-bytes.result.now c.in-Ok.ensures.2
    × (c.in-Ok.ensures.3 ≡ true → PassesOn g.S.Stage.stands c.in-Ok.ensures.1) →
    IsSound g.S.Stage.stands c.see-2.new.self.net c.self.inside.budget c.push_reserved.new.self.items c.self.inside.out.items
    (slice_set c.self.inside.actors.items c.args.strand (asking_for c.see-2.new.want c.see.new.actor)) c.see-2.new.self.desk c.see-2.new.self.pool
came g c so =
    let on = c.in-Ok.ensures in
    home_sound (sight c.args.self.now c.self.view_is c.self.invariant.0 c.requires.least c.requires.space c.index_mut-actor.ensures.value) on.0 on.1 on.2 on.3 on.4 c.bytes_ahead-bytes.result.now (bytes_right (sight c.args.self.now c.self.view_is c.self.invariant.0 c.requires.least c.requires.space c.index_mut-actor.ensures.value) c.in-Some.ensures.door c.bytes_ahead-bytes.ensures) so.0 refl on.5 so.1
    c.see-2.ensures.net c.push_reserved.ensures.items c.see-2.ensures.bare c.in-Ok-see.ensures.home

pub invariant_of-self-in-Ok-see-2 : goal.invariant_of-self-in-Ok-see-2
invariant_of-self-in-Ok-see-2 g c = ((came g c (went g (goal.at.invariant_of-self-in-Ok-see-2 g c).Else-matches)), subst (λ n. c.self.inside.budget ≤ n) (sym c.push_reserved.ensures.room) c.self.invariant.1, subst (λ (n : Net). length n.strands ≤ vec_capacity c.self.inside.out) (sym c.see-2.ensures.net) c.self.invariant.2)

pub returns-clause-goes : goal.returns-clause-goes
returns-clause-goes g c =
    let i = c.self.inside in
    let v : ◌≡◌ {A = Machine} (record { net = i.floor.net; budget = i.budget; journal = i.journal.items; out = i.out.items; is_broken = i.is_broken }) c.args.self.now = c.self.view_is in
    inl (went_so c.args.self.now (record { strand = c.args.strand; stream = c.args.i }) i.floor.net i.budget i.journal.items i.out.items i.is_broken v c.see-2.ensures.net c.push_reserved.ensures.items)

pub returns-clause-ahead : goal.returns-clause-ahead
returns-clause-ahead g c = λ r named.
    event_is g.S.Stage.stands c.see-2.new.self.net c.self.inside.budget c.push_reserved.new.self.items c.self.inside.out.items
    (slice_set c.self.inside.actors.items c.args.strand (asking_for c.see-2.new.want c.see.new.actor)) c.see-2.new.self.desk c.see-2.new.self.pool (came g c (went g (goal.at.returns-clause-ahead g c).Else-matches)) c.self.inside.is_broken (Some r) (c.in-Ok-see.ensures.ahead r named)

pub returns-clause-lawful : goal.returns-clause-lawful
returns-clause-lawful g c =
    lawful g.S.Stage.stands c.see-2.new.self.net c.self.inside.budget c.push_reserved.new.self.items c.self.inside.out.items
    (slice_set c.self.inside.actors.items c.args.strand (asking_for c.see-2.new.want c.see.new.actor)) c.see-2.new.self.desk c.see-2.new.self.pool (came g c (went g (goal.at.returns-clause-lawful g c).Else-matches)) c.self.inside.is_broken
