-- The strand passes its record on and takes the one at hand, or it is told that its record was put: the core is sound after either.
use Rattle.std.proofs.Common.{◌≡◌, ◌<◌, ◌≤◌, ◌+◌, inl, inr, [], Some, true, ◌++◌, ◌∷◌, suc, length, arith, refl, slice_set, vec_capacity, sym, ◌∙◌, ap, subst}
use Rattle.pipe_model.specs.declared.net.Net.{Net}
use Rattle.pipe_model.specs.declared.step.Entry.{Entry}
use Rattle.pipe_model.proofs.Lists.{length_more}
use Rattle.pipe_model.specs.declared.step.Seen.TheVariants.{Took, Put}
use Rattle.run_desk.specs.Telling as Telling
use Rattle.run_desk.specs.Turns.{desk_after_turn, pool_after_turn}
use Rattle.core_machine.specs.declared.actor.Actor.{Actor}
use Rattle.core_machine.specs.Actors.{asking_for, given_up}
use Rattle.core_machine.specs.Answered.{HasMade, LeastEvent}
use Rattle.core_machine.specs.Machine.{Machine}
use Rattle.core_machine.specs.Sound.{IsSound}
use Rattle.core_machine.proofs.Broken.{broke_so}
use Rattle.core_machine.proofs.InPlace.{below, fewer, lawful_broken, one_more, sound_broken, live, home, home_early, home_used, home_sound, went_so}
use Rattle.core_machine.proofs.Plays.{has_seat}
use Rattle.core_machine.proofs.PutsOn.{used, early, takes, takes_next, takes_least, used_last, early_last, sound_after, no_bytes_put}
use Rattle.core_machine.proofs.Runs.{ok_so}
use Rattle.core_machine.proofs.Sounds.{in_range, in_use, event_is, lawful}
use Rattle.core_machine.proofs.Tellings.{makes, within, does, resumes_it, room_out, used_out, with_stage, sound_at}
use Rattle.core_machine.proofs.core_state.Core.put.Given.{Over}
use Rattle.core_machine.proofs.core_state.Core.put.Goals as goal
use Rattle.core_machine.proofs.core_state.Core.put.Goals.{In-Ok-put}
mod Offer
use Rattle.core_machine.proofs.core_state.Core.put.Answers.Offer.{offer, plain}

pub rendezvous_at-requires-clause-used : goal.rendezvous_at-requires-clause-used
rendezvous_at-requires-clause-used g c =
    let i = c.self.inside in
    in_use g.S.Stage.stands i.floor.net i.budget i.journal.items i.out.items i.actors.items i.floor.desk i.floor.pool c.self.invariant.0

pub rendezvous_at-requires-clause-strand : goal.rendezvous_at-requires-clause-strand
rendezvous_at-requires-clause-strand g c =
    let i = c.self.inside in
    let v : ◌≡◌ {A = Machine} (record { net = i.floor.net; budget = i.budget; journal = i.journal.items; out = i.out.items; is_broken = i.is_broken }) c.args.self.now = c.self.view_is in
    let least = subst (λ (z : Machine). LeastEvent z (Some (c.args.strand, c.args.o, Put c.args.o))) (sym v) c.requires.least in
    let within = in_range g.S.Stage.stands i.floor.net i.budget i.journal.items i.out.items i.actors.items i.floor.desk i.floor.pool c.self.invariant.0 c.args.strand c.args.o least.1.0 least.1.1 in
    within

pub index_mut-actor-requires : goal.index_mut-actor-requires
index_mut-actor-requires g c =
    let i = c.self.inside in
    let v : ◌≡◌ {A = Machine} (record { net = i.floor.net; budget = i.budget; journal = i.journal.items; out = i.out.items; is_broken = i.is_broken }) c.args.self.now = c.self.view_is in
    let least = subst (λ (z : Machine). LeastEvent z (Some (c.args.strand, c.args.o, Put c.args.o))) (sym v) c.requires.least in
    let within = in_range g.S.Stage.stands i.floor.net i.budget i.journal.items i.out.items i.actors.items i.floor.desk i.floor.pool c.self.invariant.0 c.args.strand c.args.o least.1.0 least.1.1 in
    omega (arith, within, c.self.invariant.0.strands.count)

pub link_in-requires : goal.link_in-requires
link_in-requires g c =
    let i = c.self.inside in
    let v : ◌≡◌ {A = Machine} (record { net = i.floor.net; budget = i.budget; journal = i.journal.items; out = i.out.items; is_broken = i.is_broken }) c.args.self.now = c.self.view_is in
    let least = subst (λ (z : Machine). LeastEvent z (Some (c.args.strand, c.args.o, Put c.args.o))) (sym v) c.requires.least in
    let within = in_range g.S.Stage.stands i.floor.net i.budget i.journal.items i.out.items i.actors.items i.floor.desk i.floor.pool c.self.invariant.0 c.args.strand c.args.o least.1.0 least.1.1 in
    has_seat i.floor.net i.floor.desk c.args.strand (in_use g.S.Stage.stands i.floor.net i.budget i.journal.items i.out.items i.actors.items i.floor.desk i.floor.pool c.self.invariant.0) within

pub put_otherwise-requires-clause-space : goal.put_otherwise-requires-clause-space
put_otherwise-requires-clause-space g c = fewer (length c.args.self.now.journal) c.args.self.now.budget c.requires.space

pub returns-in_default-clause-goes : goal.returns-in_default-clause-goes
returns-in_default-clause-goes g c =
    ok_so (c.put_otherwise.new.self ≡ record c.args.self.now { journal = c.args.self.now.journal ++ (record { strand = c.args.strand; stream = c.args.o }) ∷ [] }) (HasMade c.args.self.now (record { strand = c.args.strand; stream = c.args.o }) c.put_otherwise.new.self) c.put_otherwise.result (λ is. inl is) c.put_otherwise.ensures.goes

pub returns-in_default-clause-ahead : goal.returns-in_default-clause-ahead
returns-in_default-clause-ahead g c = c.put_otherwise.ensures.ahead

pub returns-in_default-clause-lacks : goal.returns-in_default-clause-lacks
returns-in_default-clause-lacks g c = c.put_otherwise.ensures.lacks

pub returns-in_default-clause-lawful : goal.returns-in_default-clause-lawful
returns-in_default-clause-lawful g c = c.put_otherwise.ensures.lawful

pub push_reserved-requires : goal.push_reserved-requires
push_reserved-requires g c =
    let i = c.self.inside in
    let v : ◌≡◌ {A = Machine} (record { net = i.floor.net; budget = i.budget; journal = i.journal.items; out = i.out.items; is_broken = i.is_broken }) c.args.self.now = c.self.view_is in
    let space : length i.journal.items + 1 < i.budget = subst (λ (z : Machine). length z.journal + 1 < z.budget) (sym v) c.requires.space in
    below (length i.journal.items) i.budget i.journal.room (fewer (length i.journal.items) i.budget space) c.self.invariant.1

-- It takes the record at hand at once

pub push_reserved-requires-in-Some-link_in : goal.push_reserved-requires-in-Some-link_in
push_reserved-requires-in-Some-link_in g c =
    let i = c.self.inside in
    let v : ◌≡◌ {A = Machine} (record { net = i.floor.net; budget = i.budget; journal = i.journal.items; out = i.out.items; is_broken = i.is_broken }) c.args.self.now = c.self.view_is in
    let space : length i.journal.items + 1 < i.budget = subst (λ (z : Machine). length z.journal + 1 < z.budget) (sym v) c.requires.space in
    one_more i.journal.items c.push_reserved.new.self.items (record { strand = c.args.strand; stream = c.args.o }) i.budget i.journal.room c.push_reserved.new.self.room c.push_reserved.ensures.items space c.self.invariant.1 c.push_reserved.ensures.room

pub take_after-requires-clause-by : goal.take_after-requires-clause-by
take_after-requires-clause-by g c = (c.in-Some.link, refl, c.in-Some.ensures.0)

pub take_after-requires-clause-from : goal.take_after-requires-clause-from
take_after-requires-clause-from g c = sym c.in-Some-link_in.ensures.door

pub take_after-requires-clause-there : goal.take_after-requires-clause-there
take_after-requires-clause-there g c = c.in-Some-link_in.ensures.there

pub take_after-requires-clause-quiet : goal.take_after-requires-clause-quiet
take_after-requires-clause-quiet g c = refl

pub take_after-requires-clause-told : goal.take_after-requires-clause-told
take_after-requires-clause-told g c = plain c.self.inside.floor.net.links (Telling.out_door c.self.inside.floor.desk c.args.strand c.args.o) c.in-Some.link c.in-Some.ensures.0 c.in-Some.ensures.1

pub take_after-requires-clause-can : goal.take_after-requires-clause-can
take_after-requires-clause-can g c = makes (offer c.args.self.now c.self.view_is c.self.invariant.0 c.requires.least c.requires.space c.index_mut-actor.ensures.value)

pub take_after-requires-clause-awake : goal.take_after-requires-clause-awake
take_after-requires-clause-awake g c = (c.args.o, (offer c.args.self.now c.self.view_is c.self.invariant.0 c.requires.least c.requires.space c.index_mut-actor.ensures.value).least)

pub take_after-requires-clause-used : goal.take_after-requires-clause-used
take_after-requires-clause-used g c =
    let i = c.self.inside in
    let v : ◌≡◌ {A = Machine} (record { net = i.floor.net; budget = i.budget; journal = i.journal.items; out = i.out.items; is_broken = i.is_broken }) c.args.self.now = c.self.view_is in
    let t = (offer c.args.self.now c.self.view_is c.self.invariant.0 c.requires.least c.requires.space c.index_mut-actor.ensures.value) in
    let passes : c.index_mut-actor.result.now.passes ≡ true = c.if-actor.true in
    let space : length i.journal.items + 1 < i.budget = subst (λ (z : Machine). length z.journal + 1 < z.budget) (sym v) c.requires.space in
    let to_one = plain i.floor.net.links (Telling.out_door i.floor.desk c.args.strand c.args.o) c.in-Some.link c.in-Some.ensures.0 c.in-Some.ensures.1 in
    used t passes space to_one

pub take_after-requires-clause-early : goal.take_after-requires-clause-early
take_after-requires-clause-early g c =
    let i = c.self.inside in
    let v : ◌≡◌ {A = Machine} (record { net = i.floor.net; budget = i.budget; journal = i.journal.items; out = i.out.items; is_broken = i.is_broken }) c.args.self.now = c.self.view_is in
    let t = (offer c.args.self.now c.self.view_is c.self.invariant.0 c.requires.least c.requires.space c.index_mut-actor.ensures.value) in
    let passes : c.index_mut-actor.result.now.passes ≡ true = c.if-actor.true in
    let space : length i.journal.items + 1 < i.budget = subst (λ (z : Machine). length z.journal + 1 < z.budget) (sym v) c.requires.space in
    let to_one = plain i.floor.net.links (Telling.out_door i.floor.desk c.args.strand c.args.o) c.in-Some.link c.in-Some.ensures.0 c.in-Some.ensures.1 in
    early t passes space to_one

pub take_after-requires-clause-takes : goal.take_after-requires-clause-takes
take_after-requires-clause-takes g c =
    let i = c.self.inside in
    let v : ◌≡◌ {A = Machine} (record { net = i.floor.net; budget = i.budget; journal = i.journal.items; out = i.out.items; is_broken = i.is_broken }) c.args.self.now = c.self.view_is in
    let t = (offer c.args.self.now c.self.view_is c.self.invariant.0 c.requires.least c.requires.space c.index_mut-actor.ensures.value) in
    let passes : c.index_mut-actor.result.now.passes ≡ true = c.if-actor.true in
    let space : length i.journal.items + 1 < i.budget = subst (λ (z : Machine). length z.journal + 1 < z.budget) (sym v) c.requires.space in
    let to_one = plain i.floor.net.links (Telling.out_door i.floor.desk c.args.strand c.args.o) c.in-Some.link c.in-Some.ensures.0 c.in-Some.ensures.1 in
    takes t passes space to_one

pub take_after-requires-clause-used_last : goal.take_after-requires-clause-used_last
take_after-requires-clause-used_last g c =
    let i = c.self.inside in
    let v : ◌≡◌ {A = Machine} (record { net = i.floor.net; budget = i.budget; journal = i.journal.items; out = i.out.items; is_broken = i.is_broken }) c.args.self.now = c.self.view_is in
    let t = (offer c.args.self.now c.self.view_is c.self.invariant.0 c.requires.least c.requires.space c.index_mut-actor.ensures.value) in
    let passes : c.index_mut-actor.result.now.passes ≡ true = c.if-actor.true in
    let space : length i.journal.items + 1 < i.budget = subst (λ (z : Machine). length z.journal + 1 < z.budget) (sym v) c.requires.space in
    let to_one = plain i.floor.net.links (Telling.out_door i.floor.desk c.args.strand c.args.o) c.in-Some.link c.in-Some.ensures.0 c.in-Some.ensures.1 in
    used_last t passes space to_one

pub take_after-requires-clause-early_last : goal.take_after-requires-clause-early_last
take_after-requires-clause-early_last g c =
    let i = c.self.inside in
    let v : ◌≡◌ {A = Machine} (record { net = i.floor.net; budget = i.budget; journal = i.journal.items; out = i.out.items; is_broken = i.is_broken }) c.args.self.now = c.self.view_is in
    let t = (offer c.args.self.now c.self.view_is c.self.invariant.0 c.requires.least c.requires.space c.index_mut-actor.ensures.value) in
    let passes : c.index_mut-actor.result.now.passes ≡ true = c.if-actor.true in
    let space : length i.journal.items + 1 < i.budget = subst (λ (z : Machine). length z.journal + 1 < z.budget) (sym v) c.requires.space in
    let to_one = plain i.floor.net.links (Telling.out_door i.floor.desk c.args.strand c.args.o) c.in-Some.link c.in-Some.ensures.0 c.in-Some.ensures.1 in
    early_last t passes space to_one

pub take_after-requires-clause-least : goal.take_after-requires-clause-least
take_after-requires-clause-least g c =
    let i = c.self.inside in
    let v : ◌≡◌ {A = Machine} (record { net = i.floor.net; budget = i.budget; journal = i.journal.items; out = i.out.items; is_broken = i.is_broken }) c.args.self.now = c.self.view_is in
    let t = (offer c.args.self.now c.self.view_is c.self.invariant.0 c.requires.least c.requires.space c.index_mut-actor.ensures.value) in
    let passes : c.index_mut-actor.result.now.passes ≡ true = c.if-actor.true in
    let space : length i.journal.items + 1 < i.budget = subst (λ (z : Machine). length z.journal + 1 < z.budget) (sym v) c.requires.space in
    let to_one = plain i.floor.net.links (Telling.out_door i.floor.desk c.args.strand c.args.o) c.in-Some.link c.in-Some.ensures.0 c.in-Some.ensures.1 in
    (0, takes_next t passes space to_one)

pub invariant_of-self : goal.invariant_of-self
invariant_of-self g c =
    let i = c.self.inside in
    let v : ◌≡◌ {A = Machine} (record { net = i.floor.net; budget = i.budget; journal = i.journal.items; out = i.out.items; is_broken = i.is_broken }) c.args.self.now = c.self.view_is in
    let t = (offer c.args.self.now c.self.view_is c.self.invariant.0 c.requires.least c.requires.space c.index_mut-actor.ensures.value) in
    let passes : c.index_mut-actor.result.now.passes ≡ true = c.if-actor.true in
    let space : length i.journal.items + 1 < i.budget = subst (λ (z : Machine). length z.journal + 1 < z.budget) (sym v) c.requires.space in
    let to_one = plain i.floor.net.links (Telling.out_door i.floor.desk c.args.strand c.args.o) c.in-Some.link c.in-Some.ensures.0 c.in-Some.ensures.1 in
    let e2 : Entry = record { strand = c.args.strand; stream = 0 } in
    let journal = c.push_reserved-in-Some-link_in.ensures.items ∙ ap (λ j. j ++ e2 ∷ []) c.push_reserved.ensures.items in
    let sound = sound_at c.take_after.ensures.net journal refl refl c.take_after.ensures.desk c.take_after.ensures.pool (sound_after t passes space to_one c.ask.new.actor c.ask.ensures) in
    (sound, subst (λ n. i.budget ≤ n) (sym (c.push_reserved-in-Some-link_in.ensures.room ∙ c.push_reserved.ensures.room)) c.self.invariant.1, subst (λ (n : Net). length n.strands ≤ vec_capacity i.out) (sym c.take_after.ensures.net) c.self.invariant.2)

pub returns-in-Some-link_in-clause-goes : goal.returns-in-Some-link_in-clause-goes
returns-in-Some-link_in-clause-goes g c =
    let i = c.self.inside in
    let v : ◌≡◌ {A = Machine} (record { net = i.floor.net; budget = i.budget; journal = i.journal.items; out = i.out.items; is_broken = i.is_broken }) c.args.self.now = c.self.view_is in
    let t = (offer c.args.self.now c.self.view_is c.self.invariant.0 c.requires.least c.requires.space c.index_mut-actor.ensures.value) in
    let passes : c.index_mut-actor.result.now.passes ≡ true = c.if-actor.true in
    let space : length i.journal.items + 1 < i.budget = subst (λ (z : Machine). length z.journal + 1 < z.budget) (sym v) c.requires.space in
    let to_one = plain i.floor.net.links (Telling.out_door i.floor.desk c.args.strand c.args.o) c.in-Some.link c.in-Some.ensures.0 c.in-Some.ensures.1 in
    let e2 : Entry = record { strand = c.args.strand; stream = 0 } in
    let journal = c.push_reserved-in-Some-link_in.ensures.items ∙ ap (λ j. j ++ e2 ∷ []) c.push_reserved.ensures.items in
    let e : Entry = record { strand = c.args.strand; stream = c.args.o } in
    let next = takes_least t passes space to_one i.is_broken in
    inr (
      0,
      subst (λ (z : Machine). LeastEvent (record z { journal = z.journal ++ e ∷ [] }) (Some (c.args.strand, 0, Took 0))) v next,
      ap (λ n. record { net = n; budget = i.budget; journal = c.push_reserved-in-Some-link_in.new.self.items; out = i.out.items; is_broken = i.is_broken }) c.take_after.ensures.net
          ∙ ap (λ j. record { net = i.floor.net; budget = i.budget; journal = j; out = i.out.items; is_broken = i.is_broken }) journal
          ∙ ap (λ (z : Machine). record z { journal = (z.journal ++ e ∷ []) ++ e2 ∷ [] }) v,
    )

pub returns-in-Some-link_in-clause-ahead : goal.returns-in-Some-link_in-clause-ahead
returns-in-Some-link_in-clause-ahead g c =
    let i = c.self.inside in
    let v : ◌≡◌ {A = Machine} (record { net = i.floor.net; budget = i.budget; journal = i.journal.items; out = i.out.items; is_broken = i.is_broken }) c.args.self.now = c.self.view_is in
    let t = (offer c.args.self.now c.self.view_is c.self.invariant.0 c.requires.least c.requires.space c.index_mut-actor.ensures.value) in
    let passes : c.index_mut-actor.result.now.passes ≡ true = c.if-actor.true in
    let space : length i.journal.items + 1 < i.budget = subst (λ (z : Machine). length z.journal + 1 < z.budget) (sym v) c.requires.space in
    let to_one = plain i.floor.net.links (Telling.out_door i.floor.desk c.args.strand c.args.o) c.in-Some.link c.in-Some.ensures.0 c.in-Some.ensures.1 in
    let e2 : Entry = record { strand = c.args.strand; stream = 0 } in
    let journal = c.push_reserved-in-Some-link_in.ensures.items ∙ ap (λ j. j ++ e2 ∷ []) c.push_reserved.ensures.items in
    let sound = sound_at c.take_after.ensures.net journal refl refl c.take_after.ensures.desk c.take_after.ensures.pool (sound_after t passes space to_one c.ask.new.actor c.ask.ensures) in
    λ r named.
    let sure = c.take_after.ensures.ahead r named in
    event_is g.S.Stage.stands c.take_after.new.self.net i.budget c.push_reserved-in-Some-link_in.new.self.items i.out.items (slice_set i.actors.items c.args.strand c.ask.new.actor)
    c.take_after.new.self.desk c.take_after.new.self.pool sound i.is_broken (Some r) sure

pub returns-in-Some-link_in-clause-lawful : goal.returns-in-Some-link_in-clause-lawful
returns-in-Some-link_in-clause-lawful g c =
    let i = c.self.inside in
    let v : ◌≡◌ {A = Machine} (record { net = i.floor.net; budget = i.budget; journal = i.journal.items; out = i.out.items; is_broken = i.is_broken }) c.args.self.now = c.self.view_is in
    let t = (offer c.args.self.now c.self.view_is c.self.invariant.0 c.requires.least c.requires.space c.index_mut-actor.ensures.value) in
    let passes : c.index_mut-actor.result.now.passes ≡ true = c.if-actor.true in
    let space : length i.journal.items + 1 < i.budget = subst (λ (z : Machine). length z.journal + 1 < z.budget) (sym v) c.requires.space in
    let to_one = plain i.floor.net.links (Telling.out_door i.floor.desk c.args.strand c.args.o) c.in-Some.link c.in-Some.ensures.0 c.in-Some.ensures.1 in
    let e2 : Entry = record { strand = c.args.strand; stream = 0 } in
    let journal = c.push_reserved-in-Some-link_in.ensures.items ∙ ap (λ j. j ++ e2 ∷ []) c.push_reserved.ensures.items in
    let sound = sound_at c.take_after.ensures.net journal refl refl c.take_after.ensures.desk c.take_after.ensures.pool (sound_after t passes space to_one c.ask.new.actor c.ask.ensures) in
    lawful g.S.Stage.stands c.take_after.new.self.net i.budget c.push_reserved-in-Some-link_in.new.self.items i.out.items (slice_set i.actors.items c.args.strand c.ask.new.actor)
    c.take_after.new.self.desk c.take_after.new.self.pool sound i.is_broken

-- Its coroutine is told that its record was put

pub put-requires-clause-can : goal.put-requires-clause-can
put-requires-clause-can g c =
    let t = (offer c.args.self.now c.self.view_is c.self.invariant.0 c.requires.least c.requires.space c.index_mut-actor.ensures.value) in
    (t.stage, t.was, resumes_it t [] (no_bytes_put c.index_mut-actor.result.now.looks (desk_after_turn c.self.inside.floor.desk c.args.strand (Put c.args.o)) (pool_after_turn c.self.inside.floor.desk c.self.inside.floor.pool c.args.strand (Put c.args.o)) c.args.strand c.args.o))

pub put-requires-clause-passes : goal.put-requires-clause-passes
put-requires-clause-passes g c = does (offer c.args.self.now c.self.view_is c.self.invariant.0 c.requires.least c.requires.space c.index_mut-actor.ensures.value)

pub put_in_vain-requires : goal.put_in_vain-requires
put_in_vain-requires g c = makes (offer c.args.self.now c.self.view_is c.self.invariant.0 c.requires.least c.requires.space c.index_mut-actor.ensures.value)

pub give_up-requires : goal.give_up-requires
give_up-requires g c =
    below (length c.self.inside.out.items) (length c.self.inside.floor.net.strands) (vec_capacity c.self.inside.out) (room_out (offer c.args.self.now c.self.view_is c.self.invariant.0 c.requires.least c.requires.space c.index_mut-actor.ensures.value)) c.self.invariant.2

pub invariant_of-self-in_default-put : goal.invariant_of-self-in_default-put
invariant_of-self-in_default-put g c =
    let i = c.self.inside in
    let on = c.put.ensures in
    let place : c.len.result ≡ suc (length i.journal.items) = c.len.ensures ∙ ap length c.push_reserved.ensures.items ∙ length_more i.journal.items (record { strand = c.args.strand; stream = c.args.o }) in
    let sound = sound_broken (offer c.args.self.now c.self.view_is c.self.invariant.0 c.requires.least c.requires.space c.index_mut-actor.ensures.value) on.0 on.1 on.2 on.3 on.4 c.len.result place c.put_in_vain.ensures.net c.push_reserved.ensures.items c.give_up.ensures.out
    (c.give_up.ensures.actor ∙ ap (λ (z : Actor g.row.S.Denot). given_up z) on.5) c.put_in_vain.ensures.desk c.put_in_vain.ensures.pool in (
      sound,
      subst (λ n. i.budget ≤ n) (sym c.push_reserved.ensures.room) c.self.invariant.1,
      subst (λ (n : Net). length n.strands ≤ vec_capacity c.give_up.new.out) (sym c.put_in_vain.ensures.net) (subst (λ n. length i.floor.net.strands ≤ n) (sym c.give_up.ensures.capacity) c.self.invariant.2),
    )

pub returns-in_default-put-clause-lawful : goal.returns-in_default-put-clause-lawful
returns-in_default-put-clause-lawful g c = lawful_broken (offer c.args.self.now c.self.view_is c.self.invariant.0 c.requires.least c.requires.space c.index_mut-actor.ensures.value) c.give_up.new.out.items c.put_in_vain.ensures.net c.push_reserved.ensures.items

pub returns-in_default-put-clause-lacks : goal.returns-in_default-put-clause-lacks
returns-in_default-put-clause-lacks g c =
    let i = c.self.inside in
    let v : ◌≡◌ {A = Machine} (record { net = i.floor.net; budget = i.budget; journal = i.journal.items; out = i.out.items; is_broken = i.is_broken }) c.args.self.now = c.self.view_is in
    let e : Entry = (record { strand = c.args.strand; stream = c.args.o }) in
    let place : c.len.result ≡ suc (length i.journal.items) = c.len.ensures ∙ ap length c.push_reserved.ensures.items ∙ length_more i.journal.items e in
    broke_so c.args.self.now e i.floor.net i.budget i.journal.items i.out.items i.is_broken v c.put_in_vain.ensures.net c.push_reserved.ensures.items c.len.result place c.give_up.ensures.out

-- It comes home with what it wants next

pub put-requires-2-clause-door : goal.put-requires-2-clause-door
put-requires-2-clause-door g c = c.in-Some.ensures.0

pub put-requires-2-clause-rendezvous : goal.put-requires-2-clause-rendezvous
put-requires-2-clause-rendezvous g c = c.in-Some.ensures.1

pub put-requires-2-clause-can : goal.put-requires-2-clause-can
put-requires-2-clause-can g c = makes (offer c.args.self.now c.self.view_is c.self.invariant.0 c.requires.least c.requires.space c.index_mut-actor.ensures.value)

pub put-requires-2-clause-least : goal.put-requires-2-clause-least
put-requires-2-clause-least g c = (c.args.o, (offer c.args.self.now c.self.view_is c.self.invariant.0 c.requires.least c.requires.space c.index_mut-actor.ensures.value).least)

pub put-requires-2-clause-used : goal.put-requires-2-clause-used
put-requires-2-clause-used g c =
    let on = c.in-Ok.ensures in
    used_out (with_stage (offer c.args.self.now c.self.view_is c.self.invariant.0 c.requires.least c.requires.space c.index_mut-actor.ensures.value) on.0 on.4) on.1 on.2 on.3

pub put-requires-2-clause-live : goal.put-requires-2-clause-live
put-requires-2-clause-live g c =
    let on = c.in-Ok.ensures in
    live (offer c.args.self.now c.self.view_is c.self.invariant.0 c.requires.least c.requires.space c.index_mut-actor.ensures.value) on.0 on.1 on.2 on.3 on.4 [] (no_bytes_put c.index_mut-actor.result.now.looks (desk_after_turn c.self.inside.floor.desk c.args.strand (Put c.args.o)) (pool_after_turn c.self.inside.floor.desk c.self.inside.floor.pool c.args.strand (Put c.args.o)) c.args.strand c.args.o) on.6.0 refl on.5

pub put-requires-2-clause-home : goal.put-requires-2-clause-home
put-requires-2-clause-home g c =
    let on = c.in-Ok.ensures in
    home (offer c.args.self.now c.self.view_is c.self.invariant.0 c.requires.least c.requires.space c.index_mut-actor.ensures.value) on.0 on.1 on.2 on.3 on.4 [] (no_bytes_put c.index_mut-actor.result.now.looks (desk_after_turn c.self.inside.floor.desk c.args.strand (Put c.args.o)) (pool_after_turn c.self.inside.floor.desk c.self.inside.floor.pool c.args.strand (Put c.args.o)) c.args.strand c.args.o) on.6.0 refl on.5

pub put-requires-2-clause-early : goal.put-requires-2-clause-early
put-requires-2-clause-early g c =
    let on = c.in-Ok.ensures in
    home_early (offer c.args.self.now c.self.view_is c.self.invariant.0 c.requires.least c.requires.space c.index_mut-actor.ensures.value) on.0 on.1 on.2 on.3 on.4 [] (no_bytes_put c.index_mut-actor.result.now.looks (desk_after_turn c.self.inside.floor.desk c.args.strand (Put c.args.o)) (pool_after_turn c.self.inside.floor.desk c.self.inside.floor.pool c.args.strand (Put c.args.o)) c.args.strand c.args.o) on.6.0 refl on.5

pub put-requires-2-clause-used_home : goal.put-requires-2-clause-used_home
put-requires-2-clause-used_home g c =
    let on = c.in-Ok.ensures in
    home_used (offer c.args.self.now c.self.view_is c.self.invariant.0 c.requires.least c.requires.space c.index_mut-actor.ensures.value) on.0 on.1 on.2 on.3 on.4 [] (no_bytes_put c.index_mut-actor.result.now.looks (desk_after_turn c.self.inside.floor.desk c.args.strand (Put c.args.o)) (pool_after_turn c.self.inside.floor.desk c.self.inside.floor.pool c.args.strand (Put c.args.o)) c.args.strand c.args.o) on.6.0 refl on.5 on.6.1

pub give_up-requires-in_default-put-2 : goal.give_up-requires-in_default-put-2
give_up-requires-in_default-put-2 g c =
    below (length c.self.inside.out.items) (length c.self.inside.floor.net.strands) (vec_capacity c.self.inside.out) (room_out (offer c.args.self.now c.self.view_is c.self.invariant.0 c.requires.least c.requires.space c.index_mut-actor.ensures.value)) c.self.invariant.2

pub invariant_of-self-in_default-put-2 : goal.invariant_of-self-in_default-put-2
invariant_of-self-in_default-put-2 g c =
    let i = c.self.inside in
    let on = c.in-Ok.ensures in
    let place : c.len-in_default-put-2.result ≡ suc (length i.journal.items) = c.len-in_default-put-2.ensures ∙ ap length c.push_reserved.ensures.items ∙ length_more i.journal.items (record { strand = c.args.strand; stream = c.args.o }) in
    let sound = sound_broken (offer c.args.self.now c.self.view_is c.self.invariant.0 c.requires.least c.requires.space c.index_mut-actor.ensures.value) on.0 on.1 c.put-2.new.want on.3 on.4 c.len-in_default-put-2.result place c.put-2.ensures.net c.push_reserved.ensures.items c.give_up-in_default-put-2.ensures.out
    (c.give_up-in_default-put-2.ensures.actor ∙ ap (λ (z : Actor g.row.S.Denot). given_up (asking_for c.put-2.new.want z)) on.5) c.in_default-put-2.ensures.err c.in_default-put-2.ensures.err_pool in (
      sound,
      subst (λ n. i.budget ≤ n) (sym c.push_reserved.ensures.room) c.self.invariant.1,
      subst (λ (n : Net). length n.strands ≤ vec_capacity c.give_up-in_default-put-2.new.out) (sym c.put-2.ensures.net) (subst (λ n. length i.floor.net.strands ≤ n) (sym c.give_up-in_default-put-2.ensures.capacity) c.self.invariant.2),
    )

pub returns-in_default-put-2-clause-lawful : goal.returns-in_default-put-2-clause-lawful
returns-in_default-put-2-clause-lawful g c = lawful_broken (offer c.args.self.now c.self.view_is c.self.invariant.0 c.requires.least c.requires.space c.index_mut-actor.ensures.value) c.give_up-in_default-put-2.new.out.items c.put-2.ensures.net c.push_reserved.ensures.items

pub returns-in_default-put-2-clause-lacks : goal.returns-in_default-put-2-clause-lacks
returns-in_default-put-2-clause-lacks g c =
    let i = c.self.inside in
    let v : ◌≡◌ {A = Machine} (record { net = i.floor.net; budget = i.budget; journal = i.journal.items; out = i.out.items; is_broken = i.is_broken }) c.args.self.now = c.self.view_is in
    let e : Entry = (record { strand = c.args.strand; stream = c.args.o }) in
    let place : c.len-in_default-put-2.result ≡ suc (length i.journal.items) = c.len-in_default-put-2.ensures ∙ ap length c.push_reserved.ensures.items ∙ length_more i.journal.items e in
    broke_so c.args.self.now e i.floor.net i.budget i.journal.items i.out.items i.is_broken v c.put-2.ensures.net c.push_reserved.ensures.items c.len-in_default-put-2.result place c.give_up-in_default-put-2.ensures.out

came : (g : Over) (c : In-Ok-put g) →
    IsSound g.S.Stage.stands c.put-2.new.self.net c.self.inside.budget c.push_reserved.new.self.items c.self.inside.out.items
    (slice_set c.self.inside.actors.items c.args.strand (asking_for c.put-2.new.want c.put.new.actor)) c.put-2.new.self.desk c.put-2.new.self.pool
came g c =
    let on = c.in-Ok.ensures in
    home_sound (offer c.args.self.now c.self.view_is c.self.invariant.0 c.requires.least c.requires.space c.index_mut-actor.ensures.value) on.0 on.1 on.2 on.3 on.4 [] (no_bytes_put c.index_mut-actor.result.now.looks (desk_after_turn c.self.inside.floor.desk c.args.strand (Put c.args.o)) (pool_after_turn c.self.inside.floor.desk c.self.inside.floor.pool c.args.strand (Put c.args.o)) c.args.strand c.args.o) on.6.0 refl on.5 on.6.1
    c.put-2.ensures.net c.push_reserved.ensures.items c.put-2.ensures.bare c.in-Ok-put.ensures.home

pub invariant_of-self-in-Ok-put-2 : goal.invariant_of-self-in-Ok-put-2
invariant_of-self-in-Ok-put-2 g c = (came g c, subst (λ n. c.self.inside.budget ≤ n) (sym c.push_reserved.ensures.room) c.self.invariant.1, subst (λ (n : Net). length n.strands ≤ vec_capacity c.self.inside.out) (sym c.put-2.ensures.net) c.self.invariant.2)

pub returns-clause-goes : goal.returns-clause-goes
returns-clause-goes g c =
    let i = c.self.inside in
    let v : ◌≡◌ {A = Machine} (record { net = i.floor.net; budget = i.budget; journal = i.journal.items; out = i.out.items; is_broken = i.is_broken }) c.args.self.now = c.self.view_is in
    inl (went_so c.args.self.now (record { strand = c.args.strand; stream = c.args.o }) i.floor.net i.budget i.journal.items i.out.items i.is_broken v c.put-2.ensures.net c.push_reserved.ensures.items)

pub returns-clause-ahead : goal.returns-clause-ahead
returns-clause-ahead g c = λ r named.
    event_is g.S.Stage.stands c.put-2.new.self.net c.self.inside.budget c.push_reserved.new.self.items c.self.inside.out.items
    (slice_set c.self.inside.actors.items c.args.strand (asking_for c.put-2.new.want c.put.new.actor)) c.put-2.new.self.desk c.put-2.new.self.pool (came g c) c.self.inside.is_broken (Some r) (c.in-Ok-put.ensures.ahead r named)

pub returns-clause-lawful : goal.returns-clause-lawful
returns-clause-lawful g c =
    lawful g.S.Stage.stands c.put-2.new.self.net c.self.inside.budget c.push_reserved.new.self.items c.self.inside.out.items
    (slice_set c.self.inside.actors.items c.args.strand (asking_for c.put-2.new.want c.put.new.actor)) c.put-2.new.self.desk c.put-2.new.self.pool (came g c) c.self.inside.is_broken
