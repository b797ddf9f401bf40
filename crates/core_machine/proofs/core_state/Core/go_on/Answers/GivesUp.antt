-- A strand whose coroutine wanted memory, in place or as it came home, is given up: the core is sound, and broken.
use Rattle.std.proofs.Common.{rules, ◌≡◌, ◌<◌, suc, true, Some, [], ◌∷◌, ◌++◌, length, slice_set, sym, ◌∙◌, ap, subst}
use Rattle.pipe_model.specs.declared.step.Entry.{Entry}
use Rattle.pipe_model.proofs.Lists.{length_more}
use Rattle.core_machine.specs.declared.actor.Actor.{Actor}
use Rattle.core_machine.specs.Actors.{asking_for, given_up}
use Rattle.core_machine.specs.Machine.{Machine, licence_of, IsLawful}
use Rattle.core_machine.specs.Sound.{IsSound}
use Rattle.core_machine.proofs.Broken.{broke_so}
use Rattle.core_machine.proofs.GoesOn.{lost}
use Rattle.core_machine.proofs.Sounds.{actor_at, in_range, out_room, on_floor, lawful_turned}
use Rattle.core_machine.proofs.core_state.Core.go_on.Goals as goal

-- the list of those that are out has room for it
pub room : goal.give_up-requires
room g c =
    let i = c.self.inside in
    let v : ◌≡◌ {A = Machine} (record { net = i.floor.net; budget = i.budget; journal = i.journal.items; out = i.out.items; is_broken = i.is_broken }) c.args.self.now = c.self.view_is in
    let may = subst (λ (z : Machine). licence_of z c.args.strand c.args.stream ≡ Some c.requires.least.1.0) (sym v) c.requires.least.1.1 in
    let few = out_room g.S.Stage.stands i.floor.net i.budget i.journal.items i.out.items i.actors.items i.floor.desk i.floor.pool c.self.invariant.0 c.args.strand c.args.stream c.requires.least.1.0 may in
    let room = c.self.invariant.2 in
    search (rules, few, room)

pub room_home : goal.give_up-requires-in_default-come_home
room_home g c =
    let i = c.self.inside in
    let v : ◌≡◌ {A = Machine} (record { net = i.floor.net; budget = i.budget; journal = i.journal.items; out = i.out.items; is_broken = i.is_broken }) c.args.self.now = c.self.view_is in
    let may = subst (λ (z : Machine). licence_of z c.args.strand c.args.stream ≡ Some c.requires.least.1.0) (sym v) c.requires.least.1.1 in
    let few = out_room g.S.Stage.stands i.floor.net i.budget i.journal.items i.out.items i.actors.items i.floor.desk i.floor.pool c.self.invariant.0 c.args.strand c.args.stream c.requires.least.1.0 may in
    let room = c.self.invariant.2 in
    search (rules, few, room)

pub sound_broken : goal.invariant_of-self
sound_broken g c =
    let i = c.self.inside in
    let v : ◌≡◌ {A = Machine} (record { net = i.floor.net; budget = i.budget; journal = i.journal.items; out = i.out.items; is_broken = i.is_broken }) c.args.self.now = c.self.view_is in
    let may = subst (λ (z : Machine). licence_of z c.args.strand c.args.stream ≡ Some c.requires.least.1.0) (sym v) c.requires.least.1.1 in
    let space : length i.journal.items < i.budget = subst (λ (z : Machine). length z.journal < z.budget) (sym v) c.requires.space in
    let a = c.index_mut-actor.result.now in
    let at = actor_at g.S.Stage.stands i.floor.net i.budget i.journal.items i.out.items i.actors.items i.floor.desk i.floor.pool c.self.invariant.0 c.args.strand a (in_range g.S.Stage.stands i.floor.net i.budget i.journal.items i.out.items i.actors.items i.floor.desk i.floor.pool c.self.invariant.0 c.args.strand c.args.stream c.requires.least.1.0 may) c.index_mut-actor.ensures.value in
    let moved = c.make.new.self in
    let on = c.advance.ensures in
    let place : c.len.result ≡ suc (length i.journal.items) = c.len.ensures ∙ ap length c.push_reserved.ensures.items ∙ length_more i.journal.items (record { strand = c.args.strand; stream = c.args.stream }) in
    let actor_is = c.give_up.ensures.actor ∙ ap (λ (z : Actor g.row.S.Denot). given_up z) on.5 in
    let out_is : c.give_up.new.out.items ≡ i.out.items ++ suc (length i.journal.items) ∷ [] = c.give_up.ensures.out ∙ ap (λ p. i.out.items ++ p ∷ []) place in
    let gone = lost g.S.Stage.stands i.floor.net i.budget i.journal.items i.out.items i.actors.items i.floor.desk i.floor.pool c.self.invariant.0 c.args.strand c.args.stream c.requires.least.1.0 may a on.0 at on.4 c.args.seen c.requires.least.1.2 space moved.desk moved.pool c.make.ensures.desk c.make.ensures.pool on.1 on.2 on.3 in
    let here = subst (λ j. IsSound g.S.Stage.stands i.floor.net i.budget j c.give_up.new.out.items (slice_set i.actors.items c.args.strand c.give_up.new.actor) moved.desk moved.pool) (sym c.push_reserved.ensures.items)
    (subst (λ o. IsSound g.S.Stage.stands i.floor.net i.budget (i.journal.items ++ (record { strand = c.args.strand; stream = c.args.stream }) ∷ []) o (slice_set i.actors.items c.args.strand c.give_up.new.actor) moved.desk moved.pool) (sym out_is)
    (subst (λ (z : Actor g.row.S.Denot). IsSound g.S.Stage.stands i.floor.net i.budget (i.journal.items ++ (record { strand = c.args.strand; stream = c.args.stream }) ∷ []) (i.out.items ++ suc (length i.journal.items) ∷ []) (slice_set i.actors.items c.args.strand z) moved.desk moved.pool) (sym actor_is) gone)) in
    let moved_here = subst (λ n. IsSound g.S.Stage.stands n i.budget c.push_reserved.new.self.items c.give_up.new.out.items (slice_set i.actors.items c.args.strand c.give_up.new.actor) moved.desk moved.pool) (sym c.make.ensures.net) here in
    (moved_here, search rules, search rules)

pub lawful_broken : goal.returns-in_default-advance-clause-lawful
lawful_broken g c =
    let i = c.self.inside in
    let v : ◌≡◌ {A = Machine} (record { net = i.floor.net; budget = i.budget; journal = i.journal.items; out = i.out.items; is_broken = i.is_broken }) c.args.self.now = c.self.view_is in
    let may = subst (λ (z : Machine). licence_of z c.args.strand c.args.stream ≡ Some c.requires.least.1.0) (sym v) c.requires.least.1.1 in
    let space : length i.journal.items < i.budget = subst (λ (z : Machine). length z.journal < z.budget) (sym v) c.requires.space in
    let law = lawful_turned g.S.Stage.stands i.floor.net i.budget i.journal.items i.out.items i.actors.items i.floor.desk i.floor.pool c.self.invariant.0 c.args.strand c.args.stream c.requires.least.1.0 may space true in
    subst (λ n. IsLawful (record { net = n; budget = i.budget; journal = c.push_reserved.new.self.items; out = c.give_up.new.out.items; is_broken = true })) (sym c.make.ensures.net)
    (subst (λ j. IsLawful (record { net = i.floor.net; budget = i.budget; journal = j; out = c.give_up.new.out.items; is_broken = true })) (sym c.push_reserved.ensures.items)
    (record { legal = law.legal; within = law.within; bounded = law.bounded }))

pub sound_broken_home : goal.invariant_of-self-in_default-come_home
sound_broken_home g c =
    let i = c.self.inside in
    let v : ◌≡◌ {A = Machine} (record { net = i.floor.net; budget = i.budget; journal = i.journal.items; out = i.out.items; is_broken = i.is_broken }) c.args.self.now = c.self.view_is in
    let may = subst (λ (z : Machine). licence_of z c.args.strand c.args.stream ≡ Some c.requires.least.1.0) (sym v) c.requires.least.1.1 in
    let space : length i.journal.items < i.budget = subst (λ (z : Machine). length z.journal < z.budget) (sym v) c.requires.space in
    let a = c.index_mut-actor.result.now in
    let at = actor_at g.S.Stage.stands i.floor.net i.budget i.journal.items i.out.items i.actors.items i.floor.desk i.floor.pool c.self.invariant.0 c.args.strand a (in_range g.S.Stage.stands i.floor.net i.budget i.journal.items i.out.items i.actors.items i.floor.desk i.floor.pool c.self.invariant.0 c.args.strand c.args.stream c.requires.least.1.0 may) c.index_mut-actor.ensures.value in
    let moved = c.make.new.self in
    let on = c.advance.ensures in
    let place : c.len-in_default-come_home.result ≡ suc (length i.journal.items) = c.len-in_default-come_home.ensures ∙ ap length c.push_reserved.ensures.items ∙ length_more i.journal.items (record { strand = c.args.strand; stream = c.args.stream }) in
    let actor_is = c.give_up-in_default-come_home.ensures.actor ∙ ap (λ (z : Actor g.row.S.Denot). given_up (asking_for c.come_home.new.want z)) on.5 in
    let out_is : c.give_up-in_default-come_home.new.out.items ≡ i.out.items ++ suc (length i.journal.items) ∷ [] = c.give_up-in_default-come_home.ensures.out ∙ ap (λ p. i.out.items ++ p ∷ []) place in
    let gone = lost g.S.Stage.stands i.floor.net i.budget i.journal.items i.out.items i.actors.items i.floor.desk i.floor.pool c.self.invariant.0 c.args.strand c.args.stream c.requires.least.1.0 may a on.0 at on.4 c.args.seen c.requires.least.1.2 space moved.desk moved.pool c.make.ensures.desk c.make.ensures.pool on.1 c.come_home.new.want on.3 in
    let here = subst (λ j. IsSound g.S.Stage.stands i.floor.net i.budget j c.give_up-in_default-come_home.new.out.items (slice_set i.actors.items c.args.strand c.give_up-in_default-come_home.new.actor) moved.desk moved.pool) (sym c.push_reserved.ensures.items)
    (subst (λ o. IsSound g.S.Stage.stands i.floor.net i.budget (i.journal.items ++ (record { strand = c.args.strand; stream = c.args.stream }) ∷ []) o (slice_set i.actors.items c.args.strand c.give_up-in_default-come_home.new.actor) moved.desk moved.pool) (sym out_is)
    (subst (λ (z : Actor g.row.S.Denot). IsSound g.S.Stage.stands i.floor.net i.budget (i.journal.items ++ (record { strand = c.args.strand; stream = c.args.stream }) ∷ []) (i.out.items ++ suc (length i.journal.items) ∷ []) (slice_set i.actors.items c.args.strand z) moved.desk moved.pool) (sym actor_is) gone)) in
    let moved_here = subst (λ n. IsSound g.S.Stage.stands n i.budget c.push_reserved.new.self.items c.give_up-in_default-come_home.new.out.items (slice_set i.actors.items c.args.strand c.give_up-in_default-come_home.new.actor) moved.desk moved.pool) (sym c.make.ensures.net) here in
    let lacks = c.in_default-come_home.ensures in
    (on_floor (λ n d p. IsSound g.S.Stage.stands n i.budget c.push_reserved.new.self.items c.give_up-in_default-come_home.new.out.items (slice_set i.actors.items c.args.strand c.give_up-in_default-come_home.new.actor) d p) moved c.come_home.new.self lacks.net lacks.err lacks.err_pool moved_here, search rules, search rules)

pub lawful_broken_home : goal.returns-in_default-come_home-clause-lawful
lawful_broken_home g c =
    let i = c.self.inside in
    let v : ◌≡◌ {A = Machine} (record { net = i.floor.net; budget = i.budget; journal = i.journal.items; out = i.out.items; is_broken = i.is_broken }) c.args.self.now = c.self.view_is in
    let may = subst (λ (z : Machine). licence_of z c.args.strand c.args.stream ≡ Some c.requires.least.1.0) (sym v) c.requires.least.1.1 in
    let space : length i.journal.items < i.budget = subst (λ (z : Machine). length z.journal < z.budget) (sym v) c.requires.space in
    let law = lawful_turned g.S.Stage.stands i.floor.net i.budget i.journal.items i.out.items i.actors.items i.floor.desk i.floor.pool c.self.invariant.0 c.args.strand c.args.stream c.requires.least.1.0 may space true in
    subst (λ n. IsLawful (record { net = n; budget = i.budget; journal = c.push_reserved.new.self.items; out = c.give_up-in_default-come_home.new.out.items; is_broken = true })) (sym (c.come_home.ensures.net ∙ c.make.ensures.net))
    (subst (λ j. IsLawful (record { net = i.floor.net; budget = i.budget; journal = j; out = c.give_up-in_default-come_home.new.out.items; is_broken = true })) (sym c.push_reserved.ensures.items)
    (record { legal = law.legal; within = law.within; bounded = law.bounded }))

pub lacks_broken : goal.returns-in_default-advance-clause-lacks
lacks_broken g c =
    let i = c.self.inside in
    let v : ◌≡◌ {A = Machine} (record { net = i.floor.net; budget = i.budget; journal = i.journal.items; out = i.out.items; is_broken = i.is_broken }) c.args.self.now = c.self.view_is in
    let e : Entry = record { strand = c.args.strand; stream = c.args.stream } in
    let place : c.len.result ≡ suc (length i.journal.items) = c.len.ensures ∙ ap length c.push_reserved.ensures.items ∙ length_more i.journal.items e in
    broke_so c.args.self.now e i.floor.net i.budget i.journal.items i.out.items i.is_broken v c.make.ensures.net c.push_reserved.ensures.items c.len.result place c.give_up.ensures.out

pub lacks_broken_home : goal.returns-in_default-come_home-clause-lacks
lacks_broken_home g c =
    let i = c.self.inside in
    let v : ◌≡◌ {A = Machine} (record { net = i.floor.net; budget = i.budget; journal = i.journal.items; out = i.out.items; is_broken = i.is_broken }) c.args.self.now = c.self.view_is in
    let e : Entry = record { strand = c.args.strand; stream = c.args.stream } in
    let place : c.len-in_default-come_home.result ≡ suc (length i.journal.items) = c.len-in_default-come_home.ensures ∙ ap length c.push_reserved.ensures.items ∙ length_more i.journal.items e in
    broke_so c.args.self.now e i.floor.net i.budget i.journal.items i.out.items i.is_broken v (c.come_home.ensures.net ∙ c.make.ensures.net) c.push_reserved.ensures.items c.len-in_default-come_home.result place c.give_up-in_default-come_home.ensures.out
