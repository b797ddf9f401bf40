use Rattle.std.proofs.Common.{◌≡◌, ◌<◌, ◌≤◌, ℕ, true, length, take, List, arith, sym, ◌∙◌, ap, subst, vec_capacity, slice_set}
use Rattle.pipe_model.specs.declared.net.Net.{Net}
use Rattle.run_desk.specs.Turns.{CanCome, bare}
use Rattle.run_desk.specs.Telling as Telling
use Rattle.core_machine.specs.declared.actor.Actor.{Actor}
use Rattle.core_machine.specs.Actors.{come_back, given_up, asking_for}
use Rattle.core_machine.specs.Floor.{IsInUse, StaysEarly}
use Rattle.core_machine.specs.Jobs.{HasGoneOn}
use Rattle.core_machine.specs.Machine.{Machine, without, is_among, came_home}
use Rattle.core_machine.specs.Sound.{IsSound}
use Rattle.core_machine.specs.Woken.{HasReturned}
use Rattle.core_machine.proofs.Sounds.{in_use, on_floor, place, actor_at, can_home, came_early, sound_out, sound_home}
use Rattle.core_machine.proofs.core_state.Core.come_home.Goals as goal

pub wake-requires : goal.wake-requires
wake-requires g c =
    let i = c.self.inside in
    let v : ◌≡◌ {A = Machine} (record { net = i.floor.net; budget = i.budget; journal = i.journal.items; out = i.out.items; is_broken = i.is_broken }) c.args.self.now = c.self.view_is in
    let among : is_among c.args.place i.out.items ≡ true = subst (λ (z : Machine). is_among c.args.place z.out ≡ true) (sym v) c.requires.among in
    let done : HasGoneOn g.S.Stage.stands i.floor.net (take c.args.place i.journal.items) c.args.strand c.args.place c.args.stage c.args.want =
    subst (λ (z : Machine). HasGoneOn g.S.Stage.stands z.net (take c.args.place z.journal) c.args.strand c.args.place c.args.stage c.args.want) (sym v) c.requires.stands in
    place g.S.Stage.stands i.floor.net i.budget i.journal.items i.out.items i.actors.items i.floor.desk i.floor.pool c.self.invariant.0 c.args.strand c.args.place c.args.stage c.args.want among done

pub index_mut-actor-requires : goal.index_mut-actor-requires
index_mut-actor-requires g c =
    let i = c.self.inside in
    let v : ◌≡◌ {A = Machine} (record { net = i.floor.net; budget = i.budget; journal = i.journal.items; out = i.out.items; is_broken = i.is_broken }) c.args.self.now = c.self.view_is in
    let among : is_among c.args.place i.out.items ≡ true = subst (λ (z : Machine). is_among c.args.place z.out ≡ true) (sym v) c.requires.among in
    let done : HasGoneOn g.S.Stage.stands i.floor.net (take c.args.place i.journal.items) c.args.strand c.args.place c.args.stage c.args.want =
    subst (λ (z : Machine). HasGoneOn g.S.Stage.stands z.net (take c.args.place z.journal) c.args.strand c.args.place c.args.stage c.args.want) (sym v) c.requires.stands in
    let here = place g.S.Stage.stands i.floor.net i.budget i.journal.items i.out.items i.actors.items i.floor.desk i.floor.pool c.self.invariant.0 c.args.strand c.args.place c.args.stage c.args.want among done in
    let count = c.self.invariant.0.strands.count in
    omega (arith, here, count, i.actors.ok.0)

pub come_home-requires-clause-used : goal.come_home-requires-clause-used
come_home-requires-clause-used g c =
    let i = c.self.inside in
    let old = i.floor in
    let new = c.wake.new.self in
    let is = c.wake.ensures in
    on_floor (λ n d p. IsInUse n d) old new is.net is.desk is.pool (in_use g.S.Stage.stands i.floor.net i.budget i.journal.items i.out.items i.actors.items i.floor.desk i.floor.pool c.self.invariant.0)

pub come_home-requires-clause-ended : goal.come_home-requires-clause-ended
come_home-requires-clause-ended g c =
    let i = c.self.inside in
    c.has_ended-has_ended.ensures ∙ ap (λ d. Telling.ended_at d c.args.strand) (sym c.wake.ensures.desk)

pub come_home-requires-clause-can : goal.come_home-requires-clause-can
come_home-requires-clause-can g c =
    let i = c.self.inside in
    let v : ◌≡◌ {A = Machine} (record { net = i.floor.net; budget = i.budget; journal = i.journal.items; out = i.out.items; is_broken = i.is_broken }) c.args.self.now = c.self.view_is in
    let among : is_among c.args.place i.out.items ≡ true = subst (λ (z : Machine). is_among c.args.place z.out ≡ true) (sym v) c.requires.among in
    let done : HasGoneOn g.S.Stage.stands i.floor.net (take c.args.place i.journal.items) c.args.strand c.args.place c.args.stage c.args.want =
    subst (λ (z : Machine). HasGoneOn g.S.Stage.stands z.net (take c.args.place z.journal) c.args.strand c.args.place c.args.stage c.args.want) (sym v) c.requires.stands in
    let old = i.floor in
    let new = c.wake.new.self in
    let is = c.wake.ensures in
    let asked_is : c.args.want ≡ c.take_back.new.actor.asked = sym (ap (λ (z : Actor g.row.S.Denot). z.asked) c.take_back.ensures) in
    λ going. subst (CanCome new.desk new.pool c.args.strand) asked_is (on_floor (λ n d p. CanCome d p c.args.strand c.args.want) old new is.net is.desk is.pool (can_home g.S.Stage.stands i.floor.net i.budget i.journal.items i.out.items i.actors.items i.floor.desk i.floor.pool c.self.invariant.0 c.args.strand c.args.place c.args.stage c.args.want among done (sym c.has_ended-has_ended.ensures ∙ going)))

pub come_home-requires-clause-early : goal.come_home-requires-clause-early
come_home-requires-clause-early g c =
    let i = c.self.inside in
    let v : ◌≡◌ {A = Machine} (record { net = i.floor.net; budget = i.budget; journal = i.journal.items; out = i.out.items; is_broken = i.is_broken }) c.args.self.now = c.self.view_is in
    let among : is_among c.args.place i.out.items ≡ true = subst (λ (z : Machine). is_among c.args.place z.out ≡ true) (sym v) c.requires.among in
    let done : HasGoneOn g.S.Stage.stands i.floor.net (take c.args.place i.journal.items) c.args.strand c.args.place c.args.stage c.args.want =
    subst (λ (z : Machine). HasGoneOn g.S.Stage.stands z.net (take c.args.place z.journal) c.args.strand c.args.place c.args.stage c.args.want) (sym v) c.requires.stands in
    let old = i.floor in
    let new = c.wake.new.self in
    let is = c.wake.ensures in
    let asked_is : c.args.want ≡ c.take_back.new.actor.asked = sym (ap (λ (z : Actor g.row.S.Denot). z.asked) c.take_back.ensures) in
    λ going. subst (StaysEarly new.desk new.pool c.args.strand) asked_is (on_floor (λ n d p. StaysEarly d p c.args.strand c.args.want) old new is.net is.desk is.pool (came_early g.S.Stage.stands i.floor.net i.budget i.journal.items i.out.items i.actors.items i.floor.desk i.floor.pool c.self.invariant.0 c.args.strand c.args.place c.args.stage c.args.want among done (sym c.has_ended-has_ended.ensures ∙ going)))

pub come_home-requires-clause-strand : goal.come_home-requires-clause-strand
come_home-requires-clause-strand g c =
    let i = c.self.inside in
    let v : ◌≡◌ {A = Machine} (record { net = i.floor.net; budget = i.budget; journal = i.journal.items; out = i.out.items; is_broken = i.is_broken }) c.args.self.now = c.self.view_is in
    let among : is_among c.args.place i.out.items ≡ true = subst (λ (z : Machine). is_among c.args.place z.out ≡ true) (sym v) c.requires.among in
    let done : HasGoneOn g.S.Stage.stands i.floor.net (take c.args.place i.journal.items) c.args.strand c.args.place c.args.stage c.args.want =
    subst (λ (z : Machine). HasGoneOn g.S.Stage.stands z.net (take c.args.place z.journal) c.args.strand c.args.place c.args.stage c.args.want) (sym v) c.requires.stands in
    subst (λ (n : Net). c.args.strand < length n.strands) (sym c.wake.ensures.net) (place g.S.Stage.stands i.floor.net i.budget i.journal.items i.out.items i.actors.items i.floor.desk i.floor.pool c.self.invariant.0 c.args.strand c.args.place c.args.stage c.args.want among done)

pub invariant_of-self : goal.invariant_of-self
invariant_of-self g c =
    let i = c.self.inside in
    let v : ◌≡◌ {A = Machine} (record { net = i.floor.net; budget = i.budget; journal = i.journal.items; out = i.out.items; is_broken = i.is_broken }) c.args.self.now = c.self.view_is in
    let among : is_among c.args.place i.out.items ≡ true = subst (λ (z : Machine). is_among c.args.place z.out ≡ true) (sym v) c.requires.among in
    let done : HasGoneOn g.S.Stage.stands i.floor.net (take c.args.place i.journal.items) c.args.strand c.args.place c.args.stage c.args.want =
    subst (λ (z : Machine). HasGoneOn g.S.Stage.stands z.net (take c.args.place z.journal) c.args.strand c.args.place c.args.stage c.args.want) (sym v) c.requires.stands in
    let old = i.floor in
    let woken = c.wake.ensures in
    let same = c.in_default.ensures in
    let net = c.come_home.ensures.net ∙ woken.net in
    let a = c.index_mut-actor.result.now in
    let at = actor_at g.S.Stage.stands i.floor.net i.budget i.journal.items i.out.items i.actors.items i.floor.desk i.floor.pool c.self.invariant.0 c.args.strand a (place g.S.Stage.stands i.floor.net i.budget i.journal.items i.out.items i.actors.items i.floor.desk i.floor.pool c.self.invariant.0 c.args.strand c.args.place c.args.stage c.args.want among done) c.index_mut-actor.ensures.value in
    let b = c.stay_out.new.actor in
    let b_is : b ≡ given_up (asking_for c.come_home.new.want (come_back c.args.stage c.args.want c.args.passes a)) = c.stay_out.ensures ∙ ap (λ (z : Actor g.row.S.Denot). given_up (asking_for c.come_home.new.want z)) c.take_back.ensures in
    let sound = sound_out g.S.Stage.stands i.floor.net i.budget i.journal.items i.out.items i.actors.items i.floor.desk i.floor.pool c.self.invariant.0 c.args.strand c.args.place c.args.stage c.args.want among done a b at (ap (λ (z : Actor g.row.S.Denot). z.stage) b_is) (ap (λ (z : Actor g.row.S.Denot). z.looks) b_is) (ap (λ (z : Actor g.row.S.Denot). z.saw_end) b_is) in (
      on_floor (λ n d p. IsSound g.S.Stage.stands n i.budget i.journal.items i.out.items (slice_set i.actors.items c.args.strand b) d p) old c.come_home.new.self net (same.err ∙ woken.desk) (same.err_pool ∙ woken.pool) sound,
      c.self.invariant.1,
      subst (λ (n : Net). length n.strands ≤ vec_capacity i.out) (sym net) c.self.invariant.2,
    )

pub returns-in_default-clause-err : goal.returns-in_default-clause-err
returns-in_default-clause-err g c =
    let i = c.self.inside in
    let v : ◌≡◌ {A = Machine} (record { net = i.floor.net; budget = i.budget; journal = i.journal.items; out = i.out.items; is_broken = i.is_broken }) c.args.self.now = c.self.view_is in
    let M : Net → Machine = λ n. record { net = n; budget = i.budget; journal = i.journal.items; out = i.out.items; is_broken = i.is_broken } in
    ap M (c.come_home.ensures.net ∙ c.wake.ensures.net) ∙ v

pub invariant_of-self-2 : goal.invariant_of-self-2
invariant_of-self-2 g c =
    let i = c.self.inside in
    let v : ◌≡◌ {A = Machine} (record { net = i.floor.net; budget = i.budget; journal = i.journal.items; out = i.out.items; is_broken = i.is_broken }) c.args.self.now = c.self.view_is in
    let among : is_among c.args.place i.out.items ≡ true = subst (λ (z : Machine). is_among c.args.place z.out ≡ true) (sym v) c.requires.among in
    let done : HasGoneOn g.S.Stage.stands i.floor.net (take c.args.place i.journal.items) c.args.strand c.args.place c.args.stage c.args.want =
    subst (λ (z : Machine). HasGoneOn g.S.Stage.stands z.net (take c.args.place z.journal) c.args.strand c.args.place c.args.stage c.args.want) (sym v) c.requires.stands in
    let old = i.floor in
    let new = c.wake.new.self in
    let is = c.wake.ensures in
    let back = c.come_home.new.self in
    let net = c.come_home.ensures.net ∙ is.net in
    let a = c.index_mut-actor.result.now in
    let at = actor_at g.S.Stage.stands i.floor.net i.budget i.journal.items i.out.items i.actors.items i.floor.desk i.floor.pool c.self.invariant.0 c.args.strand a (place g.S.Stage.stands i.floor.net i.budget i.journal.items i.out.items i.actors.items i.floor.desk i.floor.pool c.self.invariant.0 c.args.strand c.args.place c.args.stage c.args.want among done) c.index_mut-actor.ensures.value in
    let asked_is : c.args.want ≡ c.take_back.new.actor.asked = sym (ap (λ (z : Actor g.row.S.Denot). z.asked) c.take_back.ensures) in
    let home = on_floor (λ n d p. HasReturned d p c.args.strand c.args.want back.desk back.pool) new old (sym is.net) (sym is.desk) (sym is.pool) (subst (λ w. HasReturned new.desk new.pool c.args.strand w back.desk back.pool) (sym asked_is) c.in-Ok.ensures.home) in
    let sound = sound_home g.S.Stage.stands i.floor.net i.budget i.journal.items i.out.items i.actors.items i.floor.desk i.floor.pool c.self.invariant.0 c.args.strand c.args.place c.args.stage c.args.want among done back.desk back.pool a at home c.come_home.new.want (λ no. c.come_home.ensures.bare (c.has_ended-has_ended.ensures ∙ no) ∙ ap bare (sym asked_is)) c.args.passes c.requires.passes in
    let kept : IsSound g.S.Stage.stands i.floor.net i.budget i.journal.items (without c.args.place i.out.items) (slice_set i.actors.items c.args.strand (asking_for c.come_home.new.want c.take_back.new.actor)) back.desk back.pool =
    subst (λ (z : Actor g.row.S.Denot). IsSound g.S.Stage.stands i.floor.net i.budget i.journal.items (without c.args.place i.out.items) (slice_set i.actors.items c.args.strand (asking_for c.come_home.new.want z)) back.desk back.pool) (sym c.take_back.ensures) sound in (
      subst (λ n. IsSound g.S.Stage.stands n i.budget i.journal.items c.remove.new.out.items (slice_set i.actors.items c.args.strand (asking_for c.come_home.new.want c.take_back.new.actor)) back.desk back.pool) (sym net)
          (subst (λ o. IsSound g.S.Stage.stands i.floor.net i.budget i.journal.items o (slice_set i.actors.items c.args.strand (asking_for c.come_home.new.want c.take_back.new.actor)) back.desk back.pool) (sym c.remove.ensures.items) kept),
      c.self.invariant.1,
      subst (λ (n : Net). length n.strands ≤ vec_capacity c.remove.new.out) (sym net) (subst (λ n. length i.floor.net.strands ≤ n) (sym c.remove.ensures.capacity) c.self.invariant.2),
    )

pub returns-clause-home : goal.returns-clause-home
returns-clause-home g c =
    let i = c.self.inside in
    let v : ◌≡◌ {A = Machine} (record { net = i.floor.net; budget = i.budget; journal = i.journal.items; out = i.out.items; is_broken = i.is_broken }) c.args.self.now = c.self.view_is in
    let M : Net → List ℕ → Machine = λ n o. record { net = n; budget = i.budget; journal = i.journal.items; out = o; is_broken = i.is_broken } in
    subst (λ (z : Machine). ◌≡◌ {A = Machine} (M c.come_home.new.self.net c.remove.new.out.items) (came_home z c.args.place)) v
    (ap (λ n. M n c.remove.new.out.items) (c.come_home.ensures.net ∙ c.wake.ensures.net) ∙ ap (M i.floor.net) c.remove.ensures.items)
