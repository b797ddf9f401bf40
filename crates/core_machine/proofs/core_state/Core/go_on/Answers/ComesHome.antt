-- The strand came home: the core is sound after it, and what it did is all that happened.
use Rattle.std.proofs.Common.{◌≡◌, ◌<◌, ◌&&◌, not, false, Some, [], ◌∷◌, ◌++◌, length, slice_get, slice_set, is_some, sym, ◌∙◌, ap, subst}
use Rattle.pipe_model.proofs.Truths.{neither}
use Rattle.run_desk.specs.Turns.{bare, ends, sees}
use Rattle.run_desk.specs.Telling as Telling
use Rattle.core_machine.specs.declared.actor.Actor.{Actor}
use Rattle.core_machine.specs.Actors.{gone_on, asking_for, bytes_told}
use Rattle.core_machine.specs.Ahead.{HasGoneQuietly}
use Rattle.core_machine.specs.Answered.{LeastEvent}
use Rattle.core_machine.specs.Machine.{Machine, licence_of}
use Rattle.core_machine.specs.Sound.{IsSound}
use Rattle.core_machine.specs.Woken.{HasReturned, may_settle}
use Rattle.core_machine.proofs.GoesOn.{home_ended, went_home, gone_quietly}
use Rattle.core_machine.proofs.Sounds.{actor_at, its_looks, in_range, event_back}
use Rattle.core_machine.proofs.core_state.Core.go_on.Given.{Over}
use Rattle.core_machine.proofs.core_state.Core.go_on.Goals.{In-Ok-come_home}

-- the core, and where nothing was settled for many, how the strand went
pub came : (g : Over) (c : In-Ok-come_home g) →
    IsSound g.S.Stage.stands c.come_home.new.self.net c.self.inside.budget c.push_reserved.new.self.items c.self.inside.out.items
    (slice_set c.self.inside.actors.items c.args.strand (asking_for c.come_home.new.want c.advance.new.actor)) c.come_home.new.self.desk c.come_home.new.self.pool
    × (may_settle c.self.inside.floor.desk c.args.strand c.args.seen ≡ false →
    HasGoneQuietly c.come_home.new.self.net c.self.inside.floor.desk c.self.inside.floor.pool c.args.strand c.args.stream c.args.seen c.in-Ok.ensures.2 c.come_home.new.self.desk c.come_home.new.self.pool
    × (c.come_home.new.want ≡ bare c.in-Ok.ensures.2))
came g c =
    let i = c.self.inside in
    let v : ◌≡◌ {A = Machine} (record { net = i.floor.net; budget = i.budget; journal = i.journal.items; out = i.out.items; is_broken = i.is_broken }) c.args.self.now = c.self.view_is in
    let may = subst (λ (z : Machine). licence_of z c.args.strand c.args.stream ≡ Some c.requires.least.1.0) (sym v) c.requires.least.1.1 in
    let space : length i.journal.items < i.budget = subst (λ (z : Machine). length z.journal < z.budget) (sym v) c.requires.space in
    let a = c.index_mut-actor.result.now in
    let at = actor_at g.S.Stage.stands i.floor.net i.budget i.journal.items i.out.items i.actors.items i.floor.desk i.floor.pool c.self.invariant.0 c.args.strand a (in_range g.S.Stage.stands i.floor.net i.budget i.journal.items i.out.items i.actors.items i.floor.desk i.floor.pool c.self.invariant.0 c.args.strand c.args.stream c.requires.least.1.0 may) c.index_mut-actor.ensures.value in
    let moved = c.make.new.self in
    let bytes_is = c.bytes_told-bytes.ensures ∙ ap (λ b. bytes_told b moved.desk moved.pool c.args.strand c.args.seen) (its_looks g.S.Stage.stands i.floor.net i.budget i.journal.items i.out.items i.actors.items i.floor.desk i.floor.pool c.self.invariant.0 c.args.strand a at) in
    let on = c.in-Ok.ensures in
    let asked_is : on.2 ≡ c.advance.new.actor.asked = sym (ap (λ (z : Actor g.row.S.Denot). z.asked) on.5) in
    let ended_is : c.ends.result ≡ Telling.ended_at moved.desk c.args.strand = c.ends.ensures ∙ home_ended g.S.Stage.stands i.floor.net i.budget i.journal.items i.out.items i.actors.items i.floor.desk i.floor.pool c.self.invariant.0 c.args.strand c.args.stream c.requires.least.1.0 may a on.0 at on.4 c.args.seen c.requires.least.1.2 space moved.desk moved.pool c.make.ensures.desk c.make.ensures.pool on.1 on.2 on.3 c.bytes_told-bytes.result.now bytes_is on.6.0 in
    let net = c.come_home.ensures.net ∙ c.make.ensures.net in
    let now : slice_set i.actors.items c.args.strand (asking_for c.come_home.new.want c.advance.new.actor) ≡ slice_set i.actors.items c.args.strand (gone_on c.args.seen on.1 c.come_home.new.want on.3 a) =
    ap (λ (z : Actor g.row.S.Denot). slice_set i.actors.items c.args.strand (asking_for c.come_home.new.want z)) on.5 in
    let back = c.come_home.new.self in
    let home = subst (λ w. HasReturned moved.desk moved.pool c.args.strand w back.desk back.pool) (sym asked_is) c.in-Ok-come_home.ensures.home in
    let bared : Telling.ended_at moved.desk c.args.strand ≡ false → c.come_home.new.want ≡ bare on.2 = λ going. c.come_home.ensures.bare (ended_is ∙ going) ∙ ap bare (sym asked_is) in
    let sound = went_home g.S.Stage.stands i.floor.net i.budget i.journal.items i.out.items i.actors.items i.floor.desk i.floor.pool c.self.invariant.0 c.args.strand c.args.stream c.requires.least.1.0 may a on.0 at on.4 c.args.seen c.requires.least.1.2 space moved.desk moved.pool c.make.ensures.desk c.make.ensures.pool on.1 on.2 on.3 c.bytes_told-bytes.result.now bytes_is on.6.0 c.come_home.new.want on.6.1 bared back.desk back.pool home in
    let least = subst (λ (z : Machine). LeastEvent z (Some (c.args.strand, c.args.stream, c.args.seen))) (sym v) c.requires.least in
    let awake = event_back g.S.Stage.stands i.floor.net i.budget i.journal.items i.out.items i.actors.items i.floor.desk i.floor.pool c.self.invariant.0 i.is_broken (c.args.strand, c.args.stream, c.args.seen) least in (
      subst (λ n. IsSound g.S.Stage.stands n i.budget c.push_reserved.new.self.items i.out.items (slice_set i.actors.items c.args.strand (asking_for c.come_home.new.want c.advance.new.actor)) back.desk back.pool) (sym net)
          (subst (λ j. IsSound g.S.Stage.stands i.floor.net i.budget j i.out.items (slice_set i.actors.items c.args.strand (asking_for c.come_home.new.want c.advance.new.actor)) back.desk back.pool) (sym c.push_reserved.ensures.items)
          (subst (λ z. IsSound g.S.Stage.stands i.floor.net i.budget (i.journal.items ++ (record { strand = c.args.strand; stream = c.args.stream }) ∷ []) i.out.items z back.desk back.pool) (sym now) sound)),
      λ quiet.
          let no_end : ends c.args.seen ≡ false = (neither (ends c.args.seen) (sees c.args.seen && not (is_some (Telling.primed_of (slice_get i.floor.desk.seats c.args.strand)))) quiet).0 in (
            subst (λ n. HasGoneQuietly n i.floor.desk i.floor.pool c.args.strand c.args.stream c.args.seen on.2 back.desk back.pool) (sym net) (gone_quietly g.S.Stage.stands i.floor.net i.budget i.journal.items i.out.items i.actors.items i.floor.desk i.floor.pool c.self.invariant.0 c.args.strand c.args.stream c.requires.least.1.0 may a on.0 at on.4 c.args.seen c.requires.least.1.2 space moved.desk moved.pool c.make.ensures.desk c.make.ensures.pool on.1 on.2 on.3 c.bytes_told-bytes.result.now bytes_is on.6.0 awake quiet back.desk back.pool home),
            bared (sym ended_is ∙ c.ends.ensures ∙ no_end),
          ),
    )
