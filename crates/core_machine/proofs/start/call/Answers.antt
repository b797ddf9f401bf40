use Rattle.std.proofs.Common.{◌≡◌, ◌<◌, ◌+◌, suc, length, slice_get, slice_set, sym, ◌∙◌, ap, subst, arith, refl}
use Rattle.pipe_model.specs.declared.net.Net.{Net}
use Rattle.run_desk.specs.Turns.{CanCome}
use Rattle.run_desk.specs.Telling as Telling
use Rattle.core_machine.specs.Actors.{asking_for}
use Rattle.core_machine.specs.Floor.{IsInUse, StaysEarly}
use Rattle.core_machine.specs.Start.{IsCalled}
use Rattle.core_machine.specs.Woken.{HasReturned}
use Rattle.core_machine.proofs.Sounds.{on_floor}
use Rattle.core_machine.proofs.Starts.{its_coroutine, can_call, called_in_use, called_live, called_early, called_come, called_next}
use Rattle.core_machine.proofs.start.call.Goals as goal

pub first_want-want-requires : goal.first_want-want-requires
first_want-want-requires g c =
    let there = its_coroutine g.S.Stage.stands c.args.floor.now.net c.requires.formed c.args.strand c.args.actors.now.items c.args.floor.now.desk c.args.floor.now.pool c.requires.called c.requires.within in
    (there.0, there.1, ap (λ l. slice_get l c.args.strand) c.deref.ensures.value ∙ there.2, there.3)

pub come_home-requires-clause-used : goal.come_home-requires-clause-used
come_home-requires-clause-used g c =
    let old = c.args.floor.now in
    let new = c.wake.new.self in
    let is = c.wake.ensures in
    on_floor (λ n d p. IsInUse n d) old new is.net is.desk is.pool (called_in_use g.S.Stage.stands c.args.floor.now.net c.requires.formed c.args.strand c.args.actors.now.items c.args.floor.now.desk c.args.floor.now.pool c.requires.called c.requires.within)

pub come_home-requires-clause-ended : goal.come_home-requires-clause-ended
come_home-requires-clause-ended g c =
    called_live g.S.Stage.stands c.args.floor.now.net c.requires.formed c.args.strand c.args.actors.now.items c.args.floor.now.desk c.args.floor.now.pool c.requires.called c.requires.within ∙ ap (λ d. Telling.ended_at d c.args.strand) (sym c.wake.ensures.desk)

pub come_home-requires-clause-can : goal.come_home-requires-clause-can
come_home-requires-clause-can g c =
    let old = c.args.floor.now in
    let new = c.wake.new.self in
    let is = c.wake.ensures in
    λ going. on_floor (λ n d p. CanCome d p c.args.strand c.first_want-want.result) old new is.net is.desk is.pool (can_call g.S.Stage.stands c.args.floor.now.net c.requires.formed c.args.strand c.args.actors.now.items c.args.floor.now.desk c.args.floor.now.pool c.requires.called c.requires.within c.first_want-want.result (λ a x at is. c.first_want-want.ensures a x (ap (λ l. slice_get l c.args.strand) c.deref.ensures.value ∙ at) is))

pub come_home-requires-clause-early : goal.come_home-requires-clause-early
come_home-requires-clause-early g c =
    let old = c.args.floor.now in
    let new = c.wake.new.self in
    let is = c.wake.ensures in
    λ going. on_floor (λ n d p. StaysEarly d p c.args.strand c.first_want-want.result) old new is.net is.desk is.pool (called_early g.S.Stage.stands c.args.floor.now.net c.requires.formed c.args.strand c.args.actors.now.items c.args.floor.now.desk c.args.floor.now.pool c.requires.called c.requires.within c.first_want-want.result (λ a x at is. c.first_want-want.ensures a x (ap (λ l. slice_get l c.args.strand) c.deref.ensures.value ∙ at) is))

pub come_home-requires-clause-strand : goal.come_home-requires-clause-strand
come_home-requires-clause-strand g c =
    subst (λ (n : Net). c.args.strand < length n.strands) (sym c.wake.ensures.net) c.requires.within

pub returns-clause-called : goal.returns-clause-called
returns-clause-called g c =
    let old = c.args.floor.now in
    let new = c.wake.new.self in
    let is = c.wake.ensures in
    let want = c.first_want-want.result in
    let back = c.come_home.new.self in
    let returned = on_floor (λ n d p. HasReturned d p c.args.strand want back.desk back.pool) new old (sym is.net) (sym is.desk) (sym is.pool) c.in_ok-come_home.ensures.home in
    let home = called_come g.S.Stage.stands c.args.floor.now.net c.requires.formed c.args.strand c.args.actors.now.items c.args.floor.now.desk c.args.floor.now.pool c.requires.called c.requires.within c.first_want-want.result (λ a x at is. c.first_want-want.ensures a x (ap (λ l. slice_get l c.args.strand) c.deref.ensures.value ∙ at) is) back.desk back.pool returned in
    let set = c.set_asked.ensures in
    let next' = called_next g.S.Stage.stands c.args.floor.now.net c.requires.formed c.args.strand c.args.actors.now.items c.args.floor.now.desk c.args.floor.now.pool c.requires.called c.requires.within c.first_want-want.result (λ a x at is. c.first_want-want.ensures a x (ap (λ l. slice_get l c.args.strand) c.deref.ensures.value ∙ at) is) back.desk back.pool set.0 set.1 home in
    let more : suc c.args.strand ≡ c.args.strand + 1 = omega arith in
    subst (λ s. IsCalled g.S.Stage.stands old.net s c.set_asked.new.actors.items back.desk back.pool) more
    (subst (λ l. IsCalled g.S.Stage.stands old.net (suc c.args.strand) l back.desk back.pool) (sym (set.2 ∙ ap (λ w. slice_set c.args.actors.now.items c.args.strand (asking_for w set.0)) (c.come_home.ensures.bare refl))) next')
