use Rattle.std.proofs.Common.{rules, ◌≡◌, ◌<◌, ℕ, suc, Some, length, List, ◌∷◌, ◌++◌, [], slice_set, refl, sym, ◌∙◌, ap, subst}
use Rattle.pipe_model.specs.declared.net.Net.{Net}
use Rattle.pipe_model.specs.declared.step.Entry.{Entry}
use Rattle.pipe_model.proofs.Lists.{length_more}
use Rattle.core_machine.specs.Actors.{gone_out}
use Rattle.core_machine.specs.Machine.{Machine, licence_of, turned}
use Rattle.core_machine.specs.Jobs.{JobStands}
use Rattle.core_machine.specs.Sound.{IsSound}
use Rattle.core_machine.proofs.Sounds.{out_room, its_stage, can_make, sound_turned, job_turned}
use Rattle.core_machine.proofs.core_state.Core.go_out.Goals as goal

pub send_out-stage-requires : goal.send_out-stage-requires
send_out-stage-requires g c =
    let i = c.self.inside in
    let v : ◌≡◌ {A = Machine} (record { net = i.floor.net; budget = i.budget; journal = i.journal.items; out = i.out.items; is_broken = i.is_broken }) c.args.self.now = c.self.view_is in
    let may = subst (λ (z : Machine). licence_of z c.args.strand c.args.stream ≡ Some c.requires.may.0) (sym v) c.requires.may.1 in
    its_stage g.S.Stage.stands i.floor.net i.budget i.journal.items i.out.items i.actors.items i.floor.desk i.floor.pool c.self.invariant.0 c.args.strand c.args.stream c.requires.may.0 may

pub make-requires : goal.make-requires
make-requires g c =
    let i = c.self.inside in
    let v : ◌≡◌ {A = Machine} (record { net = i.floor.net; budget = i.budget; journal = i.journal.items; out = i.out.items; is_broken = i.is_broken }) c.args.self.now = c.self.view_is in
    let may = subst (λ (z : Machine). licence_of z c.args.strand c.args.stream ≡ Some c.requires.may.0) (sym v) c.requires.may.1 in
    can_make g.S.Stage.stands i.floor.net i.budget i.journal.items i.out.items i.actors.items i.floor.desk i.floor.pool c.self.invariant.0 c.args.strand c.args.stream c.requires.may.0 may c.args.seen c.requires.may.2

pub push_reserved-requires-2 : goal.push_reserved-requires-2
push_reserved-requires-2 g c =
    let i = c.self.inside in
    let v : ◌≡◌ {A = Machine} (record { net = i.floor.net; budget = i.budget; journal = i.journal.items; out = i.out.items; is_broken = i.is_broken }) c.args.self.now = c.self.view_is in
    let may = subst (λ (z : Machine). licence_of z c.args.strand c.args.stream ≡ Some c.requires.may.0) (sym v) c.requires.may.1 in
    let a = out_room g.S.Stage.stands i.floor.net i.budget i.journal.items i.out.items i.actors.items i.floor.desk i.floor.pool c.self.invariant.0 c.args.strand c.args.stream c.requires.may.0 may in
    let b = c.self.invariant.2 in
    search (rules, a, b)

pub invariant_of-self : goal.invariant_of-self
invariant_of-self g c =
    let i = c.self.inside in
    let v : ◌≡◌ {A = Machine} (record { net = i.floor.net; budget = i.budget; journal = i.journal.items; out = i.out.items; is_broken = i.is_broken }) c.args.self.now = c.self.view_is in
    let may = subst (λ (z : Machine). licence_of z c.args.strand c.args.stream ≡ Some c.requires.may.0) (sym v) c.requires.may.1 in
    let space : length i.journal.items < i.budget = subst (λ (z : Machine). length z.journal < z.budget) (sym v) c.requires.space in
    let out = c.send_out-stage.ensures in
    let sound = sound_turned g.S.Stage.stands i.floor.net i.budget i.journal.items i.out.items i.actors.items i.floor.desk i.floor.pool c.self.invariant.0 c.args.strand c.args.stream c.requires.may.0 may out.0 c.send_out-stage.result out.1 out.2 c.args.seen c.requires.may.2 (gone_out c.args.seen out.0) refl refl refl space c.make.new.self.desk c.make.new.self.pool c.make.ensures.desk c.make.ensures.pool in
    let new = c.make.new.self in
    let place : c.len-place.result ≡ suc (length i.journal.items) = c.len-place.ensures ∙ ap length c.push_reserved.ensures.items ∙ length_more i.journal.items (record { strand = c.args.strand; stream = c.args.stream }) in
    let out_is = c.push_reserved-2.ensures.items ∙ ap (λ p. i.out.items ++ p ∷ []) place in
    let actors = slice_set i.actors.items c.args.strand (gone_out c.args.seen out.0) in (
      subst (λ n. IsSound g.S.Stage.stands n i.budget c.push_reserved.new.self.items c.push_reserved-2.new.self.items c.send_out-stage.new.actors.items new.desk new.pool) (sym c.make.ensures.net)
          (subst (λ z. IsSound g.S.Stage.stands i.floor.net i.budget c.push_reserved.new.self.items c.push_reserved-2.new.self.items z new.desk new.pool) (sym out.3)
          (subst (λ j. IsSound g.S.Stage.stands i.floor.net i.budget j c.push_reserved-2.new.self.items actors new.desk new.pool) (sym c.push_reserved.ensures.items)
          (subst (λ o. IsSound g.S.Stage.stands i.floor.net i.budget (i.journal.items ++ (record { strand = c.args.strand; stream = c.args.stream }) ∷ []) o actors new.desk new.pool) (sym out_is) sound))),
      search rules,
      search rules,
    )

pub returns-clause-job : goal.returns-clause-job
returns-clause-job g c =
    let i = c.self.inside in
    let v : ◌≡◌ {A = Machine} (record { net = i.floor.net; budget = i.budget; journal = i.journal.items; out = i.out.items; is_broken = i.is_broken }) c.args.self.now = c.self.view_is in
    let may = subst (λ (z : Machine). licence_of z c.args.strand c.args.stream ≡ Some c.requires.may.0) (sym v) c.requires.may.1 in
    let space : length i.journal.items < i.budget = subst (λ (z : Machine). length z.journal < z.budget) (sym v) c.requires.space in
    let out = c.send_out-stage.ensures in
    let job = job_turned g.S.Stage.stands i.floor.net i.budget i.journal.items i.out.items i.actors.items i.floor.desk i.floor.pool c.self.invariant.0 c.args.strand c.args.stream c.requires.may.0 may out.0 c.send_out-stage.result out.1 out.2 c.args.seen c.requires.may.2 (gone_out c.args.seen out.0) refl refl refl space c.make.new.self.desk c.make.new.self.pool c.make.ensures.desk c.make.ensures.pool in
    let place : c.len-place.result ≡ suc (length i.journal.items) = c.len-place.ensures ∙ ap length c.push_reserved.ensures.items ∙ length_more i.journal.items (record { strand = c.args.strand; stream = c.args.stream }) in
    let Stands : List Entry → ℕ → Type 0 = λ j p. JobStands g.S.Stage.stands c.make.new.self.net j (record { strand = c.args.strand; place = p; seen = c.args.seen; stage = c.send_out-stage.result }) in
    subst (λ j. Stands j c.len-place.result) (sym c.push_reserved.ensures.items)
    (subst (λ p. Stands (i.journal.items ++ (record { strand = c.args.strand; stream = c.args.stream }) ∷ []) p) (sym place)
    (subst (λ n. JobStands g.S.Stage.stands n (i.journal.items ++ (record { strand = c.args.strand; stream = c.args.stream }) ∷ []) (record { strand = c.args.strand; place = suc (length i.journal.items); seen = c.args.seen; stage = c.send_out-stage.result })) (sym c.make.ensures.net) job))

pub returns-clause-after : goal.returns-clause-after
returns-clause-after g c =
    let i = c.self.inside in
    let v : ◌≡◌ {A = Machine} (record { net = i.floor.net; budget = i.budget; journal = i.journal.items; out = i.out.items; is_broken = i.is_broken }) c.args.self.now = c.self.view_is in
    let place : c.len-place.result ≡ suc (length i.journal.items) = c.len-place.ensures ∙ ap length c.push_reserved.ensures.items ∙ length_more i.journal.items (record { strand = c.args.strand; stream = c.args.stream }) in
    let M : Net → List Entry → List ℕ → Machine = λ n j o. record { net = n; budget = i.budget; journal = j; out = o; is_broken = i.is_broken } in
    let same : ◌≡◌ {A = Machine} (M c.make.new.self.net c.push_reserved.new.self.items c.push_reserved-2.new.self.items) (turned (M i.floor.net i.journal.items i.out.items) (record { strand = c.args.strand; stream = c.args.stream })) =
    ap (λ n. M n c.push_reserved.new.self.items c.push_reserved-2.new.self.items) c.make.ensures.net
    ∙ ap (λ j. M i.floor.net j c.push_reserved-2.new.self.items) c.push_reserved.ensures.items
    ∙ ap (M i.floor.net (i.journal.items ++ (record { strand = c.args.strand; stream = c.args.stream }) ∷ [])) (c.push_reserved-2.ensures.items ∙ ap (λ p. i.out.items ++ p ∷ []) place) in
    subst (λ (z : Machine). ◌≡◌ {A = Machine} (M c.make.new.self.net c.push_reserved.new.self.items c.push_reserved-2.new.self.items) (turned z (record { strand = c.args.strand; stream = c.args.stream }))) v same
