use Rattle.std.proofs.Common.{◌≡◌, ◌<◌, ◌∷◌, sym, ◌∙◌, ap, subst}
use Rattle.pipe_model.specs.State.{past}
use Rattle.stage_steps.specs.Coroutine.{bytes_with}
use Rattle.core_machine.specs.Machine.{Machine, looks_at, state_of}
use Rattle.core_machine.proofs.Sounds.{sight_held, told_are}
use Rattle.core_machine.proofs.Plays.{who_looks}
use Rattle.core_machine.proofs.core_state.Core.bytes_seen.Goals as goal

pub bytes_told-requires : goal.bytes_told-requires
bytes_told-requires g c =
    let i = c.self.inside in
    let v : ◌≡◌ {A = Machine} (record { net = i.floor.net; budget = i.budget; journal = i.journal.items; out = i.out.items; is_broken = i.is_broken }) c.args.self.now = c.self.view_is in
    record {
      strand = λ yes. subst (λ n. c.args.strand < n) (sym c.self.invariant.0.run.kept.laid.seat_count)
          (who_looks i.floor.net c.args.strand (sym (c.requires ∙ ap (λ (z : Machine). looks_at z.net c.args.strand) (sym v)) ∙ yes));
      held = sight_held g.S.Stage.stands i.floor.net i.budget i.journal.items i.out.items i.actors.items i.floor.desk i.floor.pool c.self.invariant.0 c.args.strand;
    }

pub returns : goal.returns
returns g c =
    let i = c.self.inside in
    let v : ◌≡◌ {A = Machine} (record { net = i.floor.net; budget = i.budget; journal = i.journal.items; out = i.out.items; is_broken = i.is_broken }) c.args.self.now = c.self.view_is in
    λ e h past_is going is. c.bytes_told.ensures
    ∙ told_are g.S.Stage.stands i.floor.net i.budget i.journal.items i.out.items i.actors.items i.floor.desk i.floor.pool c.self.invariant.0 c.args.looks c.args.strand e h c.args.seen (subst (λ (z : Machine). past (state_of z) c.args.strand ≡ e ∷ h) (sym v) past_is) going is
    ∙ ap (λ b. bytes_with b e) c.requires
