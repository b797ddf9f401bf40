use Rattle.std.proofs.Common.{◌≡◌, ◌<◌, ◌+◌, ◌%◌, ◌∷◌, [], ◌++◌, ◌∙◌, sym, ap, subst, rules, length}
use Rattle.std.specs.Prelude.{slice_get}
use Rattle.pipe_model.specs.Shape.{Outs, acts_of, at_hand_of}
use Rattle.stage_steps.specs.Waiting.{waiting_act}
use Rattle.fan_stages.proofs.Dealing.{dealt, may_wait, turn_after}
use Rattle.fan_stages.proofs.fan_out.DealsEachRecord.see.Goals as goal

pub returns-clause-sees : goal.returns-clause-sees
returns-clause-sees c = λ outs recs rec is room came.
    let x = c.args.self.now in
    let all = recs ++ rec ∷ [] in
    let size : c.len.result ≡ length x.outputs.items = (let l = c.len.ensures in search (rules, l)) in
    let waits = c.output_at-self.ensures ∙ ap (λ l. slice_get l x.turn) c.deref.ensures.value in (
      is.0,
      ap (λ (o : Outs). acts_of o all) is.0 ∙ dealt x.outputs.items x.turn recs rec is.3 (at_hand_of all) ∙ ap (λ w. waiting_act w (at_hand_of all)) (sym waits),
      may_wait _ recs rec,
      turn_after x.outputs.items x.turn recs rec is.3 c.next_turn-self.result (subst (λ n. x.turn < n → c.next_turn-self.result ≡ (x.turn + 1) % n) size c.next_turn-self.ensures),
    )
