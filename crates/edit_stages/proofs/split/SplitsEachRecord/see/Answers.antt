use Rattle.std.proofs.Common.{◌∷◌, [], ◌++◌, ◌∙◌, refl, sym, ap}
use Rattle.pipe_model.specs.Counts.{all_on}
use Rattle.pipe_model.specs.EditingRows.{runs}
use Rattle.pipe_model.specs.Shape.{Outs, acts_of, writes}
use Rattle.stage_steps.proofs.Walks.{at_hand}
use Rattle.edit_stages.proofs.split.SplitsEachRecord.see.Goals as goal

pub returns-clause-sees : goal.returns-clause-sees
returns-clause-sees c = λ outs recs rec is room came.
    let all = recs ++ rec ∷ [] in
    let held = c.in_ok-extend_from_slice.ensures.items ∙ ap (λ l. l ++ c.args.bytes.now) c.clear.ensures.items in (
      is.0,
      ap (λ (o : Outs). acts_of o all) is.0 ∙ ap (λ r. writes (all_on 0 (runs c.args.self.now.set r))) (at_hand recs rec ∙ sym (came refl) ∙ sym held),
    )
