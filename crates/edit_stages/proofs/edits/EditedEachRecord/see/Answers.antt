use Rattle.std.proofs.Common.{◌∷◌, [], ◌++◌, ◌∙◌, refl, sym, ap, arith, length-append, unwrap_or}
use Rattle.pipe_model.specs.Row.Act.{Writes}
use Rattle.pipe_model.specs.Shape.{Outs, acts_of}
use Rattle.stage_steps.proofs.Walks.{at_hand}
use Rattle.edit_stages.proofs.edits.EditedEachRecord.see.Goals as goal

pub returns-clause-sees : goal.returns-clause-sees
returns-clause-sees g c = λ t recs rec is room came.
    let all = recs ++ rec ∷ [] in
    let made = g.E.Edits.made c.args.self.now.edits in
    let new = c.in_ok-self.field-0 in
    let here = at_hand recs rec ∙ sym (came refl) in (
      is.0,
      ap (λ (outs : Outs). acts_of outs all) is.0 ∙ ap (λ r. Writes 0 (made r) ∷ []) here ∙ ap (λ r. Writes 0 r ∷ []) (sym c.in_ok-self.ensures) ∙ ap (λ r. Writes 0 (unwrap_or new r) ∷ []) (sym here),
      λ due. omega (arith, length-append recs (rec ∷ [])),
    )
