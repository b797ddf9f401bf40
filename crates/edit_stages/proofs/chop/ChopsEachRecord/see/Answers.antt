use Rattle.std.proofs.Common.{◌∷◌, [], ◌++◌, ◌∙◌, ◌≤◌, length, drop, take, refl, sym, ap, arith, length-append}
use Rattle.std.proofs.lemmas.List.{take_all, drop_all}
use Rattle.pipe_model.specs.Row.Act.{Writes}
use Rattle.pipe_model.specs.Shape.{Outs, acts_of, at_hand_of}
use Rattle.stage_steps.proofs.Walks.{at_hand}
use Rattle.edit_stages.proofs.chop.ChopsEachRecord.see.Goals as goal

-- the front of a record that isn't longer is the record, and no byte is behind it
pub returns-then-bytes-self-clause-sees : goal.returns-then-bytes-self-clause-sees
returns-then-bytes-self-clause-sees c = λ outs recs rec is room came.
    let all = recs ++ rec ∷ [] in
    let n = c.args.self.now.width in
    let bytes = c.args.bytes.now in
    let here = at_hand recs rec ∙ sym (came refl) in
    let within : length bytes ≤ n = omega (arith, c.if-bytes-self.true) in
    let no_rest = drop_all n bytes within ∙ sym (drop_all n [] (omega arith)) in (
      is.0,
      ap (λ (o : Outs). acts_of o all) is.0 ∙ ap (λ r. Writes 0 (take n r) ∷ Writes 1 (drop n r) ∷ []) here
          ∙ ap (λ r. Writes 0 r ∷ Writes 1 (drop n bytes) ∷ []) (take_all n bytes within ∙ sym here) ∙ ap (λ r. Writes 0 (at_hand_of all) ∷ Writes 1 r ∷ []) (no_rest ∙ ap (drop n) (sym c.clear.ensures.items)),
      omega (arith, length-append recs (rec ∷ [])),
    )

-- the two parts of a longer one
pub returns-in_ok-extend_from_slice-clause-sees : goal.returns-in_ok-extend_from_slice-clause-sees
returns-in_ok-extend_from_slice-clause-sees c = λ outs recs rec is room came.
    let all = recs ++ rec ∷ [] in
    let n = c.args.self.now.width in
    let bytes = c.args.bytes.now in
    let held = c.in_ok-extend_from_slice.ensures.items ∙ ap (λ l. l ++ bytes) c.clear.ensures.items in (
      is.0,
      ap (λ (o : Outs). acts_of o all) is.0 ∙ ap (λ r. Writes 0 (take n r) ∷ Writes 1 (drop n r) ∷ []) (at_hand recs rec ∙ sym (came refl) ∙ sym held),
      cc,
    )
