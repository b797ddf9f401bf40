use Rattle.std.proofs.Common.{◌≡◌, ◌+◌, ◌∷◌, [], ◌++◌, ◌∙◌, true, false, length, refl, sym, ap, arith, length-append}
use Rattle.edit_stages.specs.Groups.{left_over, is_full, in_one}
use Rattle.edit_stages.proofs.Grouping.{few_left, group_ends, group_grows, full_acts, no_acts}
use Rattle.edit_stages.proofs.join.JoinsLists.see.Goals as goal

pub returns-in_ok-self-clause-sees : goal.returns-in_ok-self-clause-sees
returns-in_ok-self-clause-sees c = λ t recs rec is room came.
    let x = c.args.self.now in
    let left = left_over x.more recs in
    let held = is.1 refl in
    let count : c.saturating_add-self.result ≡ length left + 1 = omega (arith, held.0, room, few_left x.more recs, c.saturating_add-self.ensures) in
    let full : is_full x.more (length left + 1) ≡ true = ap (is_full x.more) (sym count) ∙ sym c.is_full.ensures ∙ c.if-is_full.true in
    let ends = group_ends recs rec x.more full in
    let grew = c.in_ok-add.ensures left held.0 (held.1 ∙ ap (λ s. in_one s left) (sym c.bytes.ensures)) in
    let new : c.in_ok-self.field-0 ≡ in_one x.between (left ++ rec ∷ []) = c.in_ok-self.ensures ∙ c.deref.ensures.value ∙ grew ∙ ap (λ s. in_one s (left ++ c.args.bytes.now ∷ [])) c.bytes.ensures ∙ ap (λ r. in_one x.between (left ++ r ∷ [])) (came refl) in (
      is.0,
      λ going. (sym (ap length ends.1), c.clear.ensures.items ∙ sym (ap (in_one x.between) ends.1)),
      full_acts x.more x.between recs rec t is.0 full c.in_ok-self.field-0 new,
    )

pub returns-else-is_full-clause-sees : goal.returns-else-is_full-clause-sees
returns-else-is_full-clause-sees c = λ t recs rec is room came.
    let x = c.args.self.now in
    let left = left_over x.more recs in
    let held = is.1 refl in
    let count : c.saturating_add-self.result ≡ length left + 1 = omega (arith, held.0, room, few_left x.more recs, c.saturating_add-self.ensures) in
    let full : is_full x.more (length left + 1) ≡ false = ap (is_full x.more) (sym count) ∙ sym c.is_full.ensures ∙ c.if-is_full.false in
    let grows = group_grows recs rec x.more full in
    let grew = c.in_ok-add.ensures left held.0 (held.1 ∙ ap (λ s. in_one s left) (sym c.bytes.ensures)) in
    let more : length (left ++ rec ∷ []) ≡ length left + 1 = length-append left (rec ∷ []) in (
      is.0,
      λ going. (
        count ∙ sym more ∙ sym (ap length grows.1),
        grew ∙ ap (λ s. in_one s (left ++ c.args.bytes.now ∷ [])) c.bytes.ensures ∙ ap (λ r. in_one x.between (left ++ r ∷ [])) (came refl) ∙ sym (ap (in_one x.between) grows.1),
      ),
      no_acts x.more x.between recs rec t is.0 full ∙ is.2,
    )
