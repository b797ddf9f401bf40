-- What a window gives when it sees one more record.
use Rattle.std.proofs.Common.{◌≡◌, ℕ, suc, true, false, List, [], ◌∷◌, ◌++◌, length, drop, refl, sym, ◌∙◌, ap, subst, arith, Some, None, Option}
use Rattle.std.specs.Prelude.{is_some, option_to_list}
use Rattle.std.proofs.lemmas.List.{length_push}
use Rattle.pipe_model.specs.Counts.{of_all, is_reached, last_of, all_on}
use Rattle.pipe_model.specs.Row.Act.{Writes}
use Rattle.pipe_model.specs.SelectionRows.{window}
use Rattle.pipe_model.specs.Shape.{Records, Stream, writes, acts_of, at_hand_of}
use Rattle.stage_steps.specs.Lists.{Sees}
use Rattle.stage_steps.proofs.Walks.{at_hand}
use Rattle.select_stages.specs.declared.window.Due.TheVariants.{Nothing, AtHand, Gone}
use Rattle.select_stages.specs.declared.window.Window.{Window}
use Rattle.select_stages.specs.Windows.{WindowStands, IsDue, due_acts, gone_act, is_over}
use Rattle.select_stages.proofs.LastRecords.{adds, moves, passes}

-- what stays the same without its first member is empty
nil_from_drop : (xs : Records) → xs ≡ drop 1 xs → xs ≡ []
nil_from_drop [] is = refl
nil_from_drop (first ∷ rest) is = absurd (let e : suc (length rest) ≡ length rest = ap length is in omega (arith, e))

module _ (x y : Window) (bytes : List ℕ) (times_is : y.times ≡ x.times) (leaving_is : y.leaving ≡ x.leaving) (staying_is : y.staying ≡ x.staying) where
  same_stream : (t : Stream) → t ≡ window x.leaving x.staying x.times → t ≡ window y.leaving y.staying y.times
  same_stream t is = is ∙ ap (λ o. window o x.staying x.times) (sym leaving_is) ∙ ap (λ o. window y.leaving o x.times) (sym staying_is) ∙ ap (window y.leaving y.staying) (sym times_is)

  same_last : (all : Records) → last_of (of_all x.times (length all)) all ≡ last_of (of_all y.times (length all)) all
  same_last all = ap (λ times. last_of (of_all times (length all)) all) (sym times_is)

  -- it isn't full
  pub sees_added : is_reached x.times (length x.records.items) ≡ false → y.due ≡ Nothing → y.records.items ≡ x.records.items ++ bytes ∷ [] → Sees WindowStands true x y bytes
  sees_added room due_is held_is = λ t recs rec is few came.
      let all = recs ++ rec ∷ [] in
      let shift = adds x.times recs x.records.items rec (is.2 refl) room in (
        same_stream t is.0,
        ap is_over due_is,
        λ going. held_is ∙ ap (λ b. x.records.items ++ b ∷ []) (came refl) ∙ shift.stays ∙ same_last all,
        ap (λ (t : Stream). acts_of t.outs all) is.0 ∙ ap (λ gone. writes (all_on x.leaving gone)) shift.leaves ∙ sym (ap (λ d. due_acts d y all) due_is),
        subst (λ d. IsDue d all) (sym due_is) tt,
      )

  -- its oldest record goes
  sees_moved : (first : List ℕ) (rest : Records) → is_reached x.times (length x.records.items) ≡ true → x.records.items ≡ first ∷ rest → y.due ≡ Gone → y.gone ≡ Some first → y.records.items ≡ rest ++ bytes ∷ [] →
      Sees WindowStands true x y bytes
  sees_moved first rest full starts due_is gone_is held_is = λ t recs rec is few came.
      let all = recs ++ rec ∷ [] in
      let shift = moves x.times recs x.records.items rest rec first (is.2 refl) full starts in (
        same_stream t is.0,
        ap is_over due_is,
        λ going. held_is ∙ ap (λ b. rest ++ b ∷ []) (came refl) ∙ shift.stays ∙ same_last all,
        ap (λ (t : Stream). acts_of t.outs all) is.0 ∙ ap (λ gone. writes (all_on x.leaving gone)) shift.leaves
            ∙ sym (ap (λ d. due_acts d y all) due_is ∙ ap (gone_act y.leaving) gone_is ∙ ap (λ o. Writes o first ∷ []) leaving_is),
        subst (λ d. IsDue d all) (sym due_is) tt,
      )

  -- it holds none
  sees_passed : is_reached x.times (length x.records.items) ≡ true → x.records.items ≡ [] → y.due ≡ AtHand → y.records.items ≡ [] → Sees WindowStands true x y bytes
  sees_passed full none due_is held_is = λ t recs rec is few came.
      let all = recs ++ rec ∷ [] in
      let shift = passes x.times recs x.records.items rec full none in (
        same_stream t is.0,
        ap is_over due_is,
        λ going. held_is ∙ shift.stays ∙ same_last all,
        ap (λ (t : Stream). acts_of t.outs all) is.0 ∙ ap (λ gone. writes (all_on x.leaving gone)) shift.leaves
            ∙ sym (ap (λ d. due_acts d y all) due_is ∙ ap (λ o. Writes o (at_hand_of all) ∷ []) leaving_is ∙ ap (λ r. Writes x.leaving r ∷ []) (at_hand recs rec)),
        subst (λ d. IsDue d all) (sym due_is) (let n = length_push recs rec in omega arith),
      )

  -- it is full, and what comes off its front goes, or where nothing does the record at hand
  pub sees_popped : (gone : Option (List ℕ)) (rest : Records) → is_reached x.times (length x.records.items) ≡ true → x.records.items ≡ option_to_list gone ++ rest → is_some gone ≡ true → y.due ≡ Gone → y.gone ≡ gone →
      y.records.items ≡ rest ++ bytes ∷ [] → Sees WindowStands true x y bytes
  sees_popped (Some first) rest full starts some due_is gone_is held_is = sees_moved first rest full starts due_is gone_is held_is
  sees_popped None rest full starts some due_is gone_is held_is = cc

  pub sees_empty : (gone : Option (List ℕ)) (rest : Records) → is_reached x.times (length x.records.items) ≡ true → x.records.items ≡ option_to_list gone ++ rest → rest ≡ drop 1 x.records.items → is_some gone ≡ false → y.due ≡ AtHand →
      y.records.items ≡ rest → Sees WindowStands true x y bytes
  sees_empty None rest full starts behind none due_is held_is = let empty = nil_from_drop x.records.items (starts ∙ behind) in sees_passed full empty due_is (held_is ∙ sym starts ∙ empty)
  sees_empty (Some first) rest full starts behind none due_is held_is = cc
