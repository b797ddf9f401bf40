-- What UNIQUE gives when it sees one more record, or the end of input.
use Rattle.std.proofs.Common.{◌≡◌, ℕ, ◌<◌, Bool, true, false, not, List, [], ◌∷◌, ◌++◌, length, refl, sym, ◌∙◌, ap, subst, arith, Some, None}
use Rattle.std.specs.Prelude.{◌==◌, if◌then◌else◌}
use Rattle.std.proofs.lemmas.Bool.{ne_eqb}
use Rattle.std.proofs.lemmas.List.{length_push}
use Rattle.pipe_model.specs.declared.kind.Keep.TheVariants.{First}
use Rattle.pipe_model.specs.OrderRows.{unique}
use Rattle.pipe_model.specs.Row.Act.{Writes}
use Rattle.pipe_model.specs.Shape.{Records, Stream, writes, acts_of, last_pairs, at_hand_of}
use Rattle.stage_steps.specs.Lists.{Sees, SeesEach, SiftsEach, Finishes}
use Rattle.stage_steps.specs.Waiting.{waiting_act, IsWaiting}
use Rattle.stage_steps.specs.declared.sifted.Sifted.TheVariants.{Passes}
use Rattle.stage_steps.proofs.Walks.{at_hand}
use Rattle.unique_sort.specs.declared.run.Run.{Run}
use Rattle.unique_sort.specs.declared.unique.Firsts.{Firsts}
use Rattle.unique_sort.specs.declared.unique.Holds.{Holds}
use Rattle.unique_sort.specs.Runs.{RunSoFar, goes_on, run_with, last_run, IsRunOf, output_in, written_in, pair_in}
use Rattle.unique_sort.specs.UniqueLists.{IsLastRun, IsHolding, FirstsStand, held, HoldsStand}
use Rattle.unique_sort.proofs.RunPairs.{owed, new_pairs, end_pairs, first_pair, few_in_run, run_push}

-- the run with one more record, or the next one
pub record IsNextRun (x y : Run) (bytes : List ℕ) (belongs : Bool) : Type 0 where
  pub range : y.range ≡ x.range
  pub added : (run : RunSoFar) → run.0 < 50000000 → IsRunOf x run → (belongs ≡ goes_on x.range run bytes) × IsRunOf y (run_with x.range run bytes)

module _ (x y : Run) (bytes rec : List ℕ) (belongs : Bool) (recs : Records) (next : IsNextRun x y bytes belongs) (is : IsLastRun x recs) (room : length recs < 50000000) (came : bytes ≡ rec) where
  abbrev run : RunSoFar
  run = last_run x.range recs

  few : run.0 < 50000000
  few = omega (arith, few_in_run x.range recs, room)

  told : belongs ≡ goes_on x.range run rec
  told = (next.added run few is).0 ∙ ap (goes_on x.range run) came

  next_is : run_with x.range run bytes ≡ last_run y.range (recs ++ rec ∷ [])
  next_is = ap (run_with x.range run) came ∙ sym (run_push x.range recs rec) ∙ ap (λ range. last_run range (recs ++ rec ∷ [])) (sym next.range)

  next_run : IsLastRun y (recs ++ rec ∷ [])
  next_run = subst (IsRunOf y) next_is (next.added run few is).1

some_there : (recs : Records) (rec : List ℕ) → 0 < length (recs ++ rec ∷ [])
some_there recs rec = omega (arith, length_push recs rec)

pub sees_first : (x y : Firsts) (bytes : List ℕ) (belongs : Bool) → IsNextRun x.run y.run bytes belongs → y.waiting ≡ Some (if belongs then 1 else 0) → SeesEach FirstsStand true x y bytes
sees_first x y bytes belongs next waits = λ outs recs rec is room came.
    let all = recs ++ rec ∷ [] in
    let range = x.run.range in
    let output : (if belongs then 1 else 0) ≡ (if goes_on range (last_run range recs) rec then 1 else 0) = ap (λ g. if g then 1 else 0) (told x.run y.run bytes rec belongs recs next is.2 room (came refl)) in (
      is.0,
      is.1 ∙ ap (λ r. (unique is.0 r First).outs) (sym next.range),
      next_run x.run y.run bytes rec belongs recs next is.2 room (came refl),
      ap (λ o. acts_of o all) is.1 ∙ ap writes (first_pair is.0 range recs rec)
          ∙ sym (ap (λ w. waiting_act w (at_hand_of all)) waits ∙ ap (λ o. Writes o (at_hand_of all) ∷ []) output ∙ ap (λ r. Writes (if goes_on range (last_run range recs) rec then 1 else 0) r ∷ []) (at_hand recs rec)),
      subst (λ w. IsWaiting w all) (sym waits) (some_there recs rec),
    )

-- or the record is given at once
pub sifts_first : (x y : Firsts) (bytes : List ℕ) (belongs : Bool) (output : ℕ) → IsNextRun x.run y.run bytes belongs → output ≡ (if belongs then 1 else 0) → y.waiting ≡ None → SiftsEach FirstsStand (λ _. None) true x y bytes (Passes output)
sifts_first x y bytes belongs output next output_is none = (
  record y { waiting = Some output },
  sees_first x (record y { waiting = Some output }) bytes belongs next (ap Some output_is),
  (tt, λ over outs recs acts stood. ([], stood.3, (stood.0, stood.1, stood.2, sym (ap (λ w. waiting_act w (at_hand_of recs)) none), subst (λ w. IsWaiting w recs) (sym none) tt), stood.4)),
  λ outs recs acts stood. stood.3 ∙ ap (λ w. waiting_act w (at_hand_of recs)) none,
)

-- the run that is held, as it is
holds_run : (x : Holds) (recs : Records) → IsHolding x recs → (x.run.count, x.last) ≡ last_run x.run.range recs
holds_run x recs is = ap (λ n. (n, x.last)) is.0.0 ∙ ap (λ l. ((last_run x.run.range recs).0, l)) is.1

module _ (x y : Holds) (counting_is : y.is_counting ≡ x.is_counting) (keep_is : y.keep ≡ x.keep) (range_is : y.run.range ≡ x.run.range) where
  same_stream : (t : Stream) → t ≡ held x.is_counting x.run.range x.keep → t ≡ held y.is_counting y.run.range y.keep
  same_stream t is = is ∙ ap (λ c. held c x.run.range x.keep) (sym counting_is) ∙ ap (λ r. held y.is_counting r x.keep) (sym range_is) ∙ ap (held y.is_counting y.run.range) (sym keep_is)

  -- the pair of the record before is due
  abbrev IsDue : Bool → Type 0
  IsDue ends = (y.new ≡ written_in x.is_counting x.keep x.run.count ends x.last) × (y.due ≡ Some (output_in x.keep x.run.count ends))

  owes : (recs : Records) (ends : Bool) → IsHolding x recs → 0 < x.run.count → IsDue ends → writes (owed x.is_counting x.run.range x.keep (last_run x.run.range recs) ends) ≡ waiting_act y.due y.new
  owes recs ends is some due =
      ap (λ r. writes (owed x.is_counting x.run.range x.keep r ends)) (sym (holds_run x recs is))
      ∙ ap (λ t. writes (if t then [] else pair_in x.is_counting x.keep x.run.count ends x.last ∷ [])) (ne_eqb x.run.count 0 (λ none. omega (arith, some, none)))
      ∙ sym (ap (λ w. waiting_act w y.new) due.1 ∙ ap (λ r. Writes (output_in x.keep x.run.count ends) r ∷ []) due.0)

  owes_none : (recs : Records) (ends : Bool) → IsHolding x recs → x.run.count ≡ 0 → writes (owed x.is_counting x.run.range x.keep (last_run x.run.range recs) ends) ≡ []
  owes_none recs ends is none =
      ap (λ r. writes (owed x.is_counting x.run.range x.keep r ends)) (sym (holds_run x recs is))
      ∙ ap (λ n. writes (if n == 0 then [] else pair_in x.is_counting x.keep n ends x.last ∷ [])) none

  module _ (bytes : List ℕ) (belongs : Bool) (next : IsNextRun x.run y.run bytes belongs) (last_is : y.last ≡ bytes) where
    holds_next : (recs : Records) (rec : List ℕ) → IsHolding x recs → length recs < 50000000 → bytes ≡ rec → IsHolding y (recs ++ rec ∷ [])
    holds_next recs rec is room came = (
      next_run x.run y.run bytes rec belongs recs next is.0 room came,
      last_is ∙ ap (λ (run : RunSoFar). run.1) (next_is x.run y.run bytes rec belongs recs next is.0 room came),
    )

    new_acts : (t : Stream) (recs : Records) (rec : List ℕ) → HoldsStand x false t recs [] → length recs < 50000000 → bytes ≡ rec → acts_of t.outs (recs ++ rec ∷ []) ≡ writes (owed x.is_counting x.run.range x.keep (last_run x.run.range recs) (not belongs))
    new_acts t recs rec is room came =
        ap (λ (t : Stream). acts_of t.outs (recs ++ rec ∷ [])) is.0 ∙ ap writes (new_pairs x.is_counting x.run.range x.keep recs rec)
        ∙ ap (λ g. writes (owed x.is_counting x.run.range x.keep (last_run x.run.range recs) (not g))) (sym (told x.run y.run bytes rec belongs recs next is.1.0 room came))

    pub sees_next : 0 < x.run.count → IsDue (not belongs) → Sees HoldsStand true x y bytes
    sees_next some due = λ t recs rec is room came. (
      same_stream t is.0,
      holds_next recs rec is.1 room (came refl),
      new_acts t recs rec is room (came refl) ∙ owes recs (not belongs) is.1 some due,
    )

    pub sees_one : x.run.count ≡ 0 → y.new ≡ x.new → y.due ≡ x.due → Sees HoldsStand true x y bytes
    sees_one none new_is due_is = λ t recs rec is room came. (
      same_stream t is.0,
      holds_next recs rec is.1 room (came refl),
      new_acts t recs rec is room (came refl) ∙ owes_none recs (not belongs) is.1 none ∙ is.2 ∙ ap (λ d. waiting_act d x.new) (sym due_is) ∙ ap (waiting_act y.due) (sym new_is),
    )

  last_acts : (t : Stream) (recs : Records) → HoldsStand x false t recs [] → writes (last_pairs t.last recs) ≡ writes (owed x.is_counting x.run.range x.keep (last_run x.run.range recs) true)
  last_acts t recs is = ap (λ (t : Stream). writes (last_pairs t.last recs)) is.0 ∙ ap writes (end_pairs x.is_counting x.run.range x.keep recs)

  pub ends_some : 0 < x.run.count → IsDue true → Finishes HoldsStand x y
  ends_some some due = λ t recs is. (same_stream t is.0, tt, last_acts t recs is ∙ owes recs true is.1 some due)

  pub ends_none : x.run.count ≡ 0 → y.new ≡ x.new → y.due ≡ x.due → Finishes HoldsStand x y
  ends_none none new_is due_is = λ t recs is. (
    same_stream t is.0,
    tt,
    last_acts t recs is ∙ owes_none recs true is.1 none ∙ is.2 ∙ ap (λ d. waiting_act d x.new) (sym due_is) ∙ ap (waiting_act y.due) (sym new_is),
  )
