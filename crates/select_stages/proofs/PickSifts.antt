-- A record that is picked is passed on, where the stage goes on behind it.
use Rattle.std.proofs.Common.{◌≡◌, ◌<◌, ◌+◌, ℕ, Bool, false, cond, List, [], ◌∷◌, ◌++◌, length, Some, None, Option, refl, sym, ◌∙◌, ap, arith}
use Rattle.std.proofs.lemmas.List.{length-append}
use Rattle.pipe_model.specs.Row.Act.{Writes}
use Rattle.pipe_model.specs.SelectionRows.{selected}
use Rattle.pipe_model.specs.Shape.{Records, Stream, acts_of, writes, at_hand_of}
use Rattle.stage_steps.specs.Lists.{Sees, Sifts}
use Rattle.stage_steps.specs.declared.sifted.Sifted.TheVariants.{Passes}
use Rattle.select_stages.specs.declared.picks.Picked.{Picked}
use Rattle.select_stages.specs.PickLists.{PickedStand}
use Rattle.select_stages.specs.Picks.{Choice, PicksNext, Says}

module _ {P : Type 0} (stands : P → Choice → Records → Type 0) (looks : Bool) (x : Picked P) (y : P) (bytes : List ℕ) (is : Bool) (output : ℕ) (picks : PicksNext stands looks x.picks y bytes is) (output_is : output ≡ cond is 0 1) where
  abbrev waits_on : Option ℕ → Picked P
  waits_on waiting = record { picks = y; waiting = waiting }

  -- it waits to be written
  sees_one : Sees (PickedStand stands) looks x (waits_on (Some output)) bytes
  sees_one t recs rec stood room came =
      let all = recs ++ rec ∷ [] in
      let n : length all ≡ length recs + 1 = length-append recs (rec ∷ []) in
      let some : 0 < length all = omega (arith, n) in
      let next = picks stood.0 recs rec stood.2 room came in (
        stood.0,
        stood.1,
        next.0,
        ap (λ (t : Stream). acts_of t.outs all) stood.1 ∙ ap (λ b. writes (selected b all)) (sym next.1) ∙ ap (λ o. Writes o (at_hand_of all) ∷ []) (sym output_is),
        some,
      )

  -- or it is given at once
  pub passes_one : Says stands y false (λ choice recs. choice.halts recs) → Says stands y false (λ choice recs. choice.stops recs) → Sifts (PickedStand stands) (λ _. None) looks x (waits_on None) bytes (Passes output)
  passes_one halts stops = (
    waits_on (Some output),
    sees_one,
    (tt, λ over t recs acts stood. ([], stood.3, (stood.0, stood.1, stood.2, refl, tt), stood.4)),
    (
      λ over t recs acts stood. (stood.3, ap (λ (t : Stream). t.stops recs) stood.1 ∙ sym (stops stood.0 recs stood.2)),
      λ over t recs acts stood. halts stood.0 recs stood.2 ∙ sym (ap (λ (t : Stream). t.halts recs) stood.1),
    ),
  )
