-- DEAL's outputs in turn.
use Rattle.std.proofs.Common.{◌≡◌, ◌<◌, ℕ, zero, suc, ◌+◌, ◌-◌, ◌%◌, List, [], ◌∷◌, ◌++◌, length, refl, sym, ◌∙◌, ap, arith, take, drop, Some, None, Option}
use Rattle.std.specs.Prelude.{slice_get}
use Rattle.std.proofs.Math.Nat.{suc-mod}
use Rattle.std.proofs.lemmas.Nat.{mod_below}
use Rattle.pipe_model.specs.FanRows.{on_outputs, in_turn}
use Rattle.pipe_model.specs.Shape.{Records, writes}
use Rattle.pipe_model.proofs.Lists.{length_more}
use Rattle.stage_steps.specs.Waiting.{waiting_act, IsWaiting}

-- a record on the output at a place, if there is one
one_at : (outputs : List ℕ) (k : ℕ) (rec : List ℕ) → writes (on_outputs (take 1 (drop k outputs)) rec) ≡ waiting_act (slice_get outputs k) rec
one_at [] zero rec = refl
one_at [] (suc k) rec = refl
one_at (o ∷ outputs) zero rec = refl
one_at (o ∷ outputs) (suc k) rec = one_at outputs k rec

-- where a record came last, it may wait
pub may_wait : (waiting : Option ℕ) (recs : Records) (rec : List ℕ) → IsWaiting waiting (recs ++ rec ∷ [])
may_wait None recs rec = tt
may_wait (Some o) recs rec = omega (arith, length_more recs rec)

module _ (outputs : List ℕ) (turn : ℕ) (recs : Records) (rec : List ℕ) (is : 0 < length outputs → turn ≡ length recs % length outputs) where
  -- it waits for the output whose turn it was
  pub dealt : (r : List ℕ) → writes (on_outputs (in_turn outputs (recs ++ rec ∷ [])) r) ≡ waiting_act (slice_get outputs turn) r
  dealt r = by outputs is
    where
      before : length (recs ++ rec ∷ []) - 1 ≡ length recs
      before = omega (arith, length_more recs rec)

      by : (outputs : List ℕ) → (0 < length outputs → turn ≡ length recs % length outputs) → writes (on_outputs (in_turn outputs (recs ++ rec ∷ [])) r) ≡ waiting_act (slice_get outputs turn) r
      by [] is = one_at [] _ r
      by (o ∷ outputs) is =
          one_at (o ∷ outputs) _ r ∙ ap (λ k. waiting_act (slice_get (o ∷ outputs) (k % length (o ∷ outputs))) r) before ∙ ap (λ k. waiting_act (slice_get (o ∷ outputs) k) r) (sym (is (omega arith)))

  -- and then it is the next one's turn
  pub turn_after : (turn' : ℕ) → (turn < length outputs → turn' ≡ (turn + 1) % length outputs) → 0 < length outputs → turn' ≡ length (recs ++ rec ∷ []) % length outputs
  turn_after turn' goes some =
      let now = is some in
      let below : turn < length outputs = omega (arith, now, mod_below (length recs) (length outputs) some) in
      let one : turn + 1 ≡ suc (length recs % length outputs) = omega (arith, now) in
      goes below ∙ ap (λ k. k % length outputs) one ∙ sym (suc-mod (length recs) (length outputs)) ∙ ap (λ k. k % length outputs) (sym (length_more recs rec))
