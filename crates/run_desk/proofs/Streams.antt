-- On which streams a strand may go on.
use Rattle.std.proofs.Common.{◌≡◌, ℕ, zero, suc, ◌<◌, Bool, true, false, ◌&&◌, ◌==◌, ◌∙◌, ap, arith, refl, Option, Some, None, is_some, slice_get}
use Rattle.std.specs.Prelude.{if◌then◌else◌}
use Rattle.std.proofs.lemmas.Bool.{ne_eqb}
use Rattle.pipe_model.specs.declared.step.Seen.TheVariants.{Saw}
use Rattle.run_desk.specs.declared.seat.Ask.{Ask}
use Rattle.run_desk.specs.declared.seat.Ask.TheVariants as Now
use Rattle.run_desk.specs.Desk.{DeskState}
use Rattle.run_desk.specs.Telling as Telling

-- behind its first input a strand that asks for any is told of a record at hand, and of nothing else
behind_first : (d : DeskState) (s j : ℕ) (a : Ask) → Telling.is_wide a ≡ true → 0 < j → Telling.seen_by d s j a ≡ (if Telling.shows (Telling.wire_in d s j) then Some (Saw j) else None)
behind_first d s j Now.Any w p = by_any (Telling.shows (Telling.wire_in d s j)) (j == 0) (ne_eqb j 0 (λ z. absurd (omega (arith, z, p))))
  where
    by_any : (hand first : Bool) → first ≡ false → Telling.any_seen j hand (first && Telling.all_over d s) ≡ (if hand then Some (Saw j) else None)
    by_any true first is = refl
    by_any false first is = ap (λ z. Telling.any_seen j false (z && Telling.all_over d s)) is
behind_first d s j Now.Gate w p = by_gate (Telling.shows (Telling.wire_in d s j)) (j == 0) (ne_eqb j 0 (λ z. absurd (omega (arith, z, p))))
  where
    by_gate : (hand first : Bool) → first ≡ false → Telling.read_seen j hand (first && Telling.is_over (Telling.wire_in d s j)) ≡ (if hand then Some (Saw j) else None)
    by_gate true first is = refl
    by_gate false first is = ap (λ z. Telling.read_seen j false (z && Telling.is_over (Telling.wire_in d s j))) is
behind_first d s j Now.Nothing w p = cc
behind_first d s j (Now.Commit l) w p = cc
behind_first d s j (Now.Read i) w p = cc
behind_first d s j (Now.Take i) w p = cc
behind_first d s j (Now.Write o) w p = cc
behind_first d s j Now.Primed w p = cc
behind_first d s j Now.Issue w p = cc
behind_first d s j (Now.Join u) w p = cc
behind_first d s j (Now.Cut i) w p = cc
behind_first d s j (Now.Done c) w p = cc

-- so the first event is that of its first input, or of the least other one at which a record is at hand
abbrev FirstBehind : DeskState → ℕ → Option ℕ → Type 0
FirstBehind d s None = Telling.IsFirstEvent d s None
FirstBehind d s (Some k) = Telling.IsFirstEvent d s (Some (k, Saw k))

pub wide_first : (d : DeskState) (s : ℕ) (found : Option ℕ) → Telling.is_wide (Telling.ask_at d s) ≡ true → Telling.seen_at d s 0 ≡ None
    → Telling.IsFirstShown d.wires (Telling.inputs_of (slice_get d.doors s)) found → FirstBehind d s found
wide_first d s None wide none shown = each
  where
    each : (k : ℕ) → Telling.seen_at d s k ≡ None
    each zero = none
    each (suc k) = behind_first d s (suc k) (Telling.ask_at d s) wide (omega arith) ∙ ap (λ z. if z then Some (Saw (suc k)) else None) (shown (suc k) (omega arith))
wide_first d s (Some k) wide none shown = ((ap is_some at_k, before), at_k)
  where
    at_k : Telling.seen_at d s k ≡ Some (Saw k)
    at_k = behind_first d s k (Telling.ask_at d s) wide shown.0 ∙ ap (λ z. if z then Some (Saw k) else None) shown.1

    before : (j : ℕ) → j < k → Telling.seen_at d s j ≡ None
    before zero p = none
    before (suc j) p = behind_first d s (suc j) (Telling.ask_at d s) wide (omega arith) ∙ ap (λ z. if z then Some (Saw (suc j)) else None) (shown.2 (suc j) (omega arith) p)
