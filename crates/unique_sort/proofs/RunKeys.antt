-- One more record, by the key of the run at hand.
use Rattle.std.proofs.Common.{◌≡◌, ℕ, ◌+◌, ◌<◌, min, true, List, sym, ◌∙◌, ap, arith, ◌^◌, ◌-◌}
use Rattle.std.specs.Prelude.{nat_lt, ◌&&◌, if◌then◌else◌}
use Rattle.std.proofs.lemmas.Bool.{lt-ltb, ltb-true}
use Rattle.std.proofs.lemmas.Map.Text.{is_eq-slice_cmp}
use Rattle.std.proofs.lemmas.Slice.Eq.{bytes_eq-Decides}
use Rattle.pipe_model.specs.Keys.{is_same}
use Rattle.pipe_model.specs.Ranges.{part_of}
use Rattle.pipe_model.proofs.Truths.{both}
use Rattle.unique_sort.specs.declared.run.Run.{Run}
use Rattle.unique_sort.specs.Runs.{RunSoFar, goes_on, run_with, IsRunOf}
use Rattle.stream_laws.proofs.KeysInTurn.{same_bytes}

same_is : (key bytes : List ℕ) → is_same key bytes ≡ true → key ≡ bytes
same_is key bytes same = (bytes_eq-Decides key bytes).0 (sym (is_eq-slice_cmp key bytes) ∙ same_bytes key bytes ∙ same)

-- it belongs to the run where its key is the same, which then stays
pub joins : (x y : Run) (rec : List ℕ) → (nat_lt 0 x.count && is_same x.key.items (part_of x.range rec)) ≡ true → y.range ≡ x.range → y.key.items ≡ x.key.items → y.count ≡ min (x.count + 1) (2 ^ 64 - 1) →
    (run : RunSoFar) → run.0 < 50000000 → IsRunOf x run → (true ≡ goes_on x.range run rec) × IsRunOf y (run_with x.range run rec)
joins x y rec is_of range_is key_is count_is run room is =
    let tests = both (nat_lt 0 x.count) (is_same x.key.items (part_of x.range rec)) is_of in
    let some : 0 < run.0 = omega (arith, is.0, ltb-true 0 x.count tests.0) in
    let here : x.key.items ≡ part_of x.range run.1 = is.1 some in
    let goes : goes_on x.range run rec ≡ true = ap (λ n. n && is_same (part_of x.range run.1) (part_of x.range rec)) (lt-ltb 0 run.0 some) ∙ ap (λ k. is_same k (part_of x.range rec)) (sym here) ∙ tests.1 in (
      sym goes,
      (
        omega (arith, count_is, is.0, room) ∙ ap (λ g. if g then run.0 + 1 else 1) (sym goes),
        λ _. key_is ∙ same_is x.key.items (part_of x.range rec) tests.1 ∙ ap (λ r. part_of r rec) (sym range_is),
      ),
    )
