-- A byte is looked for by the marks of its lanes.
use Rattle.std.proofs.Common.{◌≡◌, ℕ, suc, ◌+◌, ◌*◌, ◌<◌, ◌≤◌, ◌⊎◌, Bool, true, false, cond, not, List, [], ◌∷◌, length, map, arith, sym, ap, ◌∙◌, inl, inr, Option, Some, None}
use Rattle.std.specs.List.{prefix_len}
use Rattle.std.specs.Simd.Lanes.{mask_l}
use Rattle.std.proofs.lemmas.Simd.{length-chunk, trailing_mask_l, none_from_empty_mask, run_in_chunk_fails, run_in_chunk_stops}
use lib.Count.{count_trailing_zeros}
use lib.Lanes.{chunk}
use Rattle.bstr.specs.Find.{IsFirst, Nowhere, NoneBefore, Passes}

-- where a lane is marked, one comes before the end
stops_within : (p : ℕ → Bool) (xs : List ℕ) → 0 < mask_l (map p xs) → prefix_len (λ x. not (p x)) xs < length xs
stops_within p [] some = absurd (omega arith)
stops_within p (x ∷ xs) some =
    (elim (p x) as (λ b. 0 < cond {A = ℕ} b 1 0 + 2 * mask_l (map p xs) → cond {A = ℕ} (not b) (1 + prefix_len (λ y. not (p y)) xs) 0 < suc (length xs)) [
      | true ↦ λ some. omega arith
      | false ↦ λ some. let later = stops_within p xs (omega arith) in omega arith
    ]) some

module _ (p : ℕ → Bool) (part : List ℕ) (from m : ℕ) (room : from + 16 ≤ length part) (marks_are : m ≡ mask_l (map p (chunk from 16 part))) where
  -- no lane is marked
  pub none_marked : m ≡ 0 → Nowhere (Passes p part) from (from + 16)
  none_marked none k low high here =
      let not_here = none_from_empty_mask p part from 16 0 room (sym marks_are ∙ none) k low high in
      let no : true ≡ false = sym here ∙ not_here in cc

  -- the lowest mark is that of the first place
  pub first_marked : 0 < m → IsFirst (Passes p part) from (from + 16) (Some (from + count_trailing_zeros 64 m))
  first_marked some =
      let lanes = chunk from 16 part in
      let long = length-chunk from 16 part room in
      let marked : 0 < mask_l (map p lanes) = omega (arith, marks_are) in
      let run : count_trailing_zeros 64 m ≡ prefix_len (λ x. not (p x)) lanes = ap (count_trailing_zeros 64) marks_are ∙ trailing_mask_l p 64 lanes (omega arith) marked in
      let within : count_trailing_zeros 64 m < 16 = let less = stops_within p lanes marked in omega arith in (
        record {
          low = omega arith;
          high = omega arith;
          before = λ k low below here.
              let not_here = run_in_chunk_fails p part from 16 _ 0 room run k low below in
              let no : true ≡ false = sym here ∙ not_here in cc;
        },
        run_in_chunk_stops p part from 16 _ 0 room run within,
      )

-- where a place is the first from one on that isn't behind the places passed, it is the first of all
module _ (P : ℕ → Type 0) (passed from to : ℕ) (before : Nowhere P 0 passed) (meets : from ≤ passed) where
  -- nowhere up to there
  pub none_further : Nowhere P from to → Nowhere P 0 to
  none_further nowhere k low high here =
      let sides : (k < passed) ⊎ (passed ≤ k) = grind arith in
      elim sides [ inl early ↦ before k low early here | inr late ↦ nowhere k (omega arith) high here ]

  -- found there
  pub found_further : (k end : ℕ) → to ≤ end → NoneBefore P from to k × P k → NoneBefore P 0 end k × P k
  found_further k end within first = (
    record {
      low = omega arith;
      high = let high = first.0.high in omega arith;
      before = λ j low below here.
          let sides : (j < passed) ⊎ (passed ≤ j) = grind arith in
          elim sides [ inl early ↦ before j low early here | inr late ↦ first.0.before j (omega arith) below here ];
    },
    first.1,
  )

  -- either
  pub first_further : (r : Option ℕ) → IsFirst P from to r → IsFirst P 0 to r
  first_further None nowhere = none_further nowhere
  first_further (Some k) first = found_further k to (omega arith) first
