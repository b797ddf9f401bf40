-- UNIQUE's pairs stay when one more record comes, but for the last of them.
use Rattle.std.proofs.Common.{◌≡◌, ℕ, Bool, true, false, List, [], ◌∷◌, ◌++◌, length, map, refl, sym, ◌∙◌, ap, subst, cond}
use Rattle.std.specs.Prelude.{flat_map}
use Rattle.std.proofs.lemmas.List.{map-append, append-nil}
use Rattle.pipe_model.specs.declared.range.Range.{Range}
use Rattle.pipe_model.specs.declared.kind.Keep.{Keep}
use Rattle.pipe_model.specs.declared.kind.Keep.TheVariants.{First, Last, Singles, Multiple}
use Rattle.pipe_model.specs.Row.{Pair}
use Rattle.pipe_model.specs.Shape.{Records}
use Rattle.pipe_model.specs.Counts.{all_on}
use Rattle.pipe_model.specs.Keys.{is_same}
use Rattle.pipe_model.specs.Parts.{without_last, last_alone}
use Rattle.pipe_model.specs.Ranges.{part_of}
use Rattle.pipe_model.specs.OrderRows.{onto_runs, runs_of, counted, run_pairs, unique_pairs}
use Rattle.pipe_model.proofs.Growth.{IsContinuedBy, Grows, nothing_continued, member_stays}

-- the runs before and after one more record
data Next (rec : List ℕ) : List Records → List Records → Type 0 where
  alone : Next rec [] ((rec ∷ []) ∷ [])
  joins : (x : List ℕ) (run : Records) → Next rec ((x ∷ run) ∷ []) ((x ∷ run ++ rec ∷ []) ∷ [])
  behind : (x : List ℕ) (run : Records) {old new : List Records} → Next rec old new → Next rec ((x ∷ run) ∷ old) ((x ∷ run) ∷ new)

onto_next : (range : Range) (rec r : List ℕ) {old new : List Records} → Next rec old new → Next rec (onto_runs range r old) (onto_runs range r new)
onto_next range rec r alone =
    elim (is_same (part_of range r) (part_of range rec)) as (λ is. Next rec ((r ∷ []) ∷ []) (cond is ((r ∷ rec ∷ []) ∷ []) ((r ∷ []) ∷ (rec ∷ []) ∷ []))) [
      | true ↦ joins r []
      | false ↦ behind r [] alone
    ]
onto_next range rec r (joins x run) =
    elim (is_same (part_of range r) (part_of range x)) as (λ is. Next rec (cond is ((r ∷ x ∷ run) ∷ []) ((r ∷ []) ∷ (x ∷ run) ∷ [])) (cond is ((r ∷ x ∷ run ++ rec ∷ []) ∷ []) ((r ∷ []) ∷ (x ∷ run ++ rec ∷ []) ∷ []))) [
      | true ↦ joins r (x ∷ run)
      | false ↦ behind r [] (joins x run)
    ]
onto_next range rec r (behind x run {old} {new} further) =
    elim (is_same (part_of range r) (part_of range x)) as (λ is. Next rec (cond is ((r ∷ x ∷ run) ∷ old) ((r ∷ []) ∷ (x ∷ run) ∷ old)) (cond is ((r ∷ x ∷ run) ∷ new) ((r ∷ []) ∷ (x ∷ run) ∷ new))) [
      | true ↦ behind r (x ∷ run) further
      | false ↦ behind r [] (behind x run further)
    ]

runs-next : (range : Range) (recs : Records) (rec : List ℕ) → Next rec (runs_of range recs) (runs_of range (recs ++ rec ∷ []))
runs-next range [] rec = alone
runs-next range (r ∷ recs) rec = onto_next range rec r (runs-next range recs rec)

-- Lists without their last members

without_last-end : {X : Type 0} (xs : List X) (x : X) → without_last (xs ++ x ∷ []) ≡ xs
without_last-end [] x = refl
without_last-end (y ∷ []) x = refl
without_last-end (y ∷ z ∷ xs) x = ap (λ rest. y ∷ rest) (without_last-end (z ∷ xs) x)

last_one : {X : Type 0} (x : X) (xs : List X) → (y : X) × (last_alone (x ∷ xs) ≡ y ∷ [])
last_one x [] = (x, refl)
last_one x (y ∷ xs) = last_one y xs

with_last : {X : Type 0} (xs : List X) → xs ≡ without_last xs ++ last_alone xs
with_last [] = refl
with_last (x ∷ []) = refl
with_last (x ∷ y ∷ xs) = ap (λ rest. x ∷ rest) (with_last (y ∷ xs))

-- more at the end
longer : {X : Type 0} (xs ys : List X) → IsContinuedBy (without_last xs) (without_last (xs ++ ys))
longer [] ys = nothing_continued _
longer (x ∷ []) ys = nothing_continued _
longer (x ∷ y ∷ xs) ys = member_stays x (y ∷ xs) (y ∷ xs ++ ys) y (xs ++ ys) refl (longer (y ∷ xs) ys)

-- the same list before both
both_behind : {X : Type 0} (xs old new : List X) (y : X) (ys : List X) → new ≡ y ∷ ys → IsContinuedBy (without_last old) (without_last new) → IsContinuedBy (without_last (xs ++ old)) (without_last (xs ++ new))
both_behind [] old new y ys is stays = stays
both_behind (x ∷ []) old new y ys is stays = member_stays x old new y ys is stays
both_behind (x ∷ z ∷ xs) old new y ys is stays = member_stays x (z ∷ xs ++ old) (z ∷ xs ++ new) z (xs ++ new) refl (both_behind (z ∷ xs) old new y ys is stays)

-- Pairs

-- a run has a pair
some_pair : (count : Bool) (keep : Keep) (x : List ℕ) (run : Records) → (p : Pair) × (ps : List Pair) × (run_pairs count keep (x ∷ run) ≡ p ∷ ps)
some_pair count First x run = ((0, x), all_on 1 run, refl)
some_pair count Last x [] = ((0, counted count 1 x), [], refl)
some_pair count Last x (y ∷ run) = ((1, x), all_on 1 (without_last (y ∷ run)) ++ all_on 0 (map (counted count (length (x ∷ y ∷ run))) (last_alone (y ∷ run))), refl)
some_pair count Singles x [] = ((0, x), [], refl)
some_pair count Singles x (y ∷ run) = ((1, x), all_on 1 (y ∷ run), refl)
some_pair count Multiple x [] = ((1, x), [], refl)
some_pair count Multiple x (y ∷ run) = ((0, x), all_on 0 (y ∷ run), refl)

some_pairs : (count : Bool) (keep : Keep) (rec : List ℕ) {old new : List Records} → Next rec old new → (p : Pair) × (ps : List Pair) × (flat_map (run_pairs count keep) new ≡ p ∷ ps)
some_pairs count keep rec alone = let some = some_pair count keep rec [] in (some.0, some.1 ++ [], ap (λ pairs. pairs ++ []) some.2)
some_pairs count keep rec (joins x run) = let some = some_pair count keep x (run ++ rec ∷ []) in (some.0, some.1 ++ [], ap (λ pairs. pairs ++ []) some.2)
some_pairs count keep rec (behind x run {old} {new} further) = let some = some_pair count keep x run in (some.0, some.1 ++ flat_map (run_pairs count keep) new, ap (λ pairs. pairs ++ flat_map (run_pairs count keep) new) some.2)

-- all records of a run on one output
all_longer : (o : ℕ) (run : Records) (rec : List ℕ) → IsContinuedBy (without_last (all_on o run)) (without_last (all_on o (run ++ rec ∷ [])))
all_longer o run rec = subst (λ (pairs : List Pair). IsContinuedBy (without_last (all_on o run)) (without_last pairs)) (sym (map-append (λ r. (o, r)) run (rec ∷ []))) (longer (all_on o run) (all_on o (rec ∷ [])))

-- LAST: all but the pair of the last record
but_last : (count : Bool) (x : List ℕ) (run : Records) → without_last (run_pairs count Last (x ∷ run)) ≡ all_on 1 (without_last (x ∷ run))
but_last count x run =
    let one = last_one x run in
    ap (λ last. without_last (all_on 1 (without_last (x ∷ run)) ++ all_on 0 (map (counted count (length (x ∷ run))) last))) one.1
    ∙ without_last-end (all_on 1 (without_last (x ∷ run))) (0, counted count (length (x ∷ run)) one.0)

run_longer : (count : Bool) (keep : Keep) (x : List ℕ) (run : Records) (rec : List ℕ) → IsContinuedBy (without_last (run_pairs count keep (x ∷ run))) (without_last (run_pairs count keep (x ∷ run ++ rec ∷ [])))
run_longer count First x run rec = subst (λ (pairs : List Pair). IsContinuedBy (without_last ((0, x) ∷ all_on 1 run)) (without_last ((0, x) ∷ pairs))) (sym (map-append (λ r. (1, r)) run (rec ∷ []))) (longer ((0, x) ∷ all_on 1 run) (all_on 1 (rec ∷ [])))
run_longer count Last x run rec =
    let old = but_last count x run in
    let new = but_last count x (run ++ rec ∷ []) ∙ ap (all_on 1) (without_last-end (x ∷ run) rec) in
    let more = ap (all_on 1) (with_last (x ∷ run)) ∙ map-append (λ r. (1, r)) (without_last (x ∷ run)) (last_alone (x ∷ run)) in
    (all_on 1 (last_alone (x ∷ run)), new ∙ more ∙ ap (λ pairs. pairs ++ all_on 1 (last_alone (x ∷ run))) (sym old))
run_longer count Singles x [] rec = nothing_continued _
run_longer count Singles x (y ∷ run) rec = all_longer 1 (x ∷ y ∷ run) rec
run_longer count Multiple x [] rec = nothing_continued _
run_longer count Multiple x (y ∷ run) rec = all_longer 0 (x ∷ y ∷ run) rec

next-stays : (count : Bool) (keep : Keep) (rec : List ℕ) {old new : List Records} → Next rec old new → IsContinuedBy (without_last (flat_map (run_pairs count keep) old)) (without_last (flat_map (run_pairs count keep) new))
next-stays count keep rec alone = nothing_continued _
next-stays count keep rec (joins x run) =
    subst (λ (pairs : List Pair). IsContinuedBy (without_last pairs) (without_last (run_pairs count keep (x ∷ run ++ rec ∷ []) ++ []))) (sym (append-nil (run_pairs count keep (x ∷ run))))
    (subst (λ (pairs : List Pair). IsContinuedBy (without_last (run_pairs count keep (x ∷ run))) (without_last pairs)) (sym (append-nil (run_pairs count keep (x ∷ run ++ rec ∷ []))))
    (run_longer count keep x run rec))
next-stays count keep rec (behind x run {old} {new} further) =
    let some = some_pairs count keep rec further in
    both_behind (run_pairs count keep (x ∷ run)) (flat_map (run_pairs count keep) old) (flat_map (run_pairs count keep) new) some.0 some.1 some.2 (next-stays count keep rec further)

pub unique-grows : (count : Bool) (range : Range) (keep : Keep) → Grows (λ recs. without_last (unique_pairs count range keep recs))
unique-grows count range keep recs rec = next-stays count keep rec (runs-next range recs rec)
