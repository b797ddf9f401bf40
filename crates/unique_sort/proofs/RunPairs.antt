-- The pairs of runs, record by record.
use Rattle.std.proofs.Common.{◌≡◌, ◌≢◌, ℕ, zero, suc, ◌+◌, ◌-◌, ◌<◌, ◌≤◌, Bool, true, false, cond, List, [], ◌∷◌, ◌++◌, length, drop, map, flat_map, fold, refl, sym, ◌∙◌, ap, subst, arith}
use Rattle.std.specs.Prelude.{◌==◌, nat_lt, not, ◌&&◌, if◌then◌else◌}
use Rattle.std.proofs.lemmas.Bool.{ne_eqb, lt-ltb}
use Rattle.std.proofs.Math.Seq.{drop-append_seam}
use Rattle.std.proofs.lemmas.List.{length_push, take_at}
use Rattle.std.proofs.lemmas.List.Sums.{fold_push}
use Rattle.pipe_model.specs.declared.range.Range.{Range}
use Rattle.pipe_model.specs.declared.kind.Keep.{Keep}
use Rattle.pipe_model.specs.declared.kind.Keep.TheVariants.{First, Last, Singles, Multiple}
use Rattle.pipe_model.specs.Counts.{earlier, all_on}
use Rattle.pipe_model.specs.Keys.{is_same}
use Rattle.pipe_model.specs.OrderRows.{onto_runs, runs_of, counted, run_pairs, unique_pairs}
use Rattle.pipe_model.specs.Parts.{without_last, last_alone, grown}
use Rattle.pipe_model.specs.Ranges.{part_of}
use Rattle.pipe_model.specs.Row.{Pair}
use Rattle.pipe_model.specs.Shape.{Records}
use Rattle.unique_sort.specs.Runs.{RunSoFar, goes_on, run_with, last_run, pair_in}

-- One run

-- the pairs of a run's records from the k-th on
abbrev pairs_from : Bool → Keep → ℕ → Records → List Pair
pairs_from count keep k [] = []
pairs_from count keep k (rec ∷ []) = pair_in count keep k true rec ∷ []
pairs_from count keep k (rec ∷ next ∷ run) = pair_in count keep k false rec ∷ pairs_from count keep (suc k) (next ∷ run)

-- behind the first record of a run
later_first : (count : Bool) (k : ℕ) (run : Records) → all_on 1 run ≡ pairs_from count First (suc (suc k)) run
later_first count k [] = refl
later_first count k (rec ∷ []) = ap (λ t. (cond t 0 1, rec) ∷ []) (sym (ne_eqb (suc (suc k)) 1 (λ is. omega (arith, is))))
later_first count k (rec ∷ next ∷ run) =
    ap (λ t. (cond t 0 1, rec) ∷ all_on 1 (next ∷ run)) (sym (ne_eqb (suc (suc k)) 1 (λ is. omega (arith, is)))) ∙ ap (λ l. pair_in count First (suc (suc k)) false rec ∷ l) (later_first count (suc k) (next ∷ run))

later_singles : (count : Bool) (k : ℕ) (run : Records) → all_on 1 run ≡ pairs_from count Singles (suc (suc k)) run
later_singles count k [] = refl
later_singles count k (rec ∷ []) = ap (λ t. (cond t 0 1, rec) ∷ []) (sym (ne_eqb (suc (suc k)) 1 (λ is. omega (arith, is))))
later_singles count k (rec ∷ next ∷ run) = ap (λ l. (1, rec) ∷ l) (later_singles count (suc k) (next ∷ run))

later_multiple : (count : Bool) (k : ℕ) (run : Records) → all_on 0 run ≡ pairs_from count Multiple (suc (suc k)) run
later_multiple count k [] = refl
later_multiple count k (rec ∷ []) = ap (λ t. (cond t 1 0, rec) ∷ []) (sym (ne_eqb (suc (suc k)) 1 (λ is. omega (arith, is))))
later_multiple count k (rec ∷ next ∷ run) = ap (λ l. (0, rec) ∷ l) (later_multiple count (suc k) (next ∷ run))

-- the last of a run from the k-th on is kept
kept_last : (count : Bool) (k : ℕ) (run : Records) → all_on 1 (without_last run) ++ all_on 0 (map (counted count (k + length run)) (last_alone run)) ≡ pairs_from count Last (suc k) run
kept_last count k [] = refl
kept_last count k (rec ∷ []) = let one : k + 1 ≡ suc k = omega arith in ap (λ n. (0, counted count n rec) ∷ []) one ∙ by count
  where
    by : (count : Bool) → (0, counted count (suc k) rec) ∷ [] ≡ pairs_from count Last (suc k) (rec ∷ [])
    by true = refl
    by false = refl
kept_last count k (rec ∷ next ∷ run) =
    let size : k + length (rec ∷ next ∷ run) ≡ suc k + length (next ∷ run) = omega arith in
    ap (λ n. (1, rec) ∷ (all_on 1 (without_last (next ∷ run)) ++ all_on 0 (map (counted count n) (last_alone (next ∷ run))))) size ∙ ap (λ l. (1, rec) ∷ l) (kept_last count (suc k) (next ∷ run))

-- the pairs of a run are those of its records in turn
run_by_records : (count : Bool) (keep : Keep) (run : Records) → run_pairs count keep run ≡ pairs_from count keep 1 run
run_by_records count First [] = refl
run_by_records count First (rec ∷ []) = refl
run_by_records count First (rec ∷ next ∷ run) = ap (λ l. (0, rec) ∷ l) (later_first count 0 (next ∷ run))
run_by_records count Last [] = refl
run_by_records count Last (rec ∷ run) = let size : length (rec ∷ run) ≡ 0 + length (rec ∷ run) = omega arith in
    ap (λ n. all_on 1 (without_last (rec ∷ run)) ++ all_on 0 (map (counted count n) (last_alone (rec ∷ run)))) size ∙ kept_last count 0 (rec ∷ run)
run_by_records count Singles [] = refl
run_by_records count Singles (rec ∷ []) = refl
run_by_records count Singles (rec ∷ next ∷ run) = ap (λ l. (1, rec) ∷ l) (later_singles count 0 (next ∷ run))
run_by_records count Multiple [] = refl
run_by_records count Multiple (rec ∷ []) = refl
run_by_records count Multiple (rec ∷ next ∷ run) = ap (λ l. (0, rec) ∷ l) (later_multiple count 0 (next ∷ run))

module _ (count : Bool) (range : Range) (keep : Keep) where
  abbrev same : List ℕ → List ℕ → Bool
  same rec next = is_same (part_of range rec) (part_of range next)

  abbrev next_place : ℕ → Bool → ℕ
  next_place k goes = if goes then suc k else 1

  -- the pairs of all records but the last, where the first is the k-th of its run
  abbrev settled : ℕ → List ℕ → Records → List Pair
  settled k rec [] = []
  settled k rec (next ∷ recs) = pair_in count keep k (not (same rec next)) rec ∷ settled (next_place k (same rec next)) next recs

  -- the run of the last one
  abbrev run_behind : ℕ → List ℕ → Records → RunSoFar
  run_behind k rec recs = fold (run_with range) (k, rec) recs

  abbrev pair_of : RunSoFar → Bool → Pair
  pair_of run ends = pair_in count keep run.0 ends run.1

  -- the pairs of some runs, the first of which begins with the k-th of its own
  abbrev pairs_of_runs : ℕ → List Records → List Pair
  pairs_of_runs k [] = []
  pairs_of_runs k (run ∷ runs) = pairs_from count keep k run ++ flat_map (run_pairs count keep) runs

  -- the first run begins with the first record
  record Begins (rec : List ℕ) (runs : List Records) : Type 0 where
    run : Records
    rest : List Records
    is : runs ≡ (rec ∷ run) ∷ rest

  onto_begins : (rec next : List ℕ) (run : Records) (rest : List Records) → Begins rec (onto_runs range rec ((next ∷ run) ∷ rest))
  onto_begins rec next run rest = (elim (same rec next) as (λ c. Begins rec (if c then (rec ∷ next ∷ run) ∷ rest else (rec ∷ []) ∷ (next ∷ run) ∷ rest)) [
    | true ↦ record { run = next ∷ run; rest = rest; is = refl }
    | false ↦ record { run = []; rest = (next ∷ run) ∷ rest; is = refl }
  ])

  runs_begin : (rec : List ℕ) (recs : Records) → Begins rec (runs_of range (rec ∷ recs))
  runs_begin rec [] = record { run = []; rest = []; is = refl }
  runs_begin rec (next ∷ recs) =
      let begins = runs_begin next recs in
      let onto = onto_begins rec next begins.run begins.rest in
      record { run = onto.run; rest = onto.rest; is = ap (onto_runs range rec) begins.is ∙ onto.is }

  -- One record further on

  goes_same : (k : ℕ) (rec next : List ℕ) → goes_on range (suc k, rec) next ≡ same rec next
  goes_same k rec next = ap (λ t. t && same rec next) (lt-ltb 0 (suc k) (omega arith))

  run_step : (k : ℕ) (rec next : List ℕ) → run_with range (suc k, rec) next ≡ (next_place (suc k) (same rec next), next)
  run_step k rec next = let more : suc k + 1 ≡ suc (suc k) = omega arith in
      ap (λ t. (if t then suc k + 1 else 1, next)) (goes_same k rec next) ∙ ap (λ n. (if same rec next then n else 1, next)) more

  -- the pairs are those of all records but the last, and that of the last
  abbrev AreSettled : ℕ → List ℕ → Records → List Records → Type 0
  AreSettled k rec recs runs = settled k rec recs ++ pair_of (run_behind k rec recs) true ∷ [] ≡ pairs_of_runs k runs

  settled_pairs : (k : ℕ) (rec : List ℕ) (recs : Records) → settled (suc k) rec recs ++ pair_of (run_behind (suc k) rec recs) true ∷ [] ≡ pairs_of_runs (suc k) (runs_of range (rec ∷ recs))
  settled_pairs k rec [] = refl
  settled_pairs k rec (next ∷ recs) =
      let begins = runs_begin next recs in
      ap (λ run. settled (suc k) rec (next ∷ recs) ++ pair_of (fold (run_with range) run recs) true ∷ []) (run_step k rec next)
      ∙ by begins.run begins.rest (same rec next) (settled_pairs (suc k) next recs ∙ ap (pairs_of_runs (suc (suc k))) begins.is) (settled_pairs 0 next recs ∙ ap (pairs_of_runs 1) begins.is)
      ∙ ap (λ runs. pairs_of_runs (suc k) (onto_runs range rec runs)) (sym begins.is)
    where
      by : (run : Records) (rest : List Records) (c : Bool) → AreSettled (suc (suc k)) next recs ((next ∷ run) ∷ rest) → AreSettled 1 next recs ((next ∷ run) ∷ rest) →
          pair_in count keep (suc k) (not c) rec ∷ (settled (next_place (suc k) c) next recs ++ pair_of (run_behind (next_place (suc k) c) next recs) true ∷ [])
          ≡ pairs_of_runs (suc k) (if c then (rec ∷ next ∷ run) ∷ rest else (rec ∷ []) ∷ (next ∷ run) ∷ rest)
      by run rest true more one = ap (λ l. pair_in count keep (suc k) false rec ∷ l) more
      by run rest false more one = ap (λ l. pair_in count keep (suc k) true rec ∷ l) (one ∙ ap (λ l. l ++ flat_map (run_pairs count keep) rest) (sym (run_by_records count keep (next ∷ run))))

  all_pairs : (rec : List ℕ) (recs : Records) → unique_pairs count range keep (rec ∷ recs) ≡ settled 1 rec recs ++ pair_of (last_run range (rec ∷ recs)) true ∷ []
  all_pairs rec recs =
      let begins = runs_begin rec recs in
      ap (flat_map (run_pairs count keep)) begins.is
      ∙ ap (λ l. l ++ flat_map (run_pairs count keep) begins.rest) (run_by_records count keep (rec ∷ begins.run))
      ∙ ap (pairs_of_runs 1) (sym begins.is)
      ∙ sym (settled_pairs 0 rec recs)

  -- with one more, that of the last is settled
  abbrev IsPushed : ℕ → List ℕ → Records → List ℕ → Type 0
  IsPushed k rec recs x = settled k rec (recs ++ x ∷ []) ≡ settled k rec recs ++ pair_of (run_behind k rec recs) (not (goes_on range (run_behind k rec recs) x)) ∷ []

  settled_push : (k : ℕ) (rec : List ℕ) (recs : Records) (x : List ℕ) → IsPushed (suc k) rec recs x
  settled_push k rec [] x = ap (λ t. pair_in count keep (suc k) (not t) rec ∷ []) (sym (goes_same k rec x))
  settled_push k rec (next ∷ recs) x =
      ap (λ l. pair_in count keep (suc k) (not (same rec next)) rec ∷ l) (by (same rec next) (settled_push (suc k) next recs x) (settled_push 0 next recs x))
      ∙ ap (λ run. settled (suc k) rec (next ∷ recs) ++ pair_of (fold (run_with range) run recs) (not (goes_on range (fold (run_with range) run recs) x)) ∷ []) (sym (run_step k rec next))
    where
      by : (c : Bool) → IsPushed (suc (suc k)) next recs x → IsPushed 1 next recs x → IsPushed (next_place (suc k) c) next recs x
      by true more one = more
      by false more one = one

  -- What is written

  all_but_last : (pairs : List Pair) (p : Pair) → without_last (pairs ++ p ∷ []) ≡ pairs
  all_but_last [] p = refl
  all_but_last (q ∷ []) p = refl
  all_but_last (q ∷ r ∷ pairs) p = ap (λ l. q ∷ l) (all_but_last (r ∷ pairs) p)

  the_last : (pairs : List Pair) (p : Pair) → last_alone (pairs ++ p ∷ []) ≡ p ∷ []
  the_last [] p = refl
  the_last (q ∷ []) p = refl
  the_last (q ∷ r ∷ pairs) p = the_last (r ∷ pairs) p

  filled : (k : ℕ) (rec : List ℕ) (recs : Records) → 0 < (run_behind (suc k) rec recs).0
  filled k rec [] = omega arith
  filled k rec (next ∷ recs) =
      subst (λ run. 0 < (fold (run_with range) run recs).0) (sym (run_step k rec next)) (by (same rec next) (filled (suc k) next recs) (filled 0 next recs))
    where
      by : (c : Bool) → 0 < (run_behind (suc (suc k)) next recs).0 → 0 < (run_behind 1 next recs).0 → 0 < (run_behind (next_place (suc k) c) next recs).0
      by true more one = more
      by false more one = one

  -- the pair of the record before, by the one that came, if there was one
  abbrev pub owed : RunSoFar → Bool → List Pair
  owed run ends = if run.0 == 0 then [] else pair_of run ends ∷ []

  owes : (rec : List ℕ) (recs : Records) (ends : Bool) → owed (last_run range (rec ∷ recs)) ends ≡ pair_of (last_run range (rec ∷ recs)) ends ∷ []
  owes rec recs ends = let run = last_run range (rec ∷ recs) in
      ap (λ t. if t then [] else pair_of run ends ∷ []) (ne_eqb run.0 0 (λ none. omega (arith, none, filled 0 rec recs)))

  -- one more record lets the pair of the one before it be written
  pub new_pairs : (recs : Records) (rec : List ℕ) → grown (λ rs. without_last (unique_pairs count range keep rs)) (recs ++ rec ∷ []) ≡ owed (last_run range recs) (not (goes_on range (last_run range recs) rec))
  new_pairs [] rec = ap without_last (all_pairs rec [])
  new_pairs (first ∷ recs) rec =
      let all = first ∷ recs in
      let run = last_run range all in
      let made : (rs : Records) → without_last (unique_pairs count range keep (first ∷ rs)) ≡ settled 1 first rs = λ rs. ap without_last (all_pairs first rs) ∙ all_but_last (settled 1 first rs) (pair_of (last_run range (first ∷ rs)) true) in
      let before : earlier (all ++ rec ∷ []) ≡ all = take_at all (rec ∷ []) (length (all ++ rec ∷ []) - 1) (omega (arith, length_push all rec)) in
      ap (λ rs. drop (length (without_last (unique_pairs count range keep rs))) (without_last (unique_pairs count range keep (all ++ rec ∷ [])))) before
      ∙ ap (λ l. drop (length l) (without_last (unique_pairs count range keep (all ++ rec ∷ [])))) (made recs)
      ∙ ap (drop (length (settled 1 first recs))) (made (recs ++ rec ∷ []) ∙ settled_push 0 first recs rec)
      ∙ drop-append_seam (settled 1 first recs) (pair_of run (not (goes_on range run rec)) ∷ [])
      ∙ sym (owes first recs (not (goes_on range run rec)))

  -- at the end that of the last
  pub end_pairs : (recs : Records) → last_alone (unique_pairs count range keep recs) ≡ owed (last_run range recs) true
  end_pairs [] = refl
  end_pairs (first ∷ recs) = ap last_alone (all_pairs first recs) ∙ the_last (settled 1 first recs) (pair_of (last_run range (first ∷ recs)) true) ∙ sym (owes first recs true)

  last_pair : (recs : Records) (rec : List ℕ) → last_alone (unique_pairs count range keep (recs ++ rec ∷ [])) ≡ pair_of (run_with range (last_run range recs) rec) true ∷ []
  last_pair [] rec = ap last_alone (all_pairs rec [])
  last_pair (first ∷ recs) rec =
      ap last_alone (all_pairs first (recs ++ rec ∷ [])) ∙ the_last (settled 1 first (recs ++ rec ∷ [])) (pair_of (last_run range (first ∷ recs ++ rec ∷ [])) true)
      ∙ ap (λ run. pair_of run true ∷ []) (fold_push (run_with range) (1, first) recs rec)

-- a run has no more records than there are
pub few_in_run : (range : Range) (recs : Records) → (last_run range recs).0 ≤ length recs
few_in_run range recs = omega (arith, few (0, []) recs)
  where
    few : (run : RunSoFar) (recs : Records) → (fold (run_with range) run recs).0 ≤ run.0 + length recs
    few run [] = omega arith
    few run (rec ∷ recs) = omega (arith, few (run_with range run rec) recs, by (goes_on range run rec))
      where
        by : (c : Bool) → (if c then run.0 + 1 else 1) ≤ run.0 + 1
        by true = omega arith
        by false = omega arith

-- FIRST: whether a record begins its run tells its output
pub first_pair : (count : Bool) (range : Range) (recs : Records) (rec : List ℕ) →
    last_alone (unique_pairs count range First (recs ++ rec ∷ [])) ≡ (if goes_on range (last_run range recs) rec then 1 else 0, rec) ∷ []
first_pair count range recs rec = last_pair count range First recs rec ∙ by (last_run range recs).0 (is_same (part_of range (last_run range recs).1) (part_of range rec))
  where
    by : (k : ℕ) (same : Bool) → pair_in count First (if nat_lt 0 k && same then k + 1 else 1) true rec ∷ [] ≡ (if nat_lt 0 k && same then 1 else 0, rec) ∷ []
    by zero same = refl
    by (suc k) true = let many : suc k + 1 ≢ 1 = omega arith in
        ap (λ t. pair_in count First (if t && true then suc k + 1 else 1) true rec ∷ []) positive ∙ ap (λ t. (cond t 0 1, rec) ∷ []) (ne_eqb (suc k + 1) 1 many) ∙ ap (λ t. (if t && true then 1 else 0, rec) ∷ []) (sym positive)
      where
        positive : nat_lt 0 (suc k) ≡ true
        positive = lt-ltb 0 (suc k) (omega arith)
    by (suc k) false = ap (λ t. pair_in count First (if t && false then suc k + 1 else 1) true rec ∷ []) positive ∙ ap (λ t. (if t && false then 1 else 0, rec) ∷ []) (sym positive)
      where
        positive : nat_lt 0 (suc k) ≡ true
        positive = lt-ltb 0 (suc k) (omega arith)

-- the run with one more, and its last record
pub run_push : (range : Range) (recs : Records) (rec : List ℕ) → last_run range (recs ++ rec ∷ []) ≡ run_with range (last_run range recs) rec
run_push range recs rec = fold_push (run_with range) (0, []) recs rec
