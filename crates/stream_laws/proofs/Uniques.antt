-- UNIQUE puts the pairs of its runs, one run after another.
use Rattle.std.proofs.Common.{◌≡◌, ℕ, Bool, true, false, cond, ◌&&◌, ◌==◌, List, [], ◌∷◌, ◌++◌, refl, sym, ◌∙◌, ap, subst, Some, None}
use Rattle.std.specs.Prelude.{flat_map}
use Rattle.std.specs.List.{list_all}
use Rattle.std.proofs.lemmas.Bool.{eqb-true}
use Rattle.std.proofs.lemmas.List.{append-nil}
use Rattle.pipe_model.specs.declared.range.Range.{Range}
use Rattle.pipe_model.specs.declared.kind.Keep.{Keep}
use Rattle.pipe_model.specs.declared.kind.Keep.TheVariants.{First, Last, Singles, Multiple}
use Rattle.pipe_model.specs.Row.{Pair}
use Rattle.pipe_model.specs.Shape.{Records, never, zero_code}
use Rattle.pipe_model.specs.Counts.{all_on}
use Rattle.pipe_model.specs.Keys.{is_same}
use Rattle.pipe_model.specs.Parts.{without_last, last_alone, grown}
use Rattle.pipe_model.specs.Ranges.{part_of}
use Rattle.pipe_model.specs.OrderRows.{onto_runs, runs_of, run_pairs, unique_pairs, unique}
use Rattle.pipe_model.specs.Listed.{pairs_of, pairs_after}
use Rattle.pipe_model.proofs.Growth.{grown-all}
use Rattle.pipe_model.proofs.Runs.{unique-grows}
use Rattle.pipe_model.proofs.Truths.{both as and_both}
use Rattle.stream_laws.specs.KeyRuns.{have_one_key, EndsThere, AreKeyRuns, all_of}
use Rattle.stream_laws.proofs.Together.{adding, all_after, all_never}

-- Keys

-- they are one
same_means : (a b : List ℕ) → is_same a b ≡ true → a ≡ b
same_means [] [] is = refl
same_means [] (y ∷ b) is = cc
same_means (x ∷ a) [] is = cc
same_means (x ∷ a) (y ∷ b) is =
    let e = and_both (x == y) (is_same a b) is in
    ap (λ z. z ∷ a) (eqb-true x y e.0) ∙ ap (λ z. y ∷ z) (same_means a b e.1)

-- all but the last, and the last
with_last : {X : Type 0} (xs : List X) → without_last xs ++ last_alone xs ≡ xs
with_last [] = refl
with_last (x ∷ []) = refl
with_last (x ∷ y ∷ xs) = ap (λ z. x ∷ z) (with_last (y ∷ xs))

the_last : {X : Type 0} (xs : List X) (x : X) → last_alone (xs ++ x ∷ []) ≡ x ∷ []
the_last [] x = refl
the_last (y ∷ []) x = refl
the_last (y ∷ z ∷ xs) x = the_last (z ∷ xs) x

module _ (range : Range) where
  abbrev key : List ℕ → List ℕ
  key rec = part_of range rec

  -- The runs

  -- a record before some runs, by whether the first has its key
  runs_with : (rec next : List ℕ) (run : Records) (runs : List Records) → AreKeyRuns range ((next ∷ run) ∷ runs) → (b : Bool) → have_one_key range rec next ≡ b → AreKeyRuns range (cond b ((rec ∷ next ∷ run) ∷ runs) ((rec ∷ []) ∷ (next ∷ run) ∷ runs))
  runs_with rec next run runs are true is =
      let e : key rec ≡ key next = same_means (key rec) (key next) is in (
        ap (λ z. z && list_all (have_one_key range rec) run) is ∙ subst (λ z. list_all (λ other. is_same z (key other)) run ≡ true) (sym e) are.0,
        ends runs are.1 e,
        are.2,
      )
    where
      ends : (runs : List Records) → EndsThere range (next ∷ run) runs → key rec ≡ key next → EndsThere range (rec ∷ next ∷ run) runs
      ends [] there e = tt
      ends ([] ∷ runs) there e = tt
      ends ((other ∷ others) ∷ runs) there e = ap (λ z. is_same z (key other)) e ∙ there
  runs_with rec next run runs are false is = (refl, is, are)

  onto_are : (rec : List ℕ) (runs : List Records) → AreKeyRuns range runs → AreKeyRuns range (onto_runs range rec runs)
  onto_are rec [] are = (refl, tt, tt)
  onto_are rec ([] ∷ runs) are = absurd are.0
  onto_are rec ((next ∷ run) ∷ runs) are = runs_with rec next run runs are (have_one_key range rec next) refl

  pub are_runs : (recs : Records) → AreKeyRuns range (runs_of range recs)
  are_runs [] = tt
  are_runs (rec ∷ recs) = onto_are rec (runs_of range recs) (are_runs recs)

  onto_all : (rec : List ℕ) (runs : List Records) → all_of (onto_runs range rec runs) ≡ rec ∷ all_of runs
  onto_all rec [] = refl
  onto_all rec ([] ∷ runs) = refl
  onto_all rec ((next ∷ run) ∷ runs) = by_test (have_one_key range rec next)
    where
      by_test : (b : Bool) → all_of (cond b ((rec ∷ next ∷ run) ∷ runs) ((rec ∷ []) ∷ (next ∷ run) ∷ runs)) ≡ rec ∷ all_of ((next ∷ run) ∷ runs)
      by_test true = refl
      by_test false = refl

  pub all_in_runs : (recs : Records) → all_of (runs_of range recs) ≡ recs
  all_in_runs [] = refl
  all_in_runs (rec ∷ recs) = onto_all rec (runs_of range recs) ∙ ap (λ z. rec ∷ z) (all_in_runs recs)

  -- There are no others

  run_again : (rec : List ℕ) (run : Records) (runs : List Records) → list_all (have_one_key range rec) run ≡ true → EndsThere range (rec ∷ run) runs → AreKeyRuns range runs → runs_of range (all_of runs) ≡ runs →
      runs_of range (rec ∷ run ++ all_of runs) ≡ (rec ∷ run) ∷ runs
  run_again rec [] runs alike ends are again = ap (onto_runs range rec) again ∙ behind runs ends are
    where
      behind : (runs : List Records) → EndsThere range (rec ∷ []) runs → AreKeyRuns range runs → onto_runs range rec runs ≡ (rec ∷ []) ∷ runs
      behind [] ends are = refl
      behind ([] ∷ runs) ends are = absurd are.0
      behind ((next ∷ run) ∷ runs) ends are = ap (λ b. cond b ((rec ∷ next ∷ run) ∷ runs) ((rec ∷ []) ∷ (next ∷ run) ∷ runs)) ends
  run_again rec (next ∷ run) runs alike ends are again =
      let b = and_both (have_one_key range rec next) (list_all (have_one_key range rec) run) alike in
      let e : key rec ≡ key next = same_means (key rec) (key next) b.0 in
      ap (onto_runs range rec) (run_again next run runs (subst (λ z. list_all (λ other. is_same z (key other)) run ≡ true) e b.1) (still runs ends e) are again)
      ∙ ap (λ b. cond b ((rec ∷ next ∷ run) ∷ runs) ((rec ∷ []) ∷ (next ∷ run) ∷ runs)) b.0
    where
      still : (runs : List Records) → EndsThere range (rec ∷ next ∷ run) runs → key rec ≡ key next → EndsThere range (next ∷ run) runs
      still [] there e = tt
      still ([] ∷ runs) there e = tt
      still ((other ∷ others) ∷ runs) there e = ap (λ z. is_same z (key other)) (sym e) ∙ there

  all_again : (runs : List Records) → AreKeyRuns range runs → runs_of range (all_of runs) ≡ runs
  all_again [] are = refl
  all_again ([] ∷ runs) are = absurd are.0
  all_again ((rec ∷ run) ∷ runs) are = run_again rec run runs are.0 are.1 are.2 (all_again runs are.2)

  pub no_other_runs : (recs : Records) (runs : List Records) → all_of runs ≡ recs → AreKeyRuns range runs → runs ≡ runs_of range recs
  no_other_runs recs runs whole are = sym (all_again runs are) ∙ ap (runs_of range) whole

  -- FIRST

  -- 1 for a record that the one before it has the key of
  abbrev place_of_next : List ℕ → Records → ℕ
  place_of_next rec [] = 0
  place_of_next rec (next ∷ recs) = cond (have_one_key range rec next) 1 0

  -- each record on its output, the first on the one that is named
  abbrev firsts : ℕ → Records → List Pair
  firsts o [] = []
  firsts o (rec ∷ recs) = (o, rec) ∷ firsts (place_of_next rec recs) recs

  -- one more adds a pair
  firsts_end : (o : ℕ) (recs : Records) (rec : List ℕ) → (p : Pair) × (firsts o (recs ++ rec ∷ []) ≡ firsts o recs ++ p ∷ [])
  firsts_end o [] rec = ((o, rec), refl)
  firsts_end o (x ∷ []) rec = ((place_of_next x (rec ∷ []), rec), refl)
  firsts_end o (x ∷ y ∷ recs) rec = let r = firsts_end (place_of_next x (y ∷ recs)) (y ∷ recs) rec in (r.0, ap (λ z. (o, x) ∷ z) r.1)

  module _ (count : Bool) where
    abbrev pairs : List Records → List Pair
    pairs runs = flat_map (run_pairs count First) runs

    -- the first run, and the pairs behind its first record
    record Firsts (rec : List ℕ) (recs : Records) : Type 0 where
      run : Records
      runs : List Records
      is : runs_of range (rec ∷ recs) ≡ (rec ∷ run) ∷ runs
      behind : all_on 1 run ++ pairs runs ≡ firsts (place_of_next rec recs) recs

    firsts_of : (rec : List ℕ) (recs : Records) → Firsts rec recs
    firsts_of rec [] = record { run = []; runs = []; is = refl; behind = refl }
    firsts_of rec (next ∷ recs) = by_key (have_one_key range rec next) refl (firsts_of next recs)
      where
        by_key : (b : Bool) → have_one_key range rec next ≡ b → Firsts next recs → Firsts rec (next ∷ recs)
        by_key true is f = record {
          run = next ∷ f.run;
          runs = f.runs;
          is = ap (onto_runs range rec) f.is ∙ ap (λ b. cond b ((rec ∷ next ∷ f.run) ∷ f.runs) ((rec ∷ []) ∷ (next ∷ f.run) ∷ f.runs)) is;
          behind = ap (λ z. (1, next) ∷ z) f.behind ∙ ap (λ b. firsts (cond b 1 0) (next ∷ recs)) (sym is);
        }
        by_key false is f = record {
          run = [];
          runs = (next ∷ f.run) ∷ f.runs;
          is = ap (onto_runs range rec) f.is ∙ ap (λ b. cond b ((rec ∷ next ∷ f.run) ∷ f.runs) ((rec ∷ []) ∷ (next ∷ f.run) ∷ f.runs)) is;
          behind = ap (λ z. (0, next) ∷ z) f.behind ∙ ap (λ b. firsts (cond b 1 0) (next ∷ recs)) (sym is);
        }

    firsts_are : (recs : Records) → unique_pairs count range First recs ≡ firsts 0 recs
    firsts_are [] = refl
    firsts_are (rec ∷ recs) = let f = firsts_of rec recs in ap pairs f.is ∙ ap (λ z. (0, rec) ∷ z) f.behind

    -- so each record adds its own
    firsts_grow : (recs : Records) (rec : List ℕ) → unique_pairs count range First (recs ++ rec ∷ []) ≡ unique_pairs count range First recs ++ last_alone (unique_pairs count range First (recs ++ rec ∷ []))
    firsts_grow recs rec =
        let e = firsts_end 0 recs rec in
        let now : unique_pairs count range First (recs ++ rec ∷ []) ≡ unique_pairs count range First recs ++ e.0 ∷ [] = firsts_are (recs ++ rec ∷ []) ∙ e.1 ∙ ap (λ z. z ++ e.0 ∷ []) (sym (firsts_are recs)) in
        now ∙ ap (λ z. unique_pairs count range First recs ++ z) (sym (ap last_alone now ∙ the_last (unique_pairs count range First recs) e.0))

    first_pairs : (recs : Records) → pairs_of (unique count range First) recs ≡ unique_pairs count range First recs
    first_pairs recs =
        all_after (unique_pairs count range First) (λ all. last_alone (unique_pairs count range First all)) None never zero_code firsts_grow [] recs
        ∙ all_never (unique_pairs count range First) (λ all. last_alone (unique_pairs count range First all)) None never zero_code firsts_grow (λ all. refl) [] recs
        ∙ append-nil (unique_pairs count range First recs)

    -- The others

    module _ (keep : Keep) where
      abbrev but_last : Records → List Pair
      but_last recs = without_last (unique_pairs count range keep recs)

      abbrev the_last_of : Records → List Pair
      the_last_of recs = last_alone (unique_pairs count range keep recs)

      later_grow : (recs : Records) (rec : List ℕ) → but_last (recs ++ rec ∷ []) ≡ but_last recs ++ grown but_last (recs ++ rec ∷ [])
      later_grow recs rec = grown-all but_last recs rec (unique-grows count range keep recs rec)

      later_pairs : (recs : Records) → pairs_after (adding but_last (grown but_last) (Some the_last_of) never zero_code) [] recs ≡ unique_pairs count range keep recs
      later_pairs recs =
          all_after but_last (grown but_last) (Some the_last_of) never zero_code later_grow [] recs
          ∙ all_never but_last (grown but_last) (Some the_last_of) never zero_code later_grow (λ all. refl) [] recs
          ∙ with_last (unique_pairs count range keep recs)

  pub unique_puts : (count : Bool) (keep : Keep) (recs : Records) → pairs_of (unique count range keep) recs ≡ unique_pairs count range keep recs
  unique_puts count First recs = first_pairs count recs
  unique_puts count Last recs = later_pairs count Last recs
  unique_puts count Singles recs = later_pairs count Singles recs
  unique_puts count Multiple recs = later_pairs count Multiple recs
