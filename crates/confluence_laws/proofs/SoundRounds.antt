-- The rows of stages that read a record of each input and then act are sound: they take only what they see, and read only what they don't.
use Rattle.std.proofs.Common.{◌≡◌, ℕ, zero, suc, ◌+◌, ◌≤◌, ◌<◌, Bool, true, false, cond, ◌&&◌, ◌||◌, not, ◌==◌, List, [], ◌∷◌, refl, sym, ◌∙◌, ap, subst, arith, Option, Some, None, pos}
use Rattle.std.proofs.lemmas.Bool.{not-true, eqb-true}
use Rattle.std.specs.Prelude.{find, filter, map}
use Rattle.std.specs.List.{range_with_len}
use Rattle.pipe_model.specs.Event.{Event, Want, answers}
use Rattle.pipe_model.specs.Event.Event.{Saw, SawEnd}
use Rattle.pipe_model.specs.Event.Want.{Read}
use Rattle.pipe_model.specs.Row.{Pair, Goal, Known, Plan, sees, without, without_all}
use Rattle.pipe_model.specs.Row.Act.{Takes}
use Rattle.pipe_model.specs.Shape.{Rounding, row, ends, lacks, all_inputs, look, has_any, round_of, read_or_act, round_plan}
use Rattle.pipe_model.specs.Next.{hears, nothing_known}
use Rattle.pipe_model.specs.Members.{has}
use Rattle.pipe_model.proofs.Truths.{both}
use Rattle.pipe_model.proofs.Lists.{found_at}
use Rattle.confluence_laws.proofs.Facts.{Fits, IsLook, IsSound, IsFiniteRow, IsFiniteLook, NoRepeats, ReadsInRound, has_all, taken}
use Rattle.confluence_laws.proofs.SoundActs.{fits_writes, no_repeats}

-- What is taken

-- these inputs rise from a number on, and a record of each is in sight
abbrev Seen : ℕ → List Pair → List ℕ → Type 0
Seen from sight [] = Unit {0}
Seen from sight (i ∷ inputs) = (from ≤ i) × (sees i sight ≡ true) × Seen (suc i) sight inputs

-- from a lower number on they do too
seen_from : (least from : ℕ) (sight : List Pair) (inputs : List ℕ) → least ≤ from → Seen from sight inputs → Seen least sight inputs
seen_from least from sight [] below seen = tt
seen_from least from sight (i ∷ inputs) below seen = (let a = seen.0 in omega (arith, below, a), seen.1, seen.2)

-- a record of another input stays in sight
sees_other : (i j : ℕ) (sight : List Pair) → suc j ≤ i → sees i sight ≡ true → sees i (without j sight) ≡ true
sees_other i j [] above seen = cc
sees_other i j (p ∷ ps) above seen = by_first (p.0 == j) refl (p.0 == i) refl seen (λ q. sees_other i j ps above q)
  where
    by_first : (a : Bool) → (p.0 == j) ≡ a → (b : Bool) → (p.0 == i) ≡ b → (b || sees i ps) ≡ true → (sees i ps ≡ true → sees i (without j ps) ≡ true) → sees i (cond a ps (p ∷ without j ps)) ≡ true
    by_first true is true it q rest =
        let same : j ≡ i = sym (eqb-true p.0 j is) ∙ eqb-true p.0 i it in
        absurd (omega (arith, above, same))
    by_first true is false it q rest = q
    by_first false is true it q rest = ap (λ b. b || sees i (without j ps)) it
    by_first false is false it q rest = ap (λ b. b || sees i (without j ps)) it ∙ rest q

-- so the others are still in sight after the first of them was taken
seen_after : (j from : ℕ) (sight : List Pair) (inputs : List ℕ) → suc j ≤ from → Seen from sight inputs → Seen from (without j sight) inputs
seen_after j from sight [] above seen = tt
seen_after j from sight (i ∷ inputs) above seen =
    let a = seen.0 in (a, sees_other i j sight (omega (arith, above, a)) seen.1, seen_after j (suc i) sight inputs (omega (arith, above, a)) seen.2)

-- whatever passes a test that implies sight is in sight
seen_filter : (test : ℕ → Bool) (sight : List Pair) → ((i : ℕ) → test i ≡ true → sees i sight ≡ true) → (from n : ℕ) → Seen from sight (filter test (range_with_len from n))
seen_filter test sight each from zero = tt
seen_filter test sight each from (suc n) = by_test (test from) refl (seen_filter test sight each (from + 1) n)
  where
    by_test : (b : Bool) → test from ≡ b → Seen (from + 1) sight (filter test (range_with_len (from + 1) n)) → Seen from sight (cond b (from ∷ filter test (range_with_len (from + 1) n)) (filter test (range_with_len (from + 1) n)))
    by_test true is rest = (omega arith, each from is, seen_from (suc from) (from + 1) sight (filter test (range_with_len (from + 1) n)) (omega arith) rest)
    by_test false is rest = seen_from from (from + 1) sight (filter test (range_with_len (from + 1) n)) (omega arith) rest

-- a number of a range is below its end
in_range : (test : ℕ → Bool) (from n i : ℕ) → find test (range_with_len from n) ≡ Some i → i < from + n
in_range test from zero i found = cc
in_range test from (suc n) i found = by_test (test from) found (λ q. in_range test (from + 1) n i q)
  where
    by_test : (b : Bool) → cond b (Some from) (find test (range_with_len (from + 1) n)) ≡ Some i → (find test (range_with_len (from + 1) n) ≡ Some i → i < from + 1 + n) → i < from + suc n
    by_test true p rest = let same : from ≡ i = cc in omega (arith, same)
    by_test false p rest = let below = rest p in omega (arith, below)

-- what is left of what it knows
abbrev after_all : List ℕ → Known → Known
after_all inputs k = record k { sight = without_all inputs k.sight }

-- what is taken is in sight
fits_takes : (A : Known → Want → Type 0) (from : ℕ) (k : Known) (inputs : List ℕ) (goal : Goal) → Seen from k.sight inputs → Fits A (after_all inputs k) [] goal → Fits A k (map Takes inputs) goal
fits_takes A from k [] goal seen fits = fits
fits_takes A from k (i ∷ inputs) goal seen fits = (seen.1, fits_takes A (suc i) (taken i k) inputs goal (seen_after i (suc i) k.sight inputs (omega arith) seen.2) fits)

-- takings are no endless pairs
only_takes : (inputs : List ℕ) → NoRepeats (map Takes inputs)
only_takes [] = tt
only_takes (i ∷ inputs) = only_takes inputs

module _ (inputs : ℕ) (t : Rounding) where
  -- the input that it reads has no record in sight and hasn't ended
  reads : (k : Known) (i : ℕ) → has_all k.told ≡ false → find (lacks k.sight k.ends) (all_inputs inputs) ≡ Some i → ReadsInRound inputs k (Read i)
  reads k i on found =
      let lacking = both (not (sees i k.sight)) (not (has k.ends i)) (found_at (lacks k.sight k.ends) (all_inputs inputs) found).0 in
      record { input = i; want_is = refl; within = let a = in_range (lacks k.sight k.ends) 0 inputs i found in omega (arith, a); unseen = not-true (sees i k.sight) lacking.0; unended = not-true (has k.ends i) lacking.1; goes_on = on }

  -- what it looks for fits
  fits_look : (k : Known) (next : Option ℕ) → has_all k.told ≡ false → find (lacks k.sight k.ends) (all_inputs inputs) ≡ next → Fits (ReadsInRound inputs) k [] (look next)
  fits_look k (Some i) on found = reads k i on found
  fits_look k None on found = tt

  -- a round fits
  fits_round : (k : Known) → has_all k.told ≡ false → (sight : List Pair) → Fits (ReadsInRound inputs) k (round_of inputs t k sight).acts (round_of inputs t k sight).goal
  fits_round k on [] = tt
  fits_round k on (p ∷ ps) =
      let takes : ℕ → Bool = λ i. sees i k.sight && t.takes k i in
      let these = filter takes (all_inputs inputs) in
      let goal = look (find (lacks (without_all these k.sight) k.ends) (all_inputs inputs)) in
      fits_writes (ReadsInRound inputs) k (t.outs k) (map Takes these) goal
      (fits_takes (ReadsInRound inputs) 0 k these goal (seen_filter takes k.sight (λ i is. (both (sees i k.sight) (t.takes k i) is).0) 0 inputs) (fits_look (after_all these k) (find (lacks (without_all these k.sight) k.ends) (all_inputs inputs)) on refl))

  -- what it does fits wherever it stands
  fits_plan : (k : Known) → has_all k.told ≡ false → Fits (ReadsInRound inputs) k (round_plan inputs t k).acts (round_plan inputs t k).goal
  fits_plan k on = by_end (t.strict && has_any k.ends)
    where
      by_next : (next : Option ℕ) → find (lacks k.sight k.ends) (all_inputs inputs) ≡ next → Fits (ReadsInRound inputs) k (read_or_act inputs t k next).acts (read_or_act inputs t k next).goal
      by_next (Some i) found = reads k i on found
      by_next None found = fits_round k on k.sight

      by_end : (b : Bool) → (λ (plan : Plan). Fits (ReadsInRound inputs) k plan.acts plan.goal) (cond b (ends (pos 0)) (read_or_act inputs t k (find (lacks k.sight k.ends) (all_inputs inputs))))
      by_end true = tt
      by_end false = by_next (find (lacks k.sight k.ends) (all_inputs inputs)) refl

  -- an answer tells it no end of all
  still_on : (k : Known) (i : ℕ) (e : Event) → answers (Some (Read i)) e ≡ true → has_all k.told ≡ false → has_all (hears k e).told ≡ false
  still_on k i (Saw j rec) it on = on
  still_on k i (SawEnd j) it on = on
  still_on k i _ it on = cc

  -- so the row is sound
  pub round_sound : IsSound (ReadsInRound inputs) (row (round_plan inputs t)) inputs
  round_sound = record {
    looks = λ k want a. subst (IsLook inputs k) (sym a.want_is) a.within;
    starts = fits_plan nothing_known refl;
    goes = λ k want e a it. fits_plan (hears k e) (still_on k a.input e (subst (λ z. answers (Some z) e ≡ true) a.want_is it) a.goes_on);
  }

  -- and has no endless pairs
  pub round_finite : IsFiniteRow (ReadsInRound inputs) (row (round_plan inputs t))
  round_finite = record {
    looks = λ k want a. subst (IsFiniteLook k) (sym a.want_is) (a.unseen, a.unended);
    starts = quiet nothing_known;
    goes = λ k want e a it. quiet (hears k e);
  }
    where
      in_round : (k : Known) (sight : List Pair) → NoRepeats (round_of inputs t k sight).acts
      in_round k [] = tt
      in_round k (p ∷ ps) =
          let these = filter (λ i. sees i k.sight && t.takes k i) (all_inputs inputs) in
          no_repeats (t.outs k) (map Takes these) (only_takes these)

      by_next : (k : Known) (next : Option ℕ) → NoRepeats (read_or_act inputs t k next).acts
      by_next k (Some i) = tt
      by_next k None = in_round k k.sight

      quiet : (k : Known) → NoRepeats (round_plan inputs t k).acts
      quiet k = elim (t.strict && has_any k.ends) as (λ b. NoRepeats (cond b (ends (pos 0)) (read_or_act inputs t k (find (lacks k.sight k.ends) (all_inputs inputs)))).acts) [
        | true ↦ tt
        | false ↦ by_next k (find (lacks k.sight k.ends) (all_inputs inputs))
      ]
