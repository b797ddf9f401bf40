-- What MERGE's row says, by the inputs.
use Rattle.std.proofs.Common.{◌≡◌, ◌≢◌, ◌⊎◌, inl, inr, ℕ, ◌<◌, ◌≤◌, ltb, Bool, true, false, ◌==◌, ◌&&◌, not, List, [], ◌∷◌, ◌++◌, length, map, refl, sym, ◌∙◌, ap, subst, arith, Option, Some, None, slice_get, pos}
use Rattle.std.specs.Prelude.{filter, find, nat_le}
use Rattle.std.specs.List.{list_any}
use Rattle.std.proofs.lemmas.Bool.{eqb-true, ne_eqb}
use Rattle.std.proofs.lemmas.Bool.Decides.{nat_tests}
use Rattle.pipe_model.specs.declared.range.Range.{Range}
use Rattle.pipe_model.specs.Event.Want.{Read}
use Rattle.pipe_model.specs.Inputs.{records_from}
use Rattle.pipe_model.specs.JoiningRows.{goes_first, is_least, merging}
use Rattle.pipe_model.specs.Ranges.{part_of}
use Rattle.pipe_model.specs.Row.{Pair, Known, sees, without}
use Rattle.pipe_model.specs.Row.Act.{Writes, Takes}
use Rattle.pipe_model.specs.Row.Goal.{Asks}
use Rattle.pipe_model.specs.Shape.{writes, ends, records_of, lacks, all_inputs, look, act_on, round_of, read_or_act, round_plan}
use Rattle.pipe_model.proofs.Truths.{not_second}
use Rattle.pipe_model.proofs.Lists.{at_some, all_from}
use Rattle.pipe_model.proofs.Numbers.{equal_or_not, test_same}
use Rattle.stage_steps.specs.Plans.{last_from, known_done}
use Rattle.collate_stage.specs.declared.lane.Lane.{Lane}
use Rattle.collate_stage.specs.Lanes.{is_lacking, in_sight, IsShown, LaneIs}
use Rattle.collate_stage.specs.Merging.{AreLanes, IsFirst, IsLeast, IsReading, IsTurning}
use Rattle.collate_stage.specs.Queues.{leads}
use Rattle.collate_stage.proofs.LaneSteps.{shown_of, none_of, goes_on, took_sight, took_other, lacks_is}
use Rattle.collate_stage.proofs.Leading.{leads_other}
use Rattle.collate_stage.proofs.Numbered.{find_none, find_first, keep_one}
use Rattle.collate_stage.proofs.Sights.{sees_none, sees_one, stands_at, not_among_none, is_the_one, any_at, any_none, not_all, keep_same, some_within}

pub low_or : (a b : ℕ) → (a < b) ⊎ (b ≤ a)
low_or a b = by (ltb a b) refl
  where
    by : (t : Bool) → ltb a b ≡ t → (a < b) ⊎ (b ≤ a)
    by true is = inl (grind (arith, nat_tests))
    by false is = inr (grind (arith, nat_tests))

module _ (range : Range) (lanes : List Lane) (k : Known) (are : AreLanes range lanes k) where
  -- whether an input is to be read
  lacking_at : (b : Bool) (j : ℕ) → j < length lanes → ((lane : Lane) → slice_get lanes j ≡ Some lane → is_lacking lane.at ≡ b) → lacks k.sight k.ends j ≡ b
  lacking_at b j low each = let r = at_some lanes j low in lacks_is range k j r.0 (are.each j r.0 r.1) ∙ each r.0 r.1

  -- the input of a record in sight
  record OfPair (p : Pair) : Type 0 where
    lane : Lane
    here : slice_get lanes p.0 ≡ Some lane
    sees : in_sight lane.at ≡ true
    key_is : part_of range p.1 ≡ lane.key.items

  of_lane : (at : ℕ) (p : Pair) → slice_get k.sight at ≡ Some p → (lane : Lane) → slice_get lanes p.0 ≡ Some lane → OfPair p
  of_lane at p here lane there = by (in_sight lane.at) refl
    where
      by : (b : Bool) → in_sight lane.at ≡ b → OfPair p
      by true sees =
          let shown = shown_of range k p.0 lane sees (are.each p.0 lane there) in
          record { lane = lane; here = there; sees = sees; key_is = ap (part_of range) (is_the_one k.sight at p here shown.sight_is) ∙ shown.key_is }
      by false hides = absurd (not_among_none k.sight at p here (none_of range k p.0 lane hides (are.each p.0 lane there)))

  of_pair : (at : ℕ) (p : Pair) → slice_get k.sight at ≡ Some p → OfPair p
  of_pair at p here = elim (low_or p.0 (length lanes)) [
    | inl low ↦ (let r = at_some lanes p.0 low in of_lane at p here r.0 r.1)
    | inr past ↦ absurd (not_among_none k.sight at p here (are.none_else p.0 past))
  ]

  -- Nothing is in sight

  nothing : IsLeast lanes (length lanes) None → (sight : List Pair) → k.sight ≡ sight → sight ≡ []
  nothing none [] is = refl
  nothing none (p ∷ ps) is =
      let it = of_pair 0 p (ap (λ ps. slice_get ps 0) is) in
      absurd (let e : false ≡ true = sym (none p.0 it.lane (some_within lanes p.0 it.here) it.here) ∙ it.sees in cc)

  -- Something is in sight, of which the record of input m goes first

  module _ (m : ℕ) (first : IsFirst lanes (length lanes) m) where
    shown : IsShown range k m first.lane.key.items
    shown = shown_of range k m first.lane first.sees (are.each m first.lane first.here)

    -- one record goes first by its key, as its input does
    leads_is : (p q : Pair) (key other : List ℕ) → part_of range p.1 ≡ key → part_of range q.1 ≡ other → (i j : ℕ) → p.0 ≡ i → q.0 ≡ j → (b : Bool) → leads key i other j ≡ b → goes_first range p q ≡ b
    leads_is p q key other key_is other_is i j i_is j_is b is =
        ap (λ x. leads x p.0 (part_of range q.1) q.0) key_is ∙ ap (λ x. leads key p.0 x q.0) other_is ∙ ap (λ x. leads key x other q.0) i_is ∙ ap (λ x. leads key i other x) j_is ∙ is

    -- the key of a record in sight on input m
    key_at : (p : Pair) → OfPair p → p.0 ≡ m → part_of range p.1 ≡ first.lane.key.items
    key_at p it same =
        let there : slice_get lanes m ≡ Some it.lane = subst (λ i. slice_get lanes i ≡ Some it.lane) same it.here in
        let one : it.lane ≡ first.lane = same_some there first.here in
        it.key_is ∙ ap (λ (l : Lane). l.key.items) one
      where
        same_some : {a b : Lane} {o : Option Lane} → o ≡ Some a → o ≡ Some b → a ≡ b
        same_some e f = cc

    -- no record in sight leads it
    none_before : (p : Pair) → OfPair p → p.0 ≡ m → (j : ℕ) (q : Pair) → slice_get k.sight j ≡ Some q → not (goes_first range q p) ≡ true
    none_before p of same j q at =
        let it = of_pair j q at in
        ap not (leads_is q p it.lane.key.items first.lane.key.items it.key_is (key_at p of same) q.0 m refl same false (first.first q.0 it.lane (some_within lanes q.0 it.here) it.here it.sees))

    least_is : (at : ℕ) (p : Pair) → slice_get k.sight at ≡ Some p → is_least range k.sight p ≡ (p.0 == m)
    least_is at p here = by (of_pair at p here) (equal_or_not p.0 m)
      where
        by : OfPair p → (p.0 ≡ m) ⊎ (p.0 ≢ m) → is_least range k.sight p ≡ (p.0 == m)
        by it (inl same) = all_from (λ q. not (goes_first range q p)) k.sight (none_before p it same) ∙ sym (ap (λ i. i == m) same ∙ test_same m)
        by it (inr apart) =
            let there = stands_at m k.sight shown.sight_is in
            not_all (λ q. not (goes_first range q p)) k.sight there.0 there.1
            (ap not (leads_is (m, shown.rec) p first.lane.key.items it.lane.key.items shown.key_is it.key_is m p.0 refl refl true
            (leads_other it.lane.key.items first.lane.key.items p.0 m apart (first.first p.0 it.lane (some_within lanes p.0 it.here) it.here it.sees))))
            ∙ sym (ne_eqb p.0 m apart)

    -- it writes that record
    outs_are : (merging range).outs k ≡ (0, last_from k.seen m) ∷ []
    outs_are =
        ap (λ (ps : List Pair). map (λ rec. (0, rec)) (records_of ps)) (keep_same (is_least range k.sight) (λ p. p.0 == m) k.sight least_is)
        ∙ ap (map (λ rec. (0, rec))) shown.sight_is
        ∙ ap (λ rec. (0, rec) ∷ []) (sym shown.last_is)

    -- and takes it
    takes_that : (i : ℕ) → i ≢ m → (merging range).takes k i ≡ false
    takes_that i apart = any_none (λ p. p.0 == i && is_least range k.sight p) k.sight (λ j p at. by j p at (p.0 == i) refl)
      where
        by : (j : ℕ) (p : Pair) → slice_get k.sight j ≡ Some p → (b : Bool) → (p.0 == i) ≡ b → ((p.0 == i) && is_least range k.sight p) ≡ false
        by j p at true is = not_second (p.0 == i) (is_least range k.sight p) (least_is j p at ∙ ne_eqb p.0 m (λ e. apart (sym (eqb-true p.0 i is) ∙ e)))
        by j p at false is = ap (λ b. b && is_least range k.sight p) is

    takes_it : (merging range).takes k m ≡ true
    takes_it =
        let there = stands_at m k.sight shown.sight_is in
        any_at (λ p. p.0 == m && is_least range k.sight p) k.sight there.0 there.1
        (ap (λ b. b && is_least range k.sight (m, shown.rec)) (test_same m) ∙ least_is there.0 (m, shown.rec) there.1 ∙ test_same m)

    takes_are : filter (λ i. sees i k.sight && (merging range).takes k i) (all_inputs (length lanes)) ≡ m ∷ []
    takes_are = keep_one (λ i. sees i k.sight && (merging range).takes k i) (length lanes) m first.below
        (ap (λ b. b && (merging range).takes k m) (sees_one m k.sight shown.sight_is) ∙ takes_it)
        (λ i apart. not_second (sees i k.sight) ((merging range).takes k i) (takes_that i apart))

    -- only its input is to be read then
    reads_it : ((j : ℕ) (lane : Lane) → slice_get lanes j ≡ Some lane → is_lacking lane.at ≡ false) → find (lacks (without m k.sight) k.ends) (all_inputs (length lanes)) ≡ Some m
    reads_it none = find_first (lacks (without m k.sight) k.ends) (length lanes) m first.below
        (ap (λ b. not b && not (has_ended m)) (sees_none m (without m k.sight) (took_sight range k m first.lane first.sees at_m)) ∙ ap not (goes_on range k m first.lane first.sees at_m))
        (λ j low. other j low (at_some lanes j (let high = first.below in omega (arith, low, high))))
      where
        at_m : LaneIs range k m first.lane
        at_m = are.each m first.lane first.here

        has_ended : ℕ → Bool
        has_ended i = list_any (λ y. y == i) k.ends

        other : (j : ℕ) → j < m → (lane : Lane) × (slice_get lanes j ≡ Some lane) → lacks (without m k.sight) k.ends j ≡ false
        other j low r = lacks_is range (known_done (Takes m) k) j r.0 (took_other range k m j r.0 (λ e. absurd (omega (arith, low, e))) (are.each j r.0 r.1)) ∙ none j r.0 r.1

    some_round : (sight : List Pair) → records_from m sight ≡ shown.rec ∷ [] → round_of (length lanes) (merging range) k sight ≡ act_on (length lanes) (merging range) k (filter (λ i. sees i k.sight && (merging range).takes k i) (all_inputs (length lanes)))
    some_round [] some = cc
    some_round (p ∷ ps) some = refl

    turn_is : ((j : ℕ) (lane : Lane) → slice_get lanes j ≡ Some lane → is_lacking lane.at ≡ false) →
        round_of (length lanes) (merging range) k k.sight ≡ record { acts = Writes 0 (last_from k.seen m) ∷ Takes m ∷ []; goal = Asks (Read m) }
    turn_is none =
        some_round k.sight shown.sight_is
        ∙ ap (act_on (length lanes) (merging range) k) takes_are
        ∙ ap (λ ps. record { acts = writes ps ++ Takes m ∷ []; goal = look (find (lacks (without m k.sight) k.ends) (all_inputs (length lanes))) }) outs_are
        ∙ ap (λ next. record { acts = Writes 0 (last_from k.seen m) ∷ Takes m ∷ []; goal = look next }) (reads_it none)

  -- What it does when it heard something

  module _ (opened : ℕ) (lacking : (j : ℕ) (lane : Lane) → slice_get lanes j ≡ Some lane → is_lacking lane.at ≡ nat_le opened j) where
    -- it reads an input that was never read
    pub reads : opened < length lanes → IsReading opened opened lanes (round_plan (length lanes) (merging range) k)
    reads low = record {
      left_is = ap (read_or_act (length lanes) (merging range) k) (find_first (lacks k.sight k.ends) (length lanes) opened low
          (lacking_at true opened low (λ lane at. lacking opened lane at ∙ grind (arith, nat_tests)))
          (λ j below. lacking_at false j (omega (arith, low, below)) (λ lane at. lacking j lane at ∙ grind (arith, nat_tests))));
      within = low;
      low = omega arith;
      high = omega (arith, low);
      lacking = λ j lane at. lacking j lane at ∙ grind (arith, nat_tests);
    }

    none_lacks : length lanes ≤ opened → (j : ℕ) (lane : Lane) → slice_get lanes j ≡ Some lane → is_lacking lane.at ≡ false
    none_lacks all j lane at = let low = some_within lanes j at in lacking j lane at ∙ grind (arith, nat_tests)

    no_read : length lanes ≤ opened → find (lacks k.sight k.ends) (all_inputs (length lanes)) ≡ None
    no_read all = find_none (lacks k.sight k.ends) (length lanes) (λ j low. lacking_at false j low (none_lacks all j))

    -- it writes the record that goes first
    pub turns : (m : ℕ) → length lanes ≡ opened → IsFirst lanes (length lanes) m →
        IsTurning (Writes 0 (last_from k.seen m) ∷ Takes m ∷ []) m opened lanes (round_plan (length lanes) (merging range) k)
    turns m all first = record {
      left_is = ap (read_or_act (length lanes) (merging range) k) (no_read (omega (arith, all))) ∙ turn_is m first (none_lacks (omega (arith, all)));
      lane = first.lane;
      here = first.here;
      sees = first.sees;
      all_opened = sym all;
      lacking = none_lacks (omega (arith, all));
    }

    -- or ends
    pub stops : length lanes ≤ opened → IsLeast lanes (length lanes) None → round_plan (length lanes) (merging range) k ≡ ends (pos 0)
    stops all none = ap (read_or_act (length lanes) (merging range) k) (no_read all) ∙ ap (round_of (length lanes) (merging range) k) (nothing none k.sight refl)
