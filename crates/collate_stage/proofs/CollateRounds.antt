-- What COLLATE's row says, by the master and the detail.
use Rattle.std.proofs.Common.{◌≡◌, ℕ, zero, suc, ◌+◌, ◌<◌, ◌≤◌, Bool, true, false, cond, ◌==◌, ◌&&◌, not, List, [], ◌∷◌, ◌++◌, map, refl, sym, ◌∙◌, ap, subst, arith, None, slice_get, pos}
use Rattle.std.specs.Prelude.{filter, find}
use Rattle.std.proofs.lemmas.Bool.{ne_eqb}
use Rattle.std.proofs.lemmas.Bool.Decides.{nat_tests}
use Rattle.pipe_model.specs.declared.range.Range.{Range}
use Rattle.pipe_model.specs.Event.Want.{Read}
use Rattle.pipe_model.specs.Inputs.{records_from}
use Rattle.pipe_model.specs.JoiningRows.{Turn, agree, turn_of, turn_in, collated, taken_in, collating}
use Rattle.pipe_model.specs.JoiningRows.Turn.{Match, Master, Detail}
use Rattle.pipe_model.specs.Keys.{is_less, is_same}
use Rattle.pipe_model.specs.Members.{has}
use Rattle.pipe_model.specs.Ranges.{part_of}
use Rattle.pipe_model.specs.Row.{Pair, Known, Plan, sees, without}
use Rattle.pipe_model.specs.Row.Act.{Writes, Takes}
use Rattle.pipe_model.specs.Row.Goal.{Asks}
use Rattle.pipe_model.specs.Shape.{Rounding, Records, writes, asks, ends, lacks, all_inputs, look, act_on, round_of, read_or_act, round_plan}
use Rattle.pipe_model.proofs.Truths.{not_second}
use Rattle.pipe_model.proofs.Numbers.{test_same}
use Rattle.stage_steps.specs.Plans.{last_from, known_done}
use Rattle.collate_stage.specs.declared.lane.At.{At}
use Rattle.collate_stage.specs.declared.lane.At.TheVariants.{Lacking, InSight, Ended}
use Rattle.collate_stage.specs.declared.lane.Lane.{Lane}
use Rattle.collate_stage.specs.declared.collate.Step.{Step}
use Rattle.collate_stage.specs.Collation.{lone_master, compared, step_by, step_of, step_acts, step_goal, match_count}
use Rattle.collate_stage.specs.Lanes.{is_lacking, in_sight, IsShown, LaneIs}
use Rattle.collate_stage.proofs.LaneSteps.{shown_of, none_of, goes_on, took_sight, took_other, lacks_is}
use Rattle.collate_stage.proofs.Numbered.{find_none, find_first, keep_one}
use Rattle.collate_stage.proofs.Sights.{sees_none, sees_one, not_among_none}

-- the master and the detail are in sight, and their keys are the same
abbrev pub is_match : Lane → Lane → Bool
is_match master detail = in_sight master.at && (in_sight detail.at && is_same master.key.items detail.key.items)

below_two : (P : ℕ → Type 0) → P 0 → P 1 → (j : ℕ) → j < 2 → P j
below_two P first second zero low = first
below_two P first second (suc zero) low = second
below_two P first second (suc (suc j)) low = absurd (omega (arith, low))

module _ (of_master of_detail : Range) (master detail : Lane) (k : Known) (master_is : LaneIs of_master k 0 master) (detail_is : LaneIs of_detail k 1 detail) (none_else : (i : ℕ) → 2 ≤ i → records_from i k.sight ≡ []) where
  abbrev row : Rounding
  row = collating of_master of_detail

  abbrev planned : Step → Plan
  planned step = record { acts = step_acts step k.seen; goal = step_goal step }

  -- It reads

  reads_master : is_lacking master.at ≡ true → round_plan 2 row k ≡ asks (Read 0)
  reads_master lacking = ap (read_or_act 2 row k) (find_first (lacks k.sight k.ends) 2 0 (omega arith) (lacks_is of_master k 0 master master_is ∙ lacking) (λ j low. absurd (omega (arith, low))))

  reads_detail : is_lacking master.at ≡ false → is_lacking detail.at ≡ true → round_plan 2 row k ≡ asks (Read 1)
  reads_detail stands lacking = ap (read_or_act 2 row k) (find_first (lacks k.sight k.ends) 2 1 (omega arith) (lacks_is of_detail k 1 detail detail_is ∙ lacking)
      (λ j low. (let it : 0 ≡ j = omega (arith, low) in subst (λ i. lacks k.sight k.ends i ≡ false) it (lacks_is of_master k 0 master master_is ∙ stands))))

  module _ (master_stands : is_lacking master.at ≡ false) (detail_stands : is_lacking detail.at ≡ false) where
    no_read : find (lacks k.sight k.ends) (all_inputs 2) ≡ None
    no_read = find_none (lacks k.sight k.ends) 2 (below_two (λ j. lacks k.sight k.ends j ≡ false) (lacks_is of_master k 0 master master_is ∙ master_stands) (lacks_is of_detail k 1 detail detail_is ∙ detail_stands))

    -- It ends

    nothing : in_sight master.at ≡ false → in_sight detail.at ≡ false → (sight : List Pair) → k.sight ≡ sight → sight ≡ []
    nothing no_master no_detail [] is = refl
    nothing no_master no_detail (p ∷ ps) is = absurd (not_among_none k.sight 0 p (ap (λ ps. slice_get ps 0) is) (none p.0))
      where
        none : (i : ℕ) → records_from i k.sight ≡ []
        none zero = none_of of_master k 0 master no_master master_is
        none (suc zero) = none_of of_detail k 1 detail no_detail detail_is
        none (suc (suc i)) = none_else (suc (suc i)) (omega arith)

    stops : in_sight master.at ≡ false → in_sight detail.at ≡ false → round_plan 2 row k ≡ ends (pos 0)
    stops no_master no_detail = ap (read_or_act 2 row k) no_read ∙ ap (round_of 2 row k) (nothing no_master no_detail k.sight refl)

    -- It acts

    some_round : (i : ℕ) (sight : List Pair) → sees i sight ≡ true → round_of 2 row k sight ≡ act_on 2 row k (filter (λ j. sees j k.sight && row.takes k j) (all_inputs 2))
    some_round i [] some = cc
    some_round i (p ∷ ps) some = refl

    acts : (i : ℕ) → i < 2 → sees i k.sight ≡ true → taken_in (turn_in of_master of_detail k.sight) ≡ i → lacks (without i k.sight) k.ends i ≡ true → ((j : ℕ) → j < i → lacks (without i k.sight) k.ends j ≡ false) →
        round_plan 2 row k ≡ record { acts = writes (row.outs k) ++ Takes i ∷ []; goal = Asks (Read i) }
    acts i low some taken again before =
        ap (read_or_act 2 row k) no_read
        ∙ some_round i k.sight some
        ∙ ap (act_on 2 row k) (keep_one (λ j. sees j k.sight && row.takes k j) 2 i low
        (ap (λ b. b && row.takes k i) some ∙ ap (λ n. i == n) taken ∙ test_same i)
        (λ j apart. not_second (sees j k.sight) (row.takes k j) (ap (λ n. j == n) taken ∙ ne_eqb j i apart)))
        ∙ ap (λ next. record { acts = writes (row.outs k) ++ Takes i ∷ []; goal = look next }) (find_first (lacks (without i k.sight) k.ends) 2 i low again before)

    acts_master : in_sight master.at ≡ true → taken_in (turn_in of_master of_detail k.sight) ≡ 0 → round_plan 2 row k ≡ record { acts = writes (row.outs k) ++ Takes 0 ∷ []; goal = Asks (Read 0) }
    acts_master in_it taken = acts 0 (omega arith) (sees_one 0 k.sight (shown_of of_master k 0 master in_it master_is).sight_is) taken
        (ap (λ b. not b && not (has k.ends 0)) (sees_none 0 (without 0 k.sight) (took_sight of_master k 0 master in_it master_is)) ∙ ap not (goes_on of_master k 0 master in_it master_is))
        (λ j low. absurd (omega (arith, low)))

    acts_detail : in_sight detail.at ≡ true → taken_in (turn_in of_master of_detail k.sight) ≡ 1 → round_plan 2 row k ≡ record { acts = writes (row.outs k) ++ Takes 1 ∷ []; goal = Asks (Read 1) }
    acts_detail in_it taken = acts 1 (omega arith) (sees_one 1 k.sight (shown_of of_detail k 1 detail in_it detail_is).sight_is) taken
        (ap (λ b. not b && not (has k.ends 1)) (sees_none 1 (without 1 k.sight) (took_sight of_detail k 1 detail in_it detail_is)) ∙ ap not (goes_on of_detail k 1 detail in_it detail_is))
        (λ j low. (let it : 0 ≡ j = omega (arith, low) in subst (λ i. lacks (without 1 k.sight) k.ends i ≡ false) it
        (lacks_is of_master (known_done (Takes 1) k) 0 master (took_other of_master k 1 0 master (λ e. absurd (omega (arith, e))) master_is) ∙ master_stands)))

    -- what it writes
    outs_are : (turn : Turn) (masters details : Records) → turn_in of_master of_detail k.sight ≡ turn → records_from 0 k.sight ≡ masters → records_from 1 k.sight ≡ details →
        row.outs k ≡ collated turn masters details (match_count of_master of_detail k)
    outs_are turn masters details turn_is masters_are details_are =
        ap (λ t. collated t (records_from 0 k.sight) (records_from 1 k.sight) (match_count of_master of_detail k)) turn_is
        ∙ ap (λ ms. collated turn ms (records_from 1 k.sight) (match_count of_master of_detail k)) masters_are
        ∙ ap (λ ds. collated turn masters ds (match_count of_master of_detail k)) details_are

    turn_is : (masters details : Records) → records_from 0 k.sight ≡ masters → records_from 1 k.sight ≡ details → turn_in of_master of_detail k.sight ≡ turn_of of_master of_detail masters details
    turn_is masters details masters_are details_are = ap (λ ms. turn_of of_master of_detail ms (records_from 1 k.sight)) masters_are ∙ ap (turn_of of_master of_detail masters) details_are

    -- a master that is over
    lone : (details : Records) (matched : Bool) → (in_it : in_sight master.at ≡ true) → records_from 1 k.sight ≡ details →
        turn_of of_master of_detail ((shown_of of_master k 0 master in_it master_is).rec ∷ []) details ≡ Master → (match_count of_master of_detail k == 0) ≡ not matched → round_plan 2 row k ≡ planned (lone_master matched)
    lone details matched in_it details_are turned counted =
        acts_master in_it (ap taken_in turns)
        ∙ ap (λ ps. record { acts = writes ps ++ Takes 0 ∷ []; goal = Asks (Read 0) }) (outs_are Master (shown.rec ∷ []) details turns shown.sight_is details_are)
        ∙ ap (λ b. record { acts = writes (map (λ rec. (1, rec)) (cond b (shown.rec ∷ []) [])) ++ Takes 0 ∷ []; goal = Asks (Read 0) }) counted
        ∙ by matched
      where
        shown : IsShown of_master k 0 master.key.items
        shown = shown_of of_master k 0 master in_it master_is

        turns : turn_in of_master of_detail k.sight ≡ Master
        turns = turn_is (shown.rec ∷ []) details shown.sight_is details_are ∙ turned

        by : (b : Bool) → record { acts = writes (map (λ rec. (1, rec)) (cond (not b) (shown.rec ∷ []) [])) ++ Takes 0 ∷ []; goal = Asks (Read 0) } ≡ planned (lone_master b)
        by true = refl
        by false = ap (λ rec. record { acts = Writes 1 rec ∷ Takes 0 ∷ []; goal = Asks (Read 0) }) (sym shown.last_is)

    -- a detail that no master matches
    lone_detail : (masters : Records) → (in_it : in_sight detail.at ≡ true) → records_from 0 k.sight ≡ masters →
        turn_of of_master of_detail masters ((shown_of of_detail k 1 detail in_it detail_is).rec ∷ []) ≡ Detail → round_plan 2 row k ≡ record { acts = Writes 2 (last_from k.seen 1) ∷ Takes 1 ∷ []; goal = Asks (Read 1) }
    lone_detail masters in_it masters_are turned =
        acts_detail in_it (ap taken_in turns)
        ∙ ap (λ ps. record { acts = writes ps ++ Takes 1 ∷ []; goal = Asks (Read 1) }) (outs_are Detail masters (shown.rec ∷ []) turns masters_are shown.sight_is)
        ∙ ap (λ rec. record { acts = Writes 2 rec ∷ Takes 1 ∷ []; goal = Asks (Read 1) }) (sym shown.last_is)
      where
        shown : IsShown of_detail k 1 detail.key.items
        shown = shown_of of_detail k 1 detail in_it detail_is

        turns : turn_in of_master of_detail k.sight ≡ Detail
        turns = turn_is masters (shown.rec ∷ []) masters_are shown.sight_is ∙ turned

    module _ (master_in : in_sight master.at ≡ true) (detail_in : in_sight detail.at ≡ true) where
      shown_master : IsShown of_master k 0 master.key.items
      shown_master = shown_of of_master k 0 master master_in master_is

      shown_detail : IsShown of_detail k 1 detail.key.items
      shown_detail = shown_of of_detail k 1 detail detail_in detail_is

      same_is : agree of_master of_detail shown_master.rec shown_detail.rec ≡ is_same master.key.items detail.key.items
      same_is = ap (λ key. is_same key (part_of of_detail shown_detail.rec)) shown_master.key_is ∙ ap (is_same master.key.items) shown_detail.key_is

      less_is : is_less (part_of of_master shown_master.rec) (part_of of_detail shown_detail.rec) ≡ is_less master.key.items detail.key.items
      less_is = ap (λ key. is_less key (part_of of_detail shown_detail.rec)) shown_master.key_is ∙ ap (is_less master.key.items) shown_detail.key_is

      -- the turn of both
      turn_of_both : turn_of of_master of_detail (shown_master.rec ∷ []) (shown_detail.rec ∷ []) ≡ cond (is_same master.key.items detail.key.items) Match (cond (is_less master.key.items detail.key.items) Master Detail)
      turn_of_both =
          ap (λ b. cond b Match (cond (is_less (part_of of_master shown_master.rec) (part_of of_detail shown_detail.rec)) Master Detail)) same_is
          ∙ ap (λ b. cond (is_same master.key.items detail.key.items) Match (cond b Master Detail)) less_is

      -- a detail that matches
      matching : (matched : Bool) → is_same master.key.items detail.key.items ≡ true → (match_count of_master of_detail k == 1) ≡ not matched → round_plan 2 row k ≡ planned (compared true false matched)
      matching matched same counted =
          acts_detail detail_in (ap taken_in turns)
          ∙ ap (λ ps. record { acts = writes ps ++ Takes 1 ∷ []; goal = Asks (Read 1) }) (outs_are Match (shown_master.rec ∷ []) (shown_detail.rec ∷ []) turns shown_master.sight_is shown_detail.sight_is)
          ∙ ap (λ b. record { acts = writes (map (λ rec. (0, rec)) (cond b (shown_master.rec ∷ shown_detail.rec ∷ []) (shown_detail.rec ∷ []))) ++ Takes 1 ∷ []; goal = Asks (Read 1) }) counted
          ∙ by matched
        where
          turns : turn_in of_master of_detail k.sight ≡ Match
          turns = turn_is (shown_master.rec ∷ []) (shown_detail.rec ∷ []) shown_master.sight_is shown_detail.sight_is ∙ turn_of_both ∙ ap (λ b. cond b Match (cond (is_less master.key.items detail.key.items) Master Detail)) same

          by : (b : Bool) → record { acts = writes (map (λ rec. (0, rec)) (cond (not b) (shown_master.rec ∷ shown_detail.rec ∷ []) (shown_detail.rec ∷ []))) ++ Takes 1 ∷ []; goal = Asks (Read 1) } ≡ planned (compared true false b)
          by true = ap (λ rec. record { acts = Writes 0 rec ∷ Takes 1 ∷ []; goal = Asks (Read 1) }) (sym shown_detail.last_is)
          by false =
              ap (λ rec. record { acts = Writes 0 rec ∷ Writes 0 shown_detail.rec ∷ Takes 1 ∷ []; goal = Asks (Read 1) }) (sym shown_master.last_is)
              ∙ ap (λ rec. record { acts = Writes 0 (last_from k.seen 0) ∷ Writes 0 rec ∷ Takes 1 ∷ []; goal = Asks (Read 1) }) (sym shown_detail.last_is)

  -- All of it: so many details matched the master in sight before, and the flag says whether there were any

  module _ (matched : Bool) (before : ℕ) (flagged : (before == 0) ≡ not matched) (counted : match_count of_master of_detail k ≡ cond (is_match master detail) (before + 1) before) where
    none_now : is_match master detail ≡ false → (match_count of_master of_detail k == 0) ≡ not matched
    none_now apart = ap (λ n. n == 0) (counted ∙ ap (λ b. cond b (before + 1) before) apart) ∙ flagged

    one_now : is_match master detail ≡ true → (match_count of_master of_detail k == 1) ≡ not matched
    one_now same = ap (λ n. n == 1) (counted ∙ ap (λ b. cond b (before + 1) before) same) ∙ one_more ∙ flagged
      where
        one_more : (before + 1 == 1) ≡ (before == 0)
        one_more = grind (arith, nat_tests)

    both : master.at ≡ InSight → detail.at ≡ InSight → (same : Bool) → is_same master.key.items detail.key.items ≡ same → (less : Bool) → is_less master.key.items detail.key.items ≡ less →
        round_plan 2 row k ≡ planned (compared same less matched)
    unfolding shown_master shown_detail
    both m_at d_at true same less is =
        matching (ap is_lacking m_at) (ap is_lacking d_at) (ap in_sight m_at) (ap in_sight d_at) matched same
        (one_now (ap (λ at. in_sight at && (in_sight detail.at && is_same master.key.items detail.key.items)) m_at ∙ ap (λ at. in_sight at && is_same master.key.items detail.key.items) d_at ∙ same))
    both m_at d_at false same true less =
        let shown = shown_of of_detail k 1 detail (ap in_sight d_at) detail_is in
        lone (ap is_lacking m_at) (ap is_lacking d_at) (shown.rec ∷ []) matched (ap in_sight m_at) shown.sight_is
        (turn_of_both (ap is_lacking m_at) (ap is_lacking d_at) (ap in_sight m_at) (ap in_sight d_at) ∙ ap (λ b. cond b Match (cond (is_less master.key.items detail.key.items) Master Detail)) same ∙ ap (λ b. cond b Master Detail) less)
        (none_now (ap (λ at. in_sight at && (in_sight detail.at && is_same master.key.items detail.key.items)) m_at ∙ ap (λ at. in_sight at && is_same master.key.items detail.key.items) d_at ∙ same))
    both m_at d_at false same false less =
        let shown = shown_of of_master k 0 master (ap in_sight m_at) master_is in
        lone_detail (ap is_lacking m_at) (ap is_lacking d_at) (shown.rec ∷ []) (ap in_sight d_at) shown.sight_is
        (turn_of_both (ap is_lacking m_at) (ap is_lacking d_at) (ap in_sight m_at) (ap in_sight d_at) ∙ ap (λ b. cond b Match (cond (is_less master.key.items detail.key.items) Master Detail)) same ∙ ap (λ b. cond b Master Detail) less)

    by_state : (a : At) → master.at ≡ a → (b : At) → detail.at ≡ b → round_plan 2 row k ≡ planned (step_by a b (is_same master.key.items detail.key.items) (is_less master.key.items detail.key.items) matched)
    by_state Lacking m_at b d_at = reads_master (ap is_lacking m_at)
    by_state InSight m_at Lacking d_at = reads_detail (ap is_lacking m_at) (ap is_lacking d_at)
    by_state InSight m_at InSight d_at = both m_at d_at (is_same master.key.items detail.key.items) refl (is_less master.key.items detail.key.items) refl
    by_state InSight m_at Ended d_at =
        lone (ap is_lacking m_at) (ap is_lacking d_at) [] matched (ap in_sight m_at) (none_of of_detail k 1 detail (ap in_sight d_at) detail_is) refl
        (none_now (ap (λ at. in_sight at && (in_sight detail.at && is_same master.key.items detail.key.items)) m_at ∙ ap (λ at. in_sight at && is_same master.key.items detail.key.items) d_at))
    by_state Ended m_at Lacking d_at = reads_detail (ap is_lacking m_at) (ap is_lacking d_at)
    by_state Ended m_at InSight d_at = lone_detail (ap is_lacking m_at) (ap is_lacking d_at) [] (ap in_sight d_at) (none_of of_master k 0 master (ap in_sight m_at) master_is) refl
    by_state Ended m_at Ended d_at = stops (ap is_lacking m_at) (ap is_lacking d_at) (ap in_sight m_at) (ap in_sight d_at)

    pub row_says : round_plan 2 row k ≡ planned (step_of master detail matched)
    row_says = by_state master.at refl detail.at refl
