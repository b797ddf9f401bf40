-- COLLATE's value, one call further.
use Rattle.std.proofs.Common.{◌≡◌, ◌⊎◌, inl, inr, ℕ, ◌+◌, ◌<◌, ◌≤◌, Bool, true, false, cond, ◌==◌, ◌&&◌, ◌||◌, not, List, [], ◌∷◌, length, refl, sym, ◌∙◌, ap, subst, arith, Some}
use Rattle.std.specs.Prelude.{filter}
use Rattle.std.specs.List.{list_any}
use Rattle.std.proofs.lemmas.Bool.{eqb-true}
use Rattle.std.proofs.lemmas.Bool.Decides.{nat_tests}
use Rattle.pipe_model.specs.declared.range.Range.{Range}
use Rattle.pipe_model.specs.Event.{Want, answers}
use Rattle.pipe_model.specs.Event.Event.{Saw, SawEnd}
use Rattle.pipe_model.specs.Event.Want.{Read}
use Rattle.pipe_model.specs.Inputs.{records_from}
use Rattle.pipe_model.specs.JoiningRows.{agree, detail_then, beside_master, matches, collating}
use Rattle.pipe_model.specs.Keys.{is_less, is_same}
use Rattle.pipe_model.specs.Next.{hears}
use Rattle.pipe_model.specs.Ranges.{part_of}
use Rattle.pipe_model.specs.Row.{Pair, Act, Known, Plan, without}
use Rattle.pipe_model.specs.Row.Act.{Writes, Takes}
use Rattle.pipe_model.specs.Row.Goal.{Asks}
use Rattle.pipe_model.specs.Shape.{Records, asks, round_plan}
use Rattle.pipe_model.proofs.Truths.{not_second}
use Rattle.stage_steps.specs.Plans.{last_from, known_done, with_acts, Plans, PlansBySight}
use Rattle.collate_stage.specs.declared.lane.At.{At}
use Rattle.collate_stage.specs.declared.lane.At.TheVariants.{Lacking, InSight, Ended}
use Rattle.collate_stage.specs.declared.lane.Lane.{Lane}
use Rattle.collate_stage.specs.declared.collate.Step.{Step}
use Rattle.collate_stage.specs.declared.collate.Step.TheVariants as Steps
use Rattle.collate_stage.specs.declared.collate.Collate.{Collate}
use Rattle.collate_stage.specs.Collation.{step_by, step_of, has_matched, step_acts, step_goal, fits_master, fits_detail, is_reading_detail, match_count, CollateIs, HearsOn, IsKeyed, IsEnded}
use Rattle.collate_stage.specs.Lanes.{is_lacking, in_sight, LaneIs}
use Rattle.collate_stage.proofs.CollateRounds.{is_match, row_says}
use Rattle.collate_stage.proofs.LaneSteps.{sight_more, sight_here, sight_none, none_lacking, saw_here, saw_other, end_here, end_other, took_here, took_other, took_sight, shown_of, none_of}
use Rattle.collate_stage.proofs.Sights.{without_other}

-- Once an input was heard

fits_master_on : (a b : At) (same less matched : Bool) → fits_master (step_by a b same less matched) a ≡ true
fits_master_on Lacking b same less matched = refl
fits_master_on InSight Lacking same less matched = refl
fits_master_on InSight InSight true less true = refl
fits_master_on InSight InSight true less false = refl
fits_master_on InSight InSight false true true = refl
fits_master_on InSight InSight false true false = refl
fits_master_on InSight InSight false false matched = refl
fits_master_on InSight Ended same less true = refl
fits_master_on InSight Ended same less false = refl
fits_master_on Ended Lacking same less matched = refl
fits_master_on Ended InSight same less matched = refl
fits_master_on Ended Ended same less matched = refl

fits_detail_on : (a b : At) (same less matched : Bool) → fits_detail (step_by a b same less matched) b ≡ true
fits_detail_on Lacking b same less matched = refl
fits_detail_on InSight Lacking same less matched = refl
fits_detail_on InSight InSight true less true = refl
fits_detail_on InSight InSight true less false = refl
fits_detail_on InSight InSight false true true = refl
fits_detail_on InSight InSight false true false = refl
fits_detail_on InSight InSight false false matched = refl
fits_detail_on InSight Ended same less true = refl
fits_detail_on InSight Ended same less false = refl
fits_detail_on Ended Lacking same less matched = refl
fits_detail_on Ended InSight same less matched = refl
fits_detail_on Ended Ended same less matched = refl

matched_on : (a b : At) (same less matched : Bool) → has_matched (step_by a b same less matched) matched ≡ (in_sight a && (in_sight b && same) || matched)
matched_on Lacking b same less matched = refl
matched_on InSight Lacking same less matched = refl
matched_on InSight InSight true less true = refl
matched_on InSight InSight true less false = refl
matched_on InSight InSight false true true = refl
matched_on InSight InSight false true false = refl
matched_on InSight InSight false false matched = refl
matched_on InSight Ended same less true = refl
matched_on InSight Ended same less false = refl
matched_on Ended Lacking same less matched = refl
matched_on Ended InSight same less matched = refl
matched_on Ended Ended same less matched = refl

count_on : (b matched : Bool) (n before : ℕ) → (before == 0) ≡ not matched → n ≡ cond b (before + 1) before → (n == 0) ≡ not (b || matched)
count_on true matched n before flagged counted = ap (λ m. m == 0) counted ∙ more
  where
    more : (before + 1 == 0) ≡ false
    more = grind (arith, nat_tests)
count_on false matched n before flagged counted = ap (λ m. m == 0) counted ∙ flagged

-- what the strand knows then, with the master and the detail
record IsHeard (x : Collate) (master detail : Lane) (k : Known) : Type 0 where
  master_is : LaneIs x.of_master k 0 master
  detail_is : LaneIs x.of_detail k 1 detail
  none_else : (i : ℕ) → 2 ≤ i → records_from i k.sight ≡ []
  before : ℕ
  flagged : (before == 0) ≡ not x.matched
  counted : match_count x.of_master x.of_detail k ≡ cond (is_match master detail) (before + 1) before
  beside_is : detail_then k.told ≡ records_from 1 k.sight

-- what a value does then
record Goes (x y : Collate) (master detail : Lane) : Type 0 where
  of_master_is : y.of_master ≡ x.of_master
  of_detail_is : y.of_detail ≡ x.of_detail
  lane_is : y.master ≡ master
  other_is : y.detail ≡ detail
  step_is : y.step ≡ step_of master detail x.matched
  matched_is : y.matched ≡ has_matched (step_of master detail x.matched) x.matched

stands_on : (x y : Collate) (master detail : Lane) (plan : Known → Plan) (k : Known) → plan ≡ round_plan 2 (collating x.of_master x.of_detail) → IsHeard x master detail k → Goes x y master detail → CollateIs y plan k (plan k)
stands_on x y master detail plan k plan_is heard goes =
    subst (λ z. CollateIs (record { of_master = z; of_detail = y.of_detail; master = y.master; detail = y.detail; matched = y.matched; step = y.step }) plan k (plan k)) (sym goes.of_master_is)
    (subst (λ z. CollateIs (record { of_master = x.of_master; of_detail = z; master = y.master; detail = y.detail; matched = y.matched; step = y.step }) plan k (plan k)) (sym goes.of_detail_is)
    (subst (λ z. CollateIs (record { of_master = x.of_master; of_detail = x.of_detail; master = z; detail = y.detail; matched = y.matched; step = y.step }) plan k (plan k)) (sym goes.lane_is)
    (subst (λ z. CollateIs (record { of_master = x.of_master; of_detail = x.of_detail; master = master; detail = z; matched = y.matched; step = y.step }) plan k (plan k)) (sym goes.other_is)
    (subst (λ z. CollateIs (record { of_master = x.of_master; of_detail = x.of_detail; master = master; detail = detail; matched = z; step = y.step }) plan k (plan k)) (sym goes.matched_is)
    (subst (λ z. CollateIs (record { of_master = x.of_master; of_detail = x.of_detail; master = master; detail = detail; matched = has_matched step x.matched; step = z }) plan k (plan k)) (sym goes.step_is)
    (record {
      plan_is = plan_is;
      master_is = heard.master_is;
      detail_is = heard.detail_is;
      none_else = heard.none_else;
      count_is = count_on (is_match master detail) x.matched (match_count x.of_master x.of_detail k) heard.before heard.flagged heard.counted
          ∙ ap not (sym (matched_on master.at detail.at (is_same master.key.items detail.key.items) less x.matched));
      beside_is = λ _. heard.beside_is;
      master_fits = fits_master_on master.at detail.at (is_same master.key.items detail.key.items) less x.matched;
      detail_fits = fits_detail_on master.at detail.at (is_same master.key.items detail.key.items) less x.matched;
      left_is = ap (λ (f : Known → Plan). f k) plan_is ∙ row_says x.of_master x.of_detail master detail k heard.master_is heard.detail_is heard.none_else x.matched heard.before heard.flagged heard.counted;
    }))))))
  where
    less : Bool
    less = is_less master.key.items detail.key.items

    step : Step
    step = step_of master detail x.matched

-- How many details matched

module _ (of_master of_detail : Range) where
  -- without a master none did
  no_match : (masters details : Records) → masters ≡ [] → length (filter (λ detail. list_any (λ master. agree of_master of_detail master detail) masters) details) ≡ 0
  no_match masters details none = ap (λ ms. length (filter (λ detail. list_any (λ master. agree of_master of_detail master detail) ms) details)) none ∙ none_kept details
    where
      none_kept : (details : Records) → length (filter (λ (detail : List ℕ). false) details) ≡ 0
      none_kept [] = refl
      none_kept (d ∷ details) = none_kept details

  -- with a master and at most one detail
  one_match : (master detail : List ℕ) → length (filter (λ detail. list_any (λ master. agree of_master of_detail master detail) (master ∷ [])) (detail ∷ [])) ≡ cond (agree of_master of_detail master detail) 1 0
  one_match master detail = elim (agree of_master of_detail master detail) as (λ b. length (cond (b || false) (detail ∷ []) []) ≡ cond b 1 0) [ true ↦ refl | false ↦ refl ]

one_longer : (b : Bool) (x : List ℕ) (xs : Records) → length (cond b (x ∷ xs) xs) ≡ cond b (length xs + 1) (length xs)
one_longer true x xs = omega arith
one_longer false x xs = refl

or_false : (b : Bool) → (b || false) ≡ b
or_false true = refl
or_false false = refl

-- It was reading

was_reading : (step : Step) (seen : List Pair) (want : Want) → asks want ≡ record { acts = step_acts step seen; goal = step_goal step } → ((step ≡ Steps.ReadMaster) × (want ≡ Read 0)) ⊎ ((step ≡ Steps.ReadDetail) × (want ≡ Read 1))
was_reading step seen want is = by step (ap (λ (p : Plan). p.acts) is) (ap (λ (p : Plan). p.goal) is)
  where
    by : (s : Step) → [] ≡ step_acts s seen → Asks want ≡ step_goal s → ((s ≡ Steps.ReadMaster) × (want ≡ Read 0)) ⊎ ((s ≡ Steps.ReadDetail) × (want ≡ Read 1))
    by Steps.WriteBoth acts goal = cc
    by Steps.WriteMatch acts goal = cc
    by Steps.WriteMaster acts goal = cc
    by Steps.WriteDetail acts goal = cc
    by Steps.TakeMaster acts goal = cc
    by Steps.TakeDetail acts goal = cc
    by Steps.ReadMaster acts goal = inl (refl, cc)
    by Steps.ReadDetail acts goal = inr (refl, cc)
    by Steps.End acts goal = cc

saw_it : (want : Want) (i m : ℕ) (rec : List ℕ) → want ≡ Read m → answers (Some want) (Saw i rec) ≡ true → i ≡ m
saw_it want i m rec is fits = eqb-true i m (subst (λ w. answers (Some w) (Saw i rec) ≡ true) is fits)

end_it : (want : Want) (i m : ℕ) → want ≡ Read m → answers (Some want) (SawEnd i) ≡ true → i ≡ m
end_it want i m is fits = eqb-true i m (subst (λ w. answers (Some w) (SawEnd i) ≡ true) is fits)

-- What is heard

module _ (x : Collate) (k : Known) (plan : Known → Plan) (left : Plan) (is : CollateIs x plan k left) where
  master_of : Steps.ReadMaster ≡ x.step → is_lacking x.master.at ≡ true
  master_of step = subst (λ s. fits_master s x.master.at ≡ true) (sym step) is.master_fits

  beside_of : Steps.ReadMaster ≡ x.step → detail_then k.told ≡ records_from 1 k.sight
  beside_of step = is.beside_is (ap is_reading_detail (sym step))

  detail_of : Steps.ReadDetail ≡ x.step → is_lacking x.detail.at ≡ true
  detail_of step = subst (λ s. fits_detail s x.detail.at ≡ true) (sym step) is.detail_fits

  no_master : Steps.ReadMaster ≡ x.step → records_from 0 k.sight ≡ []
  no_master step = none_lacking x.of_master k 0 x.master.key.items x.master.at (master_of step) is.master_is.sight_is

  no_detail : Steps.ReadDetail ≡ x.step → records_from 1 k.sight ≡ []
  no_detail step = none_lacking x.of_detail k 1 x.detail.key.items x.detail.at (detail_of step) is.detail_is.sight_is

  -- without a master the flag isn't set
  not_matched : Steps.ReadMaster ≡ x.step → true ≡ not x.matched
  not_matched step = sym (ap (λ n. n == 0) (no_match x.of_master x.of_detail (records_from 0 k.sight) (beside_master k.told) (no_master step))) ∙ is.count_is

  -- a master was seen
  saw_master : (master : Lane) (rec : List ℕ) → Steps.ReadMaster ≡ x.step → IsKeyed (part_of x.of_master rec) master → IsHeard x master x.detail (hears k (Saw 0 rec))
  saw_master master rec step keyed = record {
    master_is = saw_here x.of_master k 0 rec x.master master (master_of step) is.master_is keyed.0 keyed.1;
    detail_is = saw_other x.of_detail k 0 1 rec x.detail (λ e. absurd (omega (arith, e))) is.detail_is;
    none_else = λ i high. sight_none x.of_master k 0 i rec (λ e. absurd (omega (arith, high, e))) (is.none_else i high);
    before = 0;
    flagged = not_matched step;
    counted =
        ap (λ ms. length (matches x.of_master x.of_detail ms (Saw 0 rec ∷ k.told))) (sight_here x.of_master k 0 rec (no_master step))
        ∙ ap (λ ds. length (filter (λ detail. list_any (λ master. agree x.of_master x.of_detail master detail) (rec ∷ [])) ds)) (beside_of step)
        ∙ by (in_sight x.detail.at) refl
        ∙ sym (ap (λ b. cond b 1 0) (ap (λ at. in_sight at && (in_sight x.detail.at && is_same master.key.items x.detail.key.items)) keyed.1));
    beside_is = beside_of step ∙ sym (sight_more x.of_master k 0 1 rec (λ e. absurd (omega (arith, e))));
  }
    where
      by : (b : Bool) → in_sight x.detail.at ≡ b →
          length (filter (λ detail. list_any (λ master. agree x.of_master x.of_detail master detail) (rec ∷ [])) (records_from 1 k.sight)) ≡ cond (in_sight x.detail.at && is_same master.key.items x.detail.key.items) 1 0
      by true in_it =
          let shown = shown_of x.of_detail k 1 x.detail in_it is.detail_is in
          ap (λ ds. length (filter (λ detail. list_any (λ master. agree x.of_master x.of_detail master detail) (rec ∷ [])) ds)) shown.sight_is
          ∙ one_match x.of_master x.of_detail rec shown.rec
          ∙ ap (λ key. cond (is_same (part_of x.of_master rec) key) 1 0) shown.key_is
          ∙ ap (λ key. cond (is_same key x.detail.key.items) 1 0) (sym keyed.0)
          ∙ sym (ap (λ b. cond (b && is_same master.key.items x.detail.key.items) 1 0) in_it)
      by false out =
          ap (λ ds. length (filter (λ detail. list_any (λ master. agree x.of_master x.of_detail master detail) (rec ∷ [])) ds)) (none_of x.of_detail k 1 x.detail out is.detail_is)
          ∙ sym (ap (λ b. cond (b && is_same master.key.items x.detail.key.items) 1 0) out)

  -- a detail was seen
  saw_detail : (detail : Lane) (rec : List ℕ) → Steps.ReadDetail ≡ x.step → IsKeyed (part_of x.of_detail rec) detail → IsHeard x x.master detail (hears k (Saw 1 rec))
  saw_detail detail rec step keyed = record {
    master_is = saw_other x.of_master k 1 0 rec x.master (λ e. absurd (omega (arith, e))) is.master_is;
    detail_is = saw_here x.of_detail k 1 rec x.detail detail (detail_of step) is.detail_is keyed.0 keyed.1;
    none_else = λ i high. sight_none x.of_detail k 1 i rec (λ e. absurd (omega (arith, high, e))) (is.none_else i high);
    before = match_count x.of_master x.of_detail k;
    flagged = is.count_is;
    counted =
        ap (λ ms. length (matches x.of_master x.of_detail ms (Saw 1 rec ∷ k.told))) (sight_more x.of_master k 1 0 rec (λ e. absurd (omega (arith, e))))
        ∙ one_longer (list_any (λ master. agree x.of_master x.of_detail master rec) (records_from 0 k.sight)) rec (matches x.of_master x.of_detail (records_from 0 k.sight) k.told)
        ∙ ap (λ b. cond b (match_count x.of_master x.of_detail k + 1) (match_count x.of_master x.of_detail k))
        (by (in_sight x.master.at) refl ∙ sym (ap (λ at. in_sight x.master.at && (in_sight at && is_same x.master.key.items detail.key.items)) keyed.1));
    beside_is = sym (sight_here x.of_detail k 1 rec (no_detail step));
  }
    where
      by : (b : Bool) → in_sight x.master.at ≡ b → list_any (λ master. agree x.of_master x.of_detail master rec) (records_from 0 k.sight) ≡ (in_sight x.master.at && is_same x.master.key.items detail.key.items)
      by true in_it =
          let shown = shown_of x.of_master k 0 x.master in_it is.master_is in
          ap (list_any (λ master. agree x.of_master x.of_detail master rec)) shown.sight_is
          ∙ or_false (agree x.of_master x.of_detail shown.rec rec)
          ∙ ap (λ key. is_same key (part_of x.of_detail rec)) shown.key_is
          ∙ ap (is_same x.master.key.items) (sym keyed.0)
          ∙ sym (ap (λ b. b && is_same x.master.key.items detail.key.items) in_it)
      by false out =
          ap (list_any (λ master. agree x.of_master x.of_detail master rec)) (none_of x.of_master k 0 x.master out is.master_is)
          ∙ sym (ap (λ b. b && is_same x.master.key.items detail.key.items) out)

  -- the masters ended
  end_masters : (master : Lane) → Steps.ReadMaster ≡ x.step → IsEnded master → IsHeard x master x.detail (hears k (SawEnd 0))
  end_masters master step ended = record {
    master_is = end_here x.of_master k 0 x.master master (master_of step) is.master_is ended;
    detail_is = end_other x.of_detail k 0 1 x.detail (λ e. absurd (omega (arith, e))) is.detail_is;
    none_else = is.none_else;
    before = 0;
    flagged = not_matched step;
    counted =
        no_match x.of_master x.of_detail (records_from 0 k.sight) (beside_master (SawEnd 0 ∷ k.told)) (no_master step)
        ∙ sym (ap (λ b. cond b 1 0) (ap (λ at. in_sight at && (in_sight x.detail.at && is_same master.key.items x.detail.key.items)) ended));
    beside_is = beside_of step;
  }

  -- the details ended
  end_details : (detail : Lane) → Steps.ReadDetail ≡ x.step → IsEnded detail → IsHeard x x.master detail (hears k (SawEnd 1))
  end_details detail step ended = record {
    master_is = end_other x.of_master k 1 0 x.master (λ e. absurd (omega (arith, e))) is.master_is;
    detail_is = end_here x.of_detail k 1 x.detail detail (detail_of step) is.detail_is ended;
    none_else = is.none_else;
    before = match_count x.of_master x.of_detail k;
    flagged = is.count_is;
    counted = sym (ap (λ b. cond b (match_count x.of_master x.of_detail k + 1) (match_count x.of_master x.of_detail k))
        (not_second (in_sight x.master.at) (in_sight detail.at && is_same x.master.key.items detail.key.items) (ap (λ at. in_sight at && is_same x.master.key.items detail.key.items) ended)));
    beside_is = sym (no_detail step);
  }

-- what it does once it was told
pub record GoesOn (x y : Collate) : Type 0 where
  pub of_master_is : y.of_master ≡ x.of_master
  pub of_detail_is : y.of_detail ≡ x.of_detail
  pub lane_is : y.master ≡ x.master
  pub other_is : y.detail ≡ x.detail
  pub step_is : y.step ≡ step_of x.master x.detail x.matched
  pub matched_is : y.matched ≡ has_matched (step_of x.master x.detail x.matched) x.matched

module _ (x mid y : Collate) (i : ℕ) (IsMaster IsDetail : Lane → Type 0) (hears_on : HearsOn x mid i IsMaster IsDetail) (on : GoesOn mid y) where
  goes : (master detail : Lane) → mid.master ≡ master → mid.detail ≡ detail → Goes x y master detail
  goes master detail m d = record {
    of_master_is = on.of_master_is ∙ hears_on.of_master_is;
    of_detail_is = on.of_detail_is ∙ hears_on.of_detail_is;
    lane_is = on.lane_is ∙ m;
    other_is = on.other_is ∙ d;
    step_is = on.step_is ∙ step;
    matched_is = on.matched_is ∙ ap (λ s. has_matched s mid.matched) step ∙ ap (has_matched (step_of master detail x.matched)) hears_on.matched_is;
  }
    where
      step : step_of mid.master mid.detail mid.matched ≡ step_of master detail x.matched
      step = ap (λ (l : Lane). step_of l mid.detail mid.matched) m ∙ ap (λ (l : Lane). step_of master l mid.matched) d ∙ ap (step_of master detail) hears_on.matched_is

pub saw_plans : (x mid y : Collate) (i : ℕ) (bytes : List ℕ) → HearsOn x mid i (IsKeyed (part_of x.of_master bytes)) (IsKeyed (part_of x.of_detail bytes)) → GoesOn mid y → PlansBySight CollateIs true x y i bytes
saw_plans x mid y i bytes hears_on on = λ rec bytes_are plan k want is fits few. by rec (bytes_are refl) plan k want is fits (was_reading x.step k.seen want is.left_is)
  where
    by : (rec : List ℕ) → bytes ≡ rec → (plan : Known → Plan) (k : Known) (want : Want) → CollateIs x plan k (asks want) → answers (Some want) (Saw i rec) ≡ true →
        ((x.step ≡ Steps.ReadMaster) × (want ≡ Read 0)) ⊎ ((x.step ≡ Steps.ReadDetail) × (want ≡ Read 1)) → CollateIs y plan (hears k (Saw i rec)) (plan (hears k (Saw i rec)))
    by rec same plan k want is fits (inl reading) =
        let at : i ≡ 0 = saw_it want i 0 rec reading.1 fits in
        let new = hears_on.on_master at in
        let keyed : IsKeyed (part_of x.of_master rec) mid.master = subst (λ b. IsKeyed (part_of x.of_master b) mid.master) same new.0 in
        subst (λ j. CollateIs y plan (hears k (Saw j rec)) (plan (hears k (Saw j rec)))) (sym at)
        (stands_on x y mid.master x.detail plan (hears k (Saw 0 rec)) is.plan_is (saw_master x k plan (asks want) is mid.master rec (sym reading.0) keyed)
        (goes x mid y i (IsKeyed (part_of x.of_master bytes)) (IsKeyed (part_of x.of_detail bytes)) hears_on on mid.master x.detail refl new.1))
    by rec same plan k want is fits (inr reading) =
        let at : i ≡ 1 = saw_it want i 1 rec reading.1 fits in
        let new = hears_on.on_detail (λ e. absurd (omega (arith, e, at))) in
        let keyed : IsKeyed (part_of x.of_detail rec) mid.detail = subst (λ b. IsKeyed (part_of x.of_detail b) mid.detail) same new.0 in
        subst (λ j. CollateIs y plan (hears k (Saw j rec)) (plan (hears k (Saw j rec)))) (sym at)
        (stands_on x y x.master mid.detail plan (hears k (Saw 1 rec)) is.plan_is (saw_detail x k plan (asks want) is mid.detail rec (sym reading.0) keyed)
        (goes x mid y i (IsKeyed (part_of x.of_master bytes)) (IsKeyed (part_of x.of_detail bytes)) hears_on on x.master mid.detail new.1 refl))

pub end_plans : (x mid y : Collate) (i : ℕ) → HearsOn x mid i IsEnded IsEnded → GoesOn mid y → Plans CollateIs x y (SawEnd i)
end_plans x mid y i hears_on on = λ plan k want is fits few. by plan k want is fits (was_reading x.step k.seen want is.left_is)
  where
    by : (plan : Known → Plan) (k : Known) (want : Want) → CollateIs x plan k (asks want) → answers (Some want) (SawEnd i) ≡ true →
        ((x.step ≡ Steps.ReadMaster) × (want ≡ Read 0)) ⊎ ((x.step ≡ Steps.ReadDetail) × (want ≡ Read 1)) → CollateIs y plan (hears k (SawEnd i)) (plan (hears k (SawEnd i)))
    by plan k want is fits (inl reading) =
        let at : i ≡ 0 = end_it want i 0 reading.1 fits in
        let new = hears_on.on_master at in
        subst (λ j. CollateIs y plan (hears k (SawEnd j)) (plan (hears k (SawEnd j)))) (sym at)
        (stands_on x y mid.master x.detail plan (hears k (SawEnd 0)) is.plan_is (end_masters x k plan (asks want) is mid.master (sym reading.0) new.0)
        (goes x mid y i IsEnded IsEnded hears_on on mid.master x.detail refl new.1))
    by plan k want is fits (inr reading) =
        let at : i ≡ 1 = end_it want i 1 reading.1 fits in
        let new = hears_on.on_detail (λ e. absurd (omega (arith, e, at))) in
        subst (λ j. CollateIs y plan (hears k (SawEnd j)) (plan (hears k (SawEnd j)))) (sym at)
        (stands_on x y x.master mid.detail plan (hears k (SawEnd 1)) is.plan_is (end_details x k plan (asks want) is mid.detail (sym reading.0) new.0)
        (goes x mid y i IsEnded IsEnded hears_on on x.master mid.detail new.1 refl))

-- Its acts

abbrev with_step : Collate → Step → Collate
with_step x step = record { of_master = x.of_master; of_detail = x.of_detail; master = x.master; detail = x.detail; matched = x.matched; step = step }

-- after a step that writes, another is left, whose acts are those behind it
writes_on : (x : Collate) (step : Step) (act : Act) (plan : Known → Plan) (k : Known) (left : Plan) → CollateIs x plan k left → step_acts x.step k.seen ≡ act ∷ step_acts step k.seen → step_goal x.step ≡ step_goal step →
    is_reading_detail x.step ≡ false → fits_master step x.master.at ≡ true → fits_detail step x.detail.at ≡ true →
    (rest : List Act) × (left.acts ≡ act ∷ rest) × CollateIs (with_step x step) plan k (with_acts rest left)
writes_on x step act plan k left is acts goal apart master detail = (
  step_acts step k.seen,
  ap (λ (p : Plan). p.acts) is.left_is ∙ acts,
  record {
    plan_is = is.plan_is;
    master_is = is.master_is;
    detail_is = is.detail_is;
    none_else = is.none_else;
    count_is = is.count_is;
    beside_is = λ _. is.beside_is apart;
    master_fits = master;
    detail_fits = detail;
    left_is = ap (with_acts (step_acts step k.seen)) is.left_is ∙ ap (λ g. record { acts = step_acts step k.seen; goal = g }) goal;
  },
)

stands_in_sight : (at : At) → in_sight at ≡ true → not (is_lacking at) ≡ true
stands_in_sight Lacking in_it = cc
stands_in_sight InSight in_it = refl
stands_in_sight Ended in_it = cc

module _ (x : Collate) (plan : Known → Plan) (k : Known) (left : Plan) (is : CollateIs x plan k left) where
  came_master : in_sight x.master.at ≡ true → 0 < length (records_from 0 k.seen)
  came_master in_it = (shown_of x.of_master k 0 x.master in_it is.master_is).came

  came_detail : in_sight x.detail.at ≡ true → 0 < length (records_from 1 k.seen)
  came_detail in_it = (shown_of x.of_detail k 1 x.detail in_it is.detail_is).came

pub writes_both : (x : Collate) → x.step ≡ Steps.WriteBoth → (plan : Known → Plan) (k : Known) (left : Plan) → CollateIs x plan k left →
    (rest : List Act) × (left.acts ≡ Writes 0 (last_from k.seen 0) ∷ rest) × CollateIs (with_step x Steps.WriteMatch) plan k (with_acts rest left) × (0 < length (records_from 0 k.seen))
writes_both x at plan k left is =
    let master : in_sight x.master.at ≡ true = subst (λ s. fits_master s x.master.at ≡ true) at is.master_fits in
    let detail : in_sight x.detail.at ≡ true = subst (λ s. fits_detail s x.detail.at ≡ true) at is.detail_fits in
    let it = writes_on x Steps.WriteMatch (Writes 0 (last_from k.seen 0)) plan k left is (ap (λ s. step_acts s k.seen) at) (ap step_goal at) (ap is_reading_detail at) (stands_in_sight x.master.at master) detail in
    (it.0, it.1, it.2, came_master x plan k left is master)

pub writes_match : (x : Collate) → x.step ≡ Steps.WriteMatch → (plan : Known → Plan) (k : Known) (left : Plan) → CollateIs x plan k left →
    (rest : List Act) × (left.acts ≡ Writes 0 (last_from k.seen 1) ∷ rest) × CollateIs (with_step x Steps.TakeDetail) plan k (with_acts rest left) × (0 < length (records_from 1 k.seen))
writes_match x at plan k left is =
    let master : not (is_lacking x.master.at) ≡ true = subst (λ s. fits_master s x.master.at ≡ true) at is.master_fits in
    let detail : in_sight x.detail.at ≡ true = subst (λ s. fits_detail s x.detail.at ≡ true) at is.detail_fits in
    let it = writes_on x Steps.TakeDetail (Writes 0 (last_from k.seen 1)) plan k left is (ap (λ s. step_acts s k.seen) at) (ap step_goal at) (ap is_reading_detail at) master detail in
    (it.0, it.1, it.2, came_detail x plan k left is detail)

pub writes_master : (x : Collate) → x.step ≡ Steps.WriteMaster → (plan : Known → Plan) (k : Known) (left : Plan) → CollateIs x plan k left →
    (rest : List Act) × (left.acts ≡ Writes 1 (last_from k.seen 0) ∷ rest) × CollateIs (with_step x Steps.TakeMaster) plan k (with_acts rest left) × (0 < length (records_from 0 k.seen))
writes_master x at plan k left is =
    let master : in_sight x.master.at ≡ true = subst (λ s. fits_master s x.master.at ≡ true) at is.master_fits in
    let it = writes_on x Steps.TakeMaster (Writes 1 (last_from k.seen 0)) plan k left is (ap (λ s. step_acts s k.seen) at) (ap step_goal at) (ap is_reading_detail at) master refl in
    (it.0, it.1, it.2, came_master x plan k left is master)

pub writes_detail : (x : Collate) → x.step ≡ Steps.WriteDetail → (plan : Known → Plan) (k : Known) (left : Plan) → CollateIs x plan k left →
    (rest : List Act) × (left.acts ≡ Writes 2 (last_from k.seen 1) ∷ rest) × CollateIs (with_step x Steps.TakeDetail) plan k (with_acts rest left) × (0 < length (records_from 1 k.seen))
writes_detail x at plan k left is =
    let master : not (is_lacking x.master.at) ≡ true = subst (λ s. fits_master s x.master.at ≡ true) at is.master_fits in
    let detail : in_sight x.detail.at ≡ true = subst (λ s. fits_detail s x.detail.at ≡ true) at is.detail_fits in
    let it = writes_on x Steps.TakeDetail (Writes 2 (last_from k.seen 1)) plan k left is (ap (λ s. step_acts s k.seen) at) (ap step_goal at) (ap is_reading_detail at) master detail in
    (it.0, it.1, it.2, came_detail x plan k left is detail)

pub takes_master : (x : Collate) (master : Lane) → x.step ≡ Steps.TakeMaster → master.at ≡ Lacking → (plan : Known → Plan) (k : Known) (left : Plan) → CollateIs x plan k left →
    (rest : List Act) × (left.acts ≡ Takes 0 ∷ rest)
    × CollateIs (record { of_master = x.of_master; of_detail = x.of_detail; master = master; detail = x.detail; matched = false; step = Steps.ReadMaster }) plan (known_done (Takes 0) k) (with_acts rest left) × Unit {0}
takes_master x master at lacks plan k left is =
    let in_it : in_sight x.master.at ≡ true = subst (λ s. fits_master s x.master.at ≡ true) at is.master_fits in (
      [],
      ap (λ (p : Plan). p.acts) is.left_is ∙ ap (λ s. step_acts s k.seen) at,
      record {
        plan_is = is.plan_is;
        master_is = took_here x.of_master k 0 x.master master in_it is.master_is lacks;
        detail_is = took_other x.of_detail k 0 1 x.detail (λ e. absurd (omega (arith, e))) is.detail_is;
        none_else = λ i high. without_other 0 i k.sight (λ e. absurd (omega (arith, high, e))) ∙ is.none_else i high;
        count_is = ap (λ n. n == 0) (no_match x.of_master x.of_detail (records_from 0 (without 0 k.sight)) (beside_master k.told) (took_sight x.of_master k 0 x.master in_it is.master_is));
        beside_is = λ _. is.beside_is (ap is_reading_detail at) ∙ sym (without_other 0 1 k.sight (λ e. absurd (omega (arith, e))));
        master_fits = ap is_lacking lacks;
        detail_fits = refl;
        left_is = ap (with_acts []) is.left_is ∙ ap (λ s. record { acts = []; goal = step_goal s }) at;
      },
      tt,
    )

true_not_false : true ≡ false → ⊥
true_not_false e = cc

pub takes_detail : (x : Collate) (detail : Lane) → x.step ≡ Steps.TakeDetail → detail.at ≡ Lacking → (plan : Known → Plan) (k : Known) (left : Plan) → CollateIs x plan k left →
    (rest : List Act) × (left.acts ≡ Takes 1 ∷ rest)
    × CollateIs (record { of_master = x.of_master; of_detail = x.of_detail; master = x.master; detail = detail; matched = x.matched; step = Steps.ReadDetail }) plan (known_done (Takes 1) k) (with_acts rest left) × Unit {0}
takes_detail x detail at lacks plan k left is =
    let master : not (is_lacking x.master.at) ≡ true = subst (λ s. fits_master s x.master.at ≡ true) at is.master_fits in
    let in_it : in_sight x.detail.at ≡ true = subst (λ s. fits_detail s x.detail.at ≡ true) at is.detail_fits in (
      [],
      ap (λ (p : Plan). p.acts) is.left_is ∙ ap (λ s. step_acts s k.seen) at,
      record {
        plan_is = is.plan_is;
        master_is = took_other x.of_master k 1 0 x.master (λ e. absurd (omega (arith, e))) is.master_is;
        detail_is = took_here x.of_detail k 1 x.detail detail in_it is.detail_is lacks;
        none_else = λ i high. without_other 1 i k.sight (λ e. absurd (omega (arith, high, e))) ∙ is.none_else i high;
        count_is = ap (λ ms. length (matches x.of_master x.of_detail ms k.told) == 0) (without_other 1 0 k.sight (λ e. absurd (omega (arith, e)))) ∙ is.count_is;
        beside_is = λ e. absurd (true_not_false e);
        master_fits = master;
        detail_fits = ap is_lacking lacks;
        left_is = ap (with_acts []) is.left_is ∙ ap (λ s. record { acts = []; goal = step_goal s }) at;
      },
      tt,
    )
