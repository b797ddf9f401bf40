-- MERGE's value, one call further.
use Rattle.std.proofs.Common.{◌≡◌, ◌≢◌, ◌⊎◌, inl, inr, ℕ, ◌+◌, ◌<◌, ◌≤◌, Bool, true, false, cond, ◌==◌, ◌&&◌, ◌||◌, not, List, [], ◌∷◌, ◌++◌, length, refl, sym, ◌∙◌, ap, subst, arith, Option, Some, None, slice_get, pos}
use Rattle.std.specs.Prelude.{nat_le}
use Rattle.std.proofs.lemmas.Bool.{eqb-true, ne_eqb}
use Rattle.std.proofs.lemmas.Bool.Decides.{nat_tests}
use Rattle.pipe_model.specs.declared.range.Range.{Range}
use Rattle.pipe_model.specs.Event.{Want, answers}
use Rattle.pipe_model.specs.Event.Event.{Saw, SawEnd, SawAllEnd}
use Rattle.pipe_model.specs.Event.Want.{Read}
use Rattle.pipe_model.specs.Inputs.{records_from}
use Rattle.pipe_model.specs.JoiningRows.{merging}
use Rattle.pipe_model.specs.Next.{hears, nothing_known}
use Rattle.pipe_model.specs.Ranges.{part_of}
use Rattle.pipe_model.specs.Row.{Act, Known, Plan}
use Rattle.pipe_model.specs.Row.Act.{Writes, Takes}
use Rattle.pipe_model.specs.Row.Goal.{Asks, Ends}
use Rattle.pipe_model.specs.Shape.{asks, round_plan}
use Rattle.pipe_model.proofs.Lists.{at_some}
use Rattle.pipe_model.proofs.Numbers.{equal_or_not, test_same}
use Rattle.stage_steps.specs.Plans.{last_from, known_done, with_acts, Plans, PlansBySight}
use Rattle.collate_stage.specs.declared.lane.At.{At}
use Rattle.collate_stage.specs.declared.lane.At.TheVariants.{Lacking, InSight, Ended}
use Rattle.collate_stage.specs.declared.lane.Lane.{Lane}
use Rattle.collate_stage.specs.declared.merge.Due.{Due}
use Rattle.collate_stage.specs.declared.merge.Due.TheVariants as Dues
use Rattle.collate_stage.specs.declared.merge.Merge.{Merge}
use Rattle.collate_stage.specs.Lanes.{is_lacking, in_sight, is_over, SightIs, LaneIs}
use Rattle.collate_stage.specs.Queues.{lane_sees, sees_at, waits, IsQueue}
use Rattle.collate_stage.specs.Merging.{AreLanes, AreNew, IsChanged, IsReading, IsTurning, LeftIs, MergeIs, IsHeard}
use Rattle.collate_stage.proofs.LaneSteps.{saw_here, saw_other, sight_none, end_here, end_other, took_here, took_other, shown_of}
use Rattle.collate_stage.proofs.MergeRounds.{reads, turns, stops}
use Rattle.collate_stage.proofs.Queues.{all_are_others, first_leaves, rest_waits, none_leaves, none_waits, still_waits}
use Rattle.collate_stage.proofs.Sights.{without_other, some_within}

-- Once its input was heard

-- so many inputs were read
opened_is : (i opened j : ℕ) → i ≤ opened → (b : Bool) → (i == opened) ≡ b → (not (i == j) && nat_le opened j) ≡ nat_le (cond b (opened + 1) opened) j
opened_is i opened j low true is = grind (arith, nat_tests)
opened_is i opened j low false is = grind (arith, nat_tests)

module _ (range : Range) (lanes : List Lane) (i opened count opened' : ℕ) (all : length lanes ≡ count) (next : i < count → opened' ≡ cond (i == opened) (opened + 1) opened) (k : Known) (heard : IsHeard range lanes i opened k) where
  next_is : opened' ≡ cond (i == opened) (opened + 1) opened
  next_is = next (let low = heard.within in omega (arith, low, all))

  lacks_on : (j : ℕ) (lane : Lane) → slice_get lanes j ≡ Some lane → is_lacking lane.at ≡ nat_le opened' j
  lacks_on j lane at = heard.lacking j lane at ∙ opened_is i opened j heard.low (i == opened) refl ∙ ap (λ n. nat_le n j) (sym next_is)

  high_on : opened' ≤ length lanes
  high_on = by (i == opened) refl next_is
    where
      by : (b : Bool) → (i == opened) ≡ b → opened' ≡ cond b (opened + 1) opened → opened' ≤ length lanes
      by true is it = let low = heard.within in let same = eqb-true i opened is in omega (arith, low, same, it)
      by false is it = let low = heard.high in omega (arith, low, it)

  -- the inputs that wait then
  abbrev Waiting : ℕ → List ℕ → Type 0
  Waiting j queue = IsQueue lanes (waits lanes j) queue

  hidden : sees_at lanes opened' ≡ false
  hidden = by (slice_get lanes opened') refl
    where
      not_seen : (lane : Lane) → is_lacking lane.at ≡ true → in_sight lane.at ≡ false
      not_seen lane lacks = of_at lane.at lacks
        where
          of_at : (at : At) → is_lacking at ≡ true → in_sight at ≡ false
          of_at Lacking lacks = refl
          of_at InSight lacks = cc
          of_at Ended lacks = cc

      by : (o : Option Lane) → slice_get lanes opened' ≡ o → lane_sees o ≡ false
      by None is = refl
      by (Some lane) is = not_seen lane (lacks_on opened' lane is ∙ grind (arith, nat_tests))

  pub goes_reading : (queue : List ℕ) → opened' < count → IsQueue lanes (sees_at lanes) queue → LeftIs Dues.Read opened' opened' lanes k (round_plan (length lanes) (merging range) k) × Waiting opened' queue
  goes_reading queue low is = (reads range lanes k heard.lanes_are opened' lacks_on (omega (arith, low, all)), all_are_others lanes opened' queue hidden is)

  pub goes_writing : (m : ℕ) (rest : List ℕ) → count ≤ opened' → IsQueue lanes (sees_at lanes) (rest ++ m ∷ []) → LeftIs Dues.Write m opened' lanes k (round_plan (length lanes) (merging range) k) × Waiting m rest
  goes_writing m rest past is = (turns range lanes k heard.lanes_are opened' lacks_on m (let high = high_on in omega (arith, past, high, all)) (first_leaves lanes m rest is), rest_waits lanes m rest is)

  pub goes_ending : (m : ℕ) → count ≤ opened' → IsQueue lanes (sees_at lanes) [] → LeftIs Dues.End m opened' lanes k (round_plan (length lanes) (merging range) k) × Waiting m []
  goes_ending m past is = (stops range lanes k heard.lanes_are opened' lacks_on (omega (arith, past, all)) (none_leaves lanes (length lanes) is), none_waits lanes m is)

-- Its input is heard

cons_not : {x : Act} {xs : List Act} → [] ≡ x ∷ xs → ⊥
cons_not e = cc

was_reading : (due : Due) (i opened : ℕ) (lanes : List Lane) (k : Known) (want : Want) → LeftIs due i opened lanes k (asks want) → IsReading i opened lanes (asks want)
was_reading Dues.Write i opened lanes k want is = absurd (cons_not (ap (λ (p : Plan). p.acts) is.left_is))
was_reading Dues.Take i opened lanes k want is = absurd (cons_not (ap (λ (p : Plan). p.acts) is.left_is))
was_reading Dues.Read i opened lanes k want is = is
was_reading Dues.End i opened lanes k want is = absurd (asks_not (ap (λ (p : Plan). p.goal) is))
  where
    asks_not : Asks want ≡ Ends (pos 0) → ⊥
    asks_not e = cc

want_is : {i opened : ℕ} {lanes : List Lane} {want : Want} → IsReading i opened lanes (asks want) → want ≡ Read i
want_is {i} {opened} {lanes} {want} is = of_goal (ap (λ (p : Plan). p.goal) is.left_is)
  where
    of_goal : Asks want ≡ Asks (Read i) → want ≡ Read i
    of_goal e = cc

saw_it : (want : Want) (i m : ℕ) (rec : List ℕ) → want ≡ Read m → answers (Some want) (Saw i rec) ≡ true → i ≡ m
saw_it want i m rec is fits = eqb-true i m (subst (λ w. answers (Some w) (Saw i rec) ≡ true) is fits)

end_it : (want : Want) (i m : ℕ) → want ≡ Read m → answers (Some want) (SawEnd i) ≡ true → i ≡ m
end_it want i m is fits = eqb-true i m (subst (λ w. answers (Some w) (SawEnd i) ≡ true) is fits)

module _ (range : Range) (old new : List Lane) (i opened : ℕ) (left : Plan) (k : Known) (IsSo : Lane → Type 0) (changed : IsChanged old new i IsSo) (are : AreLanes range old k) (reading : IsReading i opened old left)
    (not_lacking : (lane : Lane) → IsSo lane → is_lacking lane.at ≡ false) where
  lacked : (lane : Lane) → slice_get old i ≡ Some lane → is_lacking lane.at ≡ true
  lacked lane at = reading.lacking i lane at ∙ ap (λ b. b || nat_le opened i) (test_same i)

  -- the input that was read has changed, and the others stand as before
  heard : (k' : Known) → ((lane was : Lane) → is_lacking was.at ≡ true → LaneIs range k i was → IsSo lane → LaneIs range k' i lane) →
      ((j : ℕ) (lane : Lane) → j ≢ i → LaneIs range k j lane → LaneIs range k' j lane) → ((j : ℕ) → length old ≤ j → records_from j k.sight ≡ [] → records_from j k'.sight ≡ []) → IsHeard range new i opened k'
  heard k' here others none = record {
    lanes_are = record {
      each = λ j lane at. each j lane at (equal_or_not j i);
      none_else = λ j past. none j (let same = changed.length_is in omega (arith, past, same)) (are.none_else j (let same = changed.length_is in omega (arith, past, same)));
    };
    within = let low = reading.within in let same = changed.length_is in omega (arith, low, same);
    low = reading.low;
    high = let high = reading.high in let same = changed.length_is in omega (arith, high, same);
    lacking = λ j lane at. lacking j lane at (equal_or_not j i);
  }
    where
      each : (j : ℕ) (lane : Lane) → slice_get new j ≡ Some lane → (j ≡ i) ⊎ (j ≢ i) → LaneIs range k' j lane
      each j lane at (inl same) =
          let was = at_some old i reading.within in
          subst (λ z. LaneIs range k' z lane) (sym same) (here lane was.0 (lacked was.0 was.1) (are.each i was.0 was.1) (changed.here lane (subst (λ z. slice_get new z ≡ Some lane) same at)))
      each j lane at (inr apart) = others j lane apart (are.each j lane (sym (changed.others j apart) ∙ at))

      lacking : (j : ℕ) (lane : Lane) → slice_get new j ≡ Some lane → (j ≡ i) ⊎ (j ≢ i) → is_lacking lane.at ≡ (not (i == j) && nat_le opened j)
      lacking j lane at (inl same) =
          not_lacking lane (changed.here lane (subst (λ z. slice_get new z ≡ Some lane) same at))
          ∙ sym (ap (λ b. not b && nat_le opened j) (ap (λ z. i == z) same ∙ test_same i))
      lacking j lane at (inr apart) =
          reading.lacking j lane (sym (changed.others j apart) ∙ at)
          ∙ ap (λ b. b || nat_le opened j) (ne_eqb i j (λ e. apart (sym e)))
          ∙ sym (ap (λ b. not b && nat_le opened j) (ne_eqb i j (λ e. apart (sym e))))

-- what a value with these inputs does once one of them was heard is what the row says
abbrev Goes : Merge → Merge → List Lane → Type 0
Goes x y lanes = length lanes ≡ x.count → IsQueue lanes (waits lanes x.input) x.queue.items → (k : Known) → IsHeard x.range lanes x.input x.opened k →
    LeftIs y.due y.input y.opened lanes k (round_plan (length lanes) (merging x.range) k) × IsQueue lanes (waits lanes y.input) y.queue.items

module _ (x y : Merge) (lanes : List Lane) (range_is : y.range ≡ x.range) (lanes_are : y.lanes.items ≡ lanes) (count_is : y.count ≡ x.count) (goes : Goes x y lanes) where
  stands_on : (plan : Known → Plan) (k k' : Known) (left : Plan) → MergeIs x plan k left → length lanes ≡ length x.lanes.items → IsQueue lanes (waits lanes x.input) x.queue.items → IsHeard x.range lanes x.input x.opened k' → MergeIs y plan k' (plan k')
  stands_on plan k k' left is same queue it = record {
    plan_is = plan_is ∙ ap (λ n. round_plan n (merging y.range)) (sym (ap length lanes_are));
    count_is = ap length lanes_are ∙ same ∙ is.count_is ∙ sym count_is;
    lanes_are = subst (λ (ls : List Lane). AreLanes y.range ls k') (sym lanes_are) (subst (λ r. AreLanes r lanes k') (sym range_is) it.lanes_are);
    queue_is = subst (λ (ls : List Lane). IsQueue ls (waits ls y.input) y.queue.items) (sym lanes_are) then.1;
    left_is = subst (λ (ls : List Lane). LeftIs y.due y.input y.opened ls k' (plan k')) (sym lanes_are)
        (subst (λ (f : Known → Plan). LeftIs y.due y.input y.opened lanes k' (f k')) (sym by_row) then.0);
  }
    where
      then : LeftIs y.due y.input y.opened lanes k' (round_plan (length lanes) (merging x.range) k') × IsQueue lanes (waits lanes y.input) y.queue.items
      then = goes (same ∙ is.count_is) queue k' it

      by_row : plan ≡ round_plan (length lanes) (merging x.range)
      by_row = is.plan_is ∙ ap (λ n. round_plan n (merging x.range)) (sym same)

      plan_is : plan ≡ round_plan (length lanes) (merging y.range)
      plan_is = by_row ∙ ap (λ r. round_plan (length lanes) (merging r)) (sym range_is)

  -- a record was seen
  pub saw_plans : (i : ℕ) (bytes key : List ℕ) → key ≡ part_of x.range bytes → IsChanged x.lanes.items lanes i (λ lane. (lane.key.items ≡ key) × (lane.at ≡ InSight)) → PlansBySight MergeIs true x y i bytes
  saw_plans i bytes key key_is changed = λ rec bytes_are plan k want is fits few.
      let reading = was_reading x.due x.input x.opened x.lanes.items k want is.left_is in
      let same : i ≡ x.input = saw_it want i x.input rec (want_is reading) fits in
      let of_rec : key ≡ part_of x.range rec = key_is ∙ ap (part_of x.range) (bytes_are refl) in
      let here = subst (λ j. IsChanged x.lanes.items lanes j (λ lane. (lane.key.items ≡ key) × (lane.at ≡ InSight))) same changed in
      subst (λ j. MergeIs y plan (hears k (Saw j rec)) (plan (hears k (Saw j rec)))) (sym same)
      (stands_on plan k (hears k (Saw x.input rec)) (asks want) is changed.length_is
      (still_waits x.lanes.items lanes x.input (λ lane. (lane.key.items ≡ key) × (lane.at ≡ InSight)) here x.queue.items is.queue_is)
      (heard x.range x.lanes.items lanes x.input x.opened (asks want) k (λ lane. (lane.key.items ≡ key) × (lane.at ≡ InSight)) here is.lanes_are reading
      (λ lane so. ap is_lacking so.1)
      (hears k (Saw x.input rec))
      (λ lane was lacks stood so. saw_here x.range k x.input rec was lane lacks stood (so.0 ∙ of_rec) so.1)
      (λ j lane apart stood. saw_other x.range k x.input j rec lane apart stood)
      (λ j past none. sight_none x.range k x.input j rec (λ e. absurd (let low = reading.within in omega (arith, past, low, e))) none)))

  -- an end was seen
  pub end_plans : (i : ℕ) → IsChanged x.lanes.items lanes i (λ lane. lane.at ≡ Ended) → Plans MergeIs x y (SawEnd i)
  end_plans i changed = λ plan k want is fits few.
      let reading = was_reading x.due x.input x.opened x.lanes.items k want is.left_is in
      let same : i ≡ x.input = end_it want i x.input (want_is reading) fits in
      let here = subst (λ j. IsChanged x.lanes.items lanes j (λ lane. lane.at ≡ Ended)) same changed in
      subst (λ j. MergeIs y plan (hears k (SawEnd j)) (plan (hears k (SawEnd j)))) (sym same)
      (stands_on plan k (hears k (SawEnd x.input)) (asks want) is changed.length_is
      (still_waits x.lanes.items lanes x.input (λ lane. lane.at ≡ Ended) here x.queue.items is.queue_is)
      (heard x.range x.lanes.items lanes x.input x.opened (asks want) k (λ lane. lane.at ≡ Ended) here is.lanes_are reading
      (λ lane so. ap is_lacking so)
      (hears k (SawEnd x.input))
      (λ lane was lacks stood so. end_here x.range k x.input was lane lacks stood so)
      (λ j lane apart stood. end_other x.range k x.input j lane apart stood)
      (λ j past none. none)))

-- no end of all is heard
pub never_all : (x y : Merge) → Plans MergeIs x y SawAllEnd
never_all x y = λ plan k want is fits few.
    let reading = was_reading x.due x.input x.opened x.lanes.items k want is.left_is in
    let e : false ≡ true = subst (λ w. answers (Some w) SawAllEnd ≡ true) (want_is reading) fits in
    absurd (let e : false ≡ true = e in cc)

-- Its acts

-- it writes
pub writes_it : (x y : Merge) → x.due ≡ Dues.Write → y.due ≡ Dues.Take → y.range ≡ x.range → y.lanes.items ≡ x.lanes.items → y.queue.items ≡ x.queue.items → y.count ≡ x.count → y.input ≡ x.input → y.opened ≡ x.opened →
    (plan : Known → Plan) (k : Known) (left : Plan) → MergeIs x plan k left →
    (rest : List Act) × (left.acts ≡ Writes 0 (last_from k.seen x.input) ∷ rest) × MergeIs y plan k (with_acts rest left) × (0 < length (records_from x.input k.seen))
writes_it x y due due' range lanes queue count input opened plan k left is =
    let turning : IsTurning (Writes 0 (last_from k.seen x.input) ∷ Takes x.input ∷ []) x.input x.opened x.lanes.items left = subst (λ d. LeftIs d x.input x.opened x.lanes.items k left) due is.left_is in
    let shown = shown_of x.range k x.input turning.lane turning.sees (is.lanes_are.each x.input turning.lane turning.here) in (
      Takes x.input ∷ [],
      ap (λ (p : Plan). p.acts) turning.left_is,
      record {
        plan_is = is.plan_is ∙ ap (λ n. round_plan n (merging x.range)) (ap length (sym lanes)) ∙ ap (λ r. round_plan (length y.lanes.items) (merging r)) (sym range);
        count_is = ap length lanes ∙ is.count_is ∙ sym count;
        lanes_are = subst (λ (ls : List Lane). AreLanes y.range ls k) (sym lanes) (subst (λ r. AreLanes r x.lanes.items k) (sym range) is.lanes_are);
        queue_is = subst (λ (ls : List Lane). IsQueue ls (waits ls y.input) y.queue.items) (sym lanes)
            (subst (λ i. IsQueue x.lanes.items (waits x.lanes.items i) y.queue.items) (sym input) (subst (IsQueue x.lanes.items (waits x.lanes.items x.input)) (sym queue) is.queue_is));
        left_is = subst (λ d. LeftIs d y.input y.opened y.lanes.items k (with_acts (Takes x.input ∷ []) left)) (sym due')
            (subst (λ (ls : List Lane). LeftIs Dues.Take y.input y.opened ls k (with_acts (Takes x.input ∷ []) left)) (sym lanes)
            (subst (λ i. LeftIs Dues.Take i y.opened x.lanes.items k (with_acts (Takes x.input ∷ []) left)) (sym input)
            (subst (λ o. LeftIs Dues.Take x.input o x.lanes.items k (with_acts (Takes x.input ∷ []) left)) (sym opened) (record {
              left_is = ap (with_acts (Takes x.input ∷ [])) turning.left_is;
              lane = turning.lane;
              here = turning.here;
              sees = turning.sees;
              all_opened = turning.all_opened;
              lacking = turning.lacking;
            }))));
      },
      shown.came,
    )

-- the others are in sight as before
module _ (range : Range) (old new : List Lane) (i opened : ℕ) (left : Plan) (k : Known) (changed : IsChanged old new i (λ lane. lane.at ≡ Lacking)) (are : AreLanes range old k) (turning : IsTurning (Takes i ∷ []) i opened old left) where
  low : i < length old
  low = some_within old i turning.here

  each_took : (j : ℕ) (lane : Lane) → slice_get new j ≡ Some lane → (j ≡ i) ⊎ (j ≢ i) → LaneIs range (known_done (Takes i) k) j lane
  each_took j lane at (inl same) =
      subst (λ z. LaneIs range (known_done (Takes i) k) z lane) (sym same)
      (took_here range k i turning.lane lane turning.sees (are.each i turning.lane turning.here) (changed.here lane (subst (λ z. slice_get new z ≡ Some lane) same at)))
  each_took j lane at (inr apart) = took_other range k i j lane apart (are.each j lane (sym (changed.others j apart) ∙ at))

  are_took : AreLanes range new (known_done (Takes i) k)
  are_took = record {
    each = λ j lane at. each_took j lane at (equal_or_not j i);
    none_else = λ j past. (let same = changed.length_is in without_other i j k.sight (λ e. absurd (omega (arith, low, past, same, e))) ∙ are.none_else j (omega (arith, past, same)));
  }

  lacks_took : (j : ℕ) (lane : Lane) → slice_get new j ≡ Some lane → (j ≡ i) ⊎ (j ≢ i) → is_lacking lane.at ≡ (i == j || nat_le opened j)
  lacks_took j lane at (inl same) =
      ap is_lacking (changed.here lane (subst (λ z. slice_get new z ≡ Some lane) same at))
      ∙ sym (ap (λ b. b || nat_le opened j) (ap (λ z. i == z) same ∙ test_same i))
  lacks_took j lane at (inr apart) =
      let was = sym (changed.others j apart) ∙ at in
      turning.lacking j lane was
      ∙ sym (ap (λ b. b || nat_le opened j) (ne_eqb i j (λ e. apart (sym e))) ∙ above (some_within old j was) turning.all_opened)
    where
      above : j < length old → opened ≡ length old → nat_le opened j ≡ false
      above below all = grind (arith, nat_tests)

  reads_took : IsReading i opened new (with_acts [] left)
  reads_took = record {
    left_is = ap (with_acts []) turning.left_is;
    within = let same = changed.length_is in omega (arith, low, same);
    low = let all = turning.all_opened in omega (arith, low, all);
    high = let all = turning.all_opened in let same = changed.length_is in omega (arith, all, same);
    lacking = λ j lane at. lacks_took j lane at (equal_or_not j i);
  }

-- it takes
pub takes_it : (x y : Merge) → x.due ≡ Dues.Take → y.due ≡ Dues.Read → y.range ≡ x.range → IsChanged x.lanes.items y.lanes.items x.input (λ lane. lane.at ≡ Lacking) → y.queue.items ≡ x.queue.items → y.count ≡ x.count → y.input ≡ x.input → y.opened ≡ x.opened →
    (plan : Known → Plan) (k : Known) (left : Plan) → MergeIs x plan k left →
    (rest : List Act) × (left.acts ≡ Takes x.input ∷ rest) × MergeIs y plan (known_done (Takes x.input) k) (with_acts rest left) × Unit {0}
takes_it x y due due' range changed queue count input opened plan k left is =
    let turning : IsTurning (Takes x.input ∷ []) x.input x.opened x.lanes.items left = subst (λ d. LeftIs d x.input x.opened x.lanes.items k left) due is.left_is in (
      [],
      ap (λ (p : Plan). p.acts) turning.left_is,
      record {
        plan_is = is.plan_is ∙ ap (λ n. round_plan n (merging x.range)) (sym changed.length_is) ∙ ap (λ r. round_plan (length y.lanes.items) (merging r)) (sym range);
        count_is = changed.length_is ∙ is.count_is ∙ sym count;
        lanes_are = subst (λ r. AreLanes r y.lanes.items (known_done (Takes x.input) k)) (sym range) (are_took x.range x.lanes.items y.lanes.items x.input x.opened left k changed is.lanes_are turning);
        queue_is = subst (λ i. IsQueue y.lanes.items (waits y.lanes.items i) y.queue.items) (sym input)
            (subst (IsQueue y.lanes.items (waits y.lanes.items x.input)) (sym queue)
            (still_waits x.lanes.items y.lanes.items x.input (λ lane. lane.at ≡ Lacking) changed x.queue.items is.queue_is));
        left_is = subst (λ d. LeftIs d y.input y.opened y.lanes.items (known_done (Takes x.input) k) (with_acts [] left)) (sym due')
            (subst (λ i. IsReading i y.opened y.lanes.items (with_acts [] left)) (sym input)
            (subst (λ o. IsReading x.input o y.lanes.items (with_acts [] left)) (sym opened)
            (reads_took x.range x.lanes.items y.lanes.items x.input x.opened left k changed is.lanes_are turning)));
      },
      tt,
    )

-- Before its first event

module _ (range : Range) (lanes : List Lane) (count : ℕ) (new : AreNew lanes count) where
  are_fresh : AreLanes range lanes nothing_known
  are_fresh = record {
    each = λ i lane at. record {
      sight_is = subst (SightIs range nothing_known i lane.key.items) (sym (new.each i lane at)) refl;
      ends_are = sym (ap is_over (new.each i lane at));
    };
    none_else = λ i past. refl;
  }

  lacks_fresh : (j : ℕ) (lane : Lane) → slice_get lanes j ≡ Some lane → is_lacking lane.at ≡ nat_le 0 j
  lacks_fresh j lane at = ap is_lacking (new.each j lane at) ∙ grind (arith, nat_tests)

  none_fresh : (i : ℕ) → IsQueue lanes (waits lanes i) []
  none_fresh i = none_waits lanes i record { members = λ j. sym (hidden j (slice_get lanes j) refl); order = λ p q d low within. absurd (omega (arith, within)) }
    where
      hidden : (j : ℕ) (o : Option Lane) → slice_get lanes j ≡ o → sees_at lanes j ≡ false
      hidden j None is = ap lane_sees is
      hidden j (Some lane) is = ap lane_sees is ∙ ap in_sight (new.each j lane is)

  begins : (b : Bool) → (count == 0) ≡ b → LeftIs (cond b Dues.End Dues.Read) 0 0 lanes nothing_known (round_plan (length lanes) (merging range) nothing_known)
  begins true is =
      let none = eqb-true count 0 is in
      let same = new.length_is in
      stops range lanes nothing_known are_fresh 0 lacks_fresh (omega (arith, none, same)) (λ j lane low at. absurd (omega (arith, low, none, same)))
  begins false is =
      let same = new.length_is in
      reads range lanes nothing_known are_fresh 0 lacks_fresh (some_input is same)
    where
      some_input : (count == 0) ≡ false → length lanes ≡ count → 0 < length lanes
      some_input is same = grind (arith, nat_tests)

pub merge_begins : (x : Merge) → AreNew x.lanes.items x.count → x.queue.items ≡ [] → x.opened ≡ 0 → x.input ≡ 0 → x.due ≡ cond (x.count == 0) Dues.End Dues.Read →
    MergeIs x (round_plan x.count (merging x.range)) nothing_known (round_plan x.count (merging x.range) nothing_known)
merge_begins x new queue opened input due = record {
  plan_is = ap (λ n. round_plan n (merging x.range)) (sym new.length_is);
  count_is = new.length_is;
  lanes_are = are_fresh x.range x.lanes.items x.count new;
  queue_is = subst (IsQueue x.lanes.items (waits x.lanes.items x.input)) (sym queue) (none_fresh x.range x.lanes.items x.count new x.input);
  left_is =
      subst (λ d. LeftIs d x.input x.opened x.lanes.items nothing_known (round_plan x.count (merging x.range) nothing_known)) (sym due)
      (subst (λ i. LeftIs (cond (x.count == 0) Dues.End Dues.Read) i x.opened x.lanes.items nothing_known (round_plan x.count (merging x.range) nothing_known)) (sym input)
      (subst (λ o. LeftIs (cond (x.count == 0) Dues.End Dues.Read) 0 o x.lanes.items nothing_known (round_plan x.count (merging x.range) nothing_known)) (sym opened)
      (subst (λ n. LeftIs (cond (x.count == 0) Dues.End Dues.Read) 0 0 x.lanes.items nothing_known (round_plan n (merging x.range) nothing_known)) new.length_is
      (begins x.range x.lanes.items x.count new (x.count == 0) refl))));
}
