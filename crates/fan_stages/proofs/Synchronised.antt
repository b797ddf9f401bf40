-- What SYNCHRONISE's value stands for behind each call.
use Rattle.std.proofs.Common.{◌≡◌, ◌<◌, ◌≤◌, ◌+◌, ◌-◌, ℕ, zero, suc, Bool, true, false, cond, not, ◌==◌, List, [], ◌∷◌, ◌++◌, length, slice_get, refl, sym, ◌∙◌, ap, subst, arith, Some}
use Rattle.std.specs.Prelude.{drop}
use Rattle.pipe_model.specs.Event.{Want, answers}
use Rattle.pipe_model.specs.Event.Event.{Saw}
use Rattle.pipe_model.specs.FanRows.{synchronising}
use Rattle.pipe_model.specs.Inputs.{records_from}
use Rattle.pipe_model.specs.Next.{hears, nothing_known}
use Rattle.pipe_model.specs.Row.{Pair, Act, Plan, Known}
use Rattle.pipe_model.specs.Row.Act.{Writes, Takes}
use Rattle.pipe_model.specs.Shape.{asks, all_inputs, has_any, look, round_plan, writes}
use Rattle.stage_steps.specs.Plans.{known_done, last_from, with_acts}
use Rattle.fan_stages.specs.declared.round.Round.{Round}
use Rattle.fan_stages.specs.declared.synchronise.Synchronises.{Synchronises}
use Rattle.fan_stages.specs.Round.{lasts, next_place, takes_by, takes_count, BeginsRound, IsSettled, GivesTake, RoundIs}
use Rattle.fan_stages.specs.Synchronise.{writes_by, acts_count, GivesWrite, SynchronisesStand}
use Rattle.fan_stages.proofs.Passes.{asked_saw}
use Rattle.fan_stages.proofs.Rounds.{acts_by, Begun, begins, round_first, round_saw, round_took, takes_more, not_taking, all_ahead, takes_first, takes_fall, within_it, has_at, drop_at}

-- a plan that is just made, where none ended
started : (n : ℕ) (x : Synchronises) (k : Known) → k.ends ≡ [] → x.written ≡ 0 → (x.round.taking ≡ true → x.round.place ≡ 0) →
    Begun n (round_plan n synchronising k) (writes k.sight) x.round.open.items x.round.place x.round.taking k → SynchronisesStand x (round_plan n synchronising) k (round_plan n synchronising k)
started n x k none first at_first begun = record {
  inputs = n;
  plan_is = refl;
  none_ended = λ some. none;
  round = λ some. begun.round;
  writes_first = λ low takes. at_first takes;
  acts_are = begun.acts_are ∙ ap (λ l. l ++ takes_by x.round.taking x.round.place x.round.open.items) (by x.round.taking refl);
  goal_is = begun.goal_is;
}
  where
    by : (b : Bool) → x.round.taking ≡ b → acts_by b (writes k.sight) ≡ writes_by b x.written x.round.open.items k.seen
    by true takes =
        ap writes (all_ahead n x.round.open.items x.round.place k (subst (λ t. RoundIs n x.round.open.items x.round.place t k) takes begun.round) (at_first takes)).0
        ∙ ap (λ w. writes (lasts k.seen (drop w x.round.open.items))) (sym first)
    by false takes = refl

pub synchronise_first : (n : ℕ) (r : Round) (x : Synchronises) → BeginsRound n r → IsSettled r.open.items r.place x.round → x.written ≡ 0 → SynchronisesStand x (round_plan n synchronising) nothing_known (round_plan n synchronising nothing_known)
synchronise_first n r x begins_it settled first =
    let settled' : IsSettled (all_inputs n) 0 x.round = subst (λ o. IsSettled o 0 x.round) begins_it.open_are (subst (λ p. IsSettled r.open.items p x.round) begins_it.place_is settled) in
    started n x nothing_known refl first (takes_first (all_inputs n) 0 x.round settled')
    (begins n true (λ k. k.sight) nothing_known refl (all_inputs n) 0 x.round (round_first n) settled')

module _ (x : Synchronises) (plan : Known → Plan) (k : Known) where
  abbrev opened : List ℕ
  opened = x.round.open.items

  pub synchronise_saw : (want : Want) (i : ℕ) (rec : List ℕ) (y : Synchronises) → SynchronisesStand x plan k (asks want) → answers (Some want) (Saw i rec) ≡ true →
      (x.round.place < length opened → IsSettled opened (x.round.place + 1) y.round) → y.written ≡ 0 → SynchronisesStand y plan (hears k (Saw i rec)) (plan (hears k (Saw i rec)))
  synchronise_saw want i rec y is fits settles first =
      let k' = hears k (Saw i rec) in
      let at : slice_get opened (next_place x.round) ≡ Some i = asked_saw (slice_get opened (next_place x.round)) want i rec is.goal_is fits in
      let low = within_it opened (next_place x.round) i at in
      let some : 0 < length opened = omega (arith, low) in
      let reads : x.round.taking ≡ false = not_taking is.inputs opened x.round.place x.round.taking k (writes_by x.round.taking x.written opened k.seen) (is.round some) (sym is.acts_are) in
      let here : slice_get opened x.round.place ≡ Some i = ap (λ b. slice_get opened (cond b 0 x.round.place)) (sym reads) ∙ at in
      let settled = settles (within_it opened x.round.place i here) in
      let round : RoundIs is.inputs opened x.round.place false k = subst (λ b. RoundIs is.inputs opened x.round.place b k) reads (is.round some) in
      subst (λ (f : Known → Plan). SynchronisesStand y f k' (f k')) (sym is.plan_is)
      (started is.inputs y k' (is.none_ended some) first (takes_first opened (x.round.place + 1) y.round settled)
      (begins is.inputs true (λ k. k.sight) k' (ap has_any (is.none_ended some)) opened (x.round.place + 1) y.round (round_saw is.inputs opened x.round.place i k here rec round) settled))

  -- a write
  pub synchronise_write : (left : Plan) (i : ℕ) (y : Synchronises) → SynchronisesStand x plan k left → GivesWrite x y (Some i) →
      (rest : List Act) × (left.acts ≡ Writes i (last_from k.seen i) ∷ rest) × SynchronisesStand y plan k (with_acts rest left) × (0 < length (records_from i k.seen))
  synchronise_write left i y is gives =
      let low = within_it opened x.written i gives.1 in
      let some : 0 < length opened = omega (arith, low) in
      let start : x.round.place ≡ 0 = is.writes_first low gives.0 in
      let round : RoundIs is.inputs opened x.round.place true k = subst (λ b. RoundIs is.inputs opened x.round.place b k) gives.0 (is.round some) in
      let rest = writes_by true (x.written + 1) opened k.seen ++ takes_by true x.round.place opened in
      let next : suc x.written ≡ x.written + 1 = omega arith in
      let more : writes_by true x.written opened k.seen ≡ Writes i (last_from k.seen i) ∷ writes_by true (x.written + 1) opened k.seen =
      ap (λ l. writes (lasts k.seen l)) (drop_at opened x.written i gives.1 ∙ ap (λ w. i ∷ drop w opened) next) in (
        rest,
        is.acts_are ∙ ap (λ b. writes_by b x.written opened k.seen ++ takes_by b x.round.place opened) gives.0 ∙ ap (λ l. l ++ takes_by true x.round.place opened) more,
        subst (λ r. SynchronisesStand (record y { round = r }) plan k (with_acts rest left)) (sym gives.2)
            (subst (λ w. SynchronisesStand (record { round = x.round; written = w }) plan k (with_acts rest left)) (sym gives.3) (record {
              inputs = is.inputs;
              plan_is = is.plan_is;
              none_ended = is.none_ended;
              round = is.round;
              writes_first = λ low takes. start;
              acts_are = ap (λ b. writes_by b (x.written + 1) opened k.seen ++ takes_by b x.round.place opened) (sym gives.0);
              goal_is = is.goal_is;
            })),
        (all_ahead is.inputs opened x.round.place k round start).1 i (has_at opened x.written i gives.1),
      )

  -- a take, where each was written
  pub synchronise_take : (left : Plan) (i : ℕ) (r : Round) → SynchronisesStand x plan k left → ((seen : List Pair) → writes_by x.round.taking x.written opened seen ≡ []) → GivesTake x.round r (Some i) →
      (rest : List Act) × (left.acts ≡ Takes i ∷ rest) × SynchronisesStand (record { round = r; written = x.written }) plan (known_done (Takes i) k) (with_acts rest left) × Unit {0}
  synchronise_take left i r is none gives =
      let low = within_it opened x.round.place i gives.1 in
      let some : 0 < length opened = omega (arith, low) in
      let last = x.round.place + 1 == length opened in
      let round : RoundIs is.inputs opened x.round.place true k = subst (λ b. RoundIs is.inputs opened x.round.place b k) gives.0 (is.round some) in
      let written : writes_by true x.written opened k.seen ≡ [] = ap (λ b. writes_by b x.written opened k.seen) (sym gives.0) ∙ none k.seen in
      let rest = takes_by (not last) (cond last 0 (x.round.place + 1)) opened in (
        rest,
        is.acts_are ∙ ap (λ l. l ++ takes_by x.round.taking x.round.place opened) (none k.seen) ∙ ap (λ b. takes_by b x.round.place opened) gives.0 ∙ takes_more is.inputs opened x.round.place i k gives.1,
        record {
          inputs = is.inputs;
          plan_is = is.plan_is;
          none_ended = λ some'. is.none_ended some;
          round = λ some'. subst (λ o. RoundIs is.inputs o r.place r.taking (known_done (Takes i) k)) (sym gives.2)
              (subst (λ p. RoundIs is.inputs opened p r.taking (known_done (Takes i) k)) (sym gives.3)
              (subst (λ t. RoundIs is.inputs opened (cond last 0 (x.round.place + 1)) t (known_done (Takes i) k)) (sym gives.4) (round_took is.inputs opened x.round.place i k gives.1 round)));
          writes_first = λ low' takes. absurd (some_left opened x.written (subst (λ (o : List ℕ). x.written < length o) gives.2 low') written);
          acts_are = sym (ap (λ l. l ++ takes_by r.taking r.place r.open.items) (ap (λ o. writes_by r.taking x.written o k.seen) gives.2 ∙ nothing r.taking written)
              ∙ ap (takes_by r.taking r.place) gives.2 ∙ ap (λ p. takes_by r.taking p opened) gives.3 ∙ ap (λ t. takes_by t (cond last 0 (x.round.place + 1)) opened) gives.4);
          goal_is = is.goal_is
              ∙ ap (λ b. look (slice_get opened (cond b 0 x.round.place))) gives.0
              ∙ ap look (sym (ap (λ o. slice_get o (next_place r)) gives.2 ∙ ap (λ p. slice_get opened (cond r.taking 0 p)) gives.3 ∙ ap (λ t. slice_get opened (cond t 0 (cond last 0 (x.round.place + 1)))) gives.4 ∙ first last));
        },
        tt,
      )
    where
      nothing : (b : Bool) → writes_by true x.written opened k.seen ≡ [] → writes_by b x.written opened k.seen ≡ []
      nothing true e = e
      nothing false e = refl

      first : (b : Bool) → slice_get opened (cond (not b) 0 (cond b 0 (x.round.place + 1))) ≡ slice_get opened 0
      first true = refl
      first false = refl

      some_left : (xs : List ℕ) (w : ℕ) → w < length xs → writes (lasts k.seen (drop w xs)) ≡ [] → ⊥
      some_left [] w low e = omega (arith, low)
      some_left (z ∷ xs) zero low e = cc
      some_left (z ∷ xs) (suc w) low e = some_left xs w (omega (arith, low)) e

-- fewer acts are left
pub synchronise_falls : (x : Synchronises) (i : ℕ) (r : Round) → GivesTake x.round r (Some i) → acts_count (record { round = r; written = x.written }) < acts_count x
synchronise_falls x i r gives =
    let fewer = takes_fall x.round r i gives in
    let some : cond r.taking (length x.round.open.items - x.written) 0 ≤ length x.round.open.items - x.written = by r.taking in
    subst (λ b. acts_count (record { round = r; written = x.written }) < cond b (length x.round.open.items - x.written) 0 + takes_count x.round) (sym gives.0)
    (subst (λ (o : List ℕ). cond r.taking (length o - x.written) 0 + takes_count r < length x.round.open.items - x.written + takes_count x.round) (sym gives.2) (omega (arith, fewer, some)))
  where
    by : (b : Bool) → cond b (length x.round.open.items - x.written) 0 ≤ length x.round.open.items - x.written
    by true = omega arith
    by false = omega arith
