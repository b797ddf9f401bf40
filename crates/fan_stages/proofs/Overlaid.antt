-- What OVERLAY's value stands for behind each call.
use Rattle.std.proofs.Common.{◌≡◌, ◌<◌, ◌+◌, ℕ, Bool, true, false, cond, not, ◌==◌, List, [], ◌∷◌, ◌++◌, length, slice_get, refl, sym, ◌∙◌, ap, subst, Some}
use Rattle.std.specs.List.{remove}
use Rattle.std.proofs.lemmas.List.{map-append}
use Rattle.pipe_model.specs.Event.{Want, answers}
use Rattle.pipe_model.specs.Event.Event.{Saw, SawEnd}
use Rattle.pipe_model.specs.FanRows.{laid_over, overlaid, overlaying}
use Rattle.pipe_model.specs.Next.{hears, nothing_known}
use Rattle.pipe_model.specs.Row.{Pair, Act, Plan, Known, without}
use Rattle.pipe_model.specs.Row.Act.{Writes, Takes}
use Rattle.pipe_model.specs.Shape.{asks, all_inputs, look, records_of, round_plan, writes}
use Rattle.stage_steps.specs.Plans.{known_done, with_acts}
use Rattle.fan_stages.specs.declared.overlay.Overlays.{Overlays}
use Rattle.fan_stages.specs.declared.round.Round.{Round}
use Rattle.fan_stages.specs.Round.{next_place, takes_by, takes_left, BeginsRound, IsSettled, GivesTake, RoundIs}
use Rattle.fan_stages.specs.Overlay.{due_write, OverlaysStand}
use Rattle.fan_stages.proofs.Laying.{overlaid_more}
use Rattle.fan_stages.proofs.Passes.{asked_saw, asked_end}
use Rattle.fan_stages.proofs.Rounds.{acts_by, Begun, begins, round_first, round_saw, round_end, round_took, takes_more, not_taking, not_in_sight, nothing_in_sight, reads_first, within_it}

-- what is written in a round
abbrev written : ℕ → Known → List Pair
written pad k = (0, overlaid pad (records_of k.sight)) ∷ []

-- a plan that is just made, where what is in sight was made
started : (n : ℕ) (x : Overlays) (k : Known) → x.due ≡ x.round.taking → x.made.items ≡ overlaid x.pad (records_of k.sight) →
    Begun n (round_plan n (overlaying x.pad) k) (writes (written x.pad k)) x.round.open.items x.round.place x.round.taking k → OverlaysStand x (round_plan n (overlaying x.pad)) k (round_plan n (overlaying x.pad) k)
started n x k due made begun = record {
  inputs = n;
  plan_is = refl;
  round = begun.round;
  due_takes = λ is. sym due ∙ is;
  made_is = λ is. made ∙ ap (λ b. overlaid x.pad (cond b [] (records_of k.sight))) (sym is ∙ due);
  acts_are = begun.acts_are ∙ ap (λ l. l ++ takes_left x.round) (by x.round.taking ∙ ap (λ b. due_write b x.made.items) (sym due));
  goal_is = begun.goal_is;
}
  where
    by : (b : Bool) → acts_by b (writes (written x.pad k)) ≡ due_write b x.made.items
    by true = ap (λ m. Writes 0 m ∷ []) (sym made)
    by false = refl

pub overlay_first : (n : ℕ) (r : Round) (x : Overlays) → BeginsRound n r → IsSettled r.open.items r.place x.round → x.made.items ≡ [] → x.due ≡ false →
    OverlaysStand x (round_plan n (overlaying x.pad)) nothing_known (round_plan n (overlaying x.pad) nothing_known)
overlay_first n r x begins_it settled made due =
    let settled' : IsSettled (all_inputs n) 0 x.round = subst (λ o. IsSettled o 0 x.round) begins_it.open_are (subst (λ p. IsSettled r.open.items p x.round) begins_it.place_is settled) in
    started n x nothing_known (due ∙ sym (reads_first (all_inputs n) x.round settled')) made
    (begins n false (written x.pad) nothing_known refl (all_inputs n) 0 x.round (round_first n) settled')

module _ (x : Overlays) (plan : Known → Plan) (k : Known) where
  abbrev opened : List ℕ
  opened = x.round.open.items

  -- it waits for an input
  record Waits (inputs i : ℕ) : Type 0 where
    here : slice_get opened x.round.place ≡ Some i
    round : RoundIs inputs opened x.round.place false k
    made : x.made.items ≡ overlaid x.pad (records_of k.sight)

  waits : (want : Want) (i : ℕ) (is : OverlaysStand x plan k (asks want)) → slice_get opened (next_place x.round) ≡ Some i → Waits is.inputs i
  waits want i is at =
      let reads : x.round.taking ≡ false = not_taking is.inputs opened x.round.place x.round.taking k (due_write x.due x.made.items) is.round (sym is.acts_are) in
      record {
        here = ap (λ b. slice_get opened (cond b 0 x.round.place)) (sym reads) ∙ at;
        round = subst (λ b. RoundIs is.inputs opened x.round.place b k) reads is.round;
        made = is.made_is (not_due x.due refl reads) ∙ ap (λ b. overlaid x.pad (cond b [] (records_of k.sight))) reads;
      }
    where
      not_due : (b : Bool) → x.due ≡ b → x.round.taking ≡ false → x.due ≡ false
      not_due true e reads = let wrong : true ≡ false = sym (is.due_takes e) ∙ reads in cc
      not_due false e reads = e

  pub overlay_saw : (want : Want) (i : ℕ) (rec : List ℕ) (y : Overlays) → OverlaysStand x plan k (asks want) → answers (Some want) (Saw i rec) ≡ true →
      (x.round.place < length opened → IsSettled opened (x.round.place + 1) y.round) → y.pad ≡ x.pad → y.made.items ≡ laid_over x.pad rec x.made.items → y.due ≡ y.round.taking →
      OverlaysStand y plan (hears k (Saw i rec)) (plan (hears k (Saw i rec)))
  overlay_saw want i rec y is fits settles same made due =
      let k' = hears k (Saw i rec) in
      let w = waits want i is (asked_saw (slice_get opened (next_place x.round)) want i rec is.goal_is fits) in
      let settled = settles (within_it opened x.round.place i w.here) in
      let sight : records_of k'.sight ≡ records_of k.sight ++ rec ∷ [] =
      ap (λ s. records_of (s ++ (i, rec) ∷ [])) (not_in_sight is.inputs opened x.round.place i k w.here w.round) ∙ map-append (λ (p : Pair). p.1) k.sight ((i, rec) ∷ []) in
      let made' : y.made.items ≡ overlaid y.pad (records_of k'.sight) =
      made ∙ ap (laid_over x.pad rec) w.made ∙ sym (overlaid_more x.pad (records_of k.sight) rec) ∙ ap (overlaid x.pad) (sym sight) ∙ ap (λ p. overlaid p (records_of k'.sight)) (sym same) in
      subst (λ (f : Known → Plan). OverlaysStand y f k' (f k')) (ap (λ p. round_plan is.inputs (overlaying p)) same ∙ sym is.plan_is)
      (started is.inputs y k' due made' (begins is.inputs false (written y.pad) k' refl opened (x.round.place + 1) y.round (round_saw is.inputs opened x.round.place i k w.here rec w.round) settled))

  pub overlay_end : (want : Want) (i : ℕ) (y : Overlays) → OverlaysStand x plan k (asks want) → answers (Some want) (SawEnd i) ≡ true →
      IsSettled (remove opened x.round.place) x.round.place y.round → y.pad ≡ x.pad → y.made.items ≡ x.made.items → y.due ≡ y.round.taking →
      OverlaysStand y plan (hears k (SawEnd i)) (plan (hears k (SawEnd i)))
  overlay_end want i y is fits settled same made due =
      let k' = hears k (SawEnd i) in
      let w = waits want i is (asked_end (slice_get opened (next_place x.round)) want i is.goal_is fits) in
      let made' : y.made.items ≡ overlaid y.pad (records_of k'.sight) = made ∙ w.made ∙ ap (λ p. overlaid p (records_of k.sight)) (sym same) in
      subst (λ (f : Known → Plan). OverlaysStand y f k' (f k')) (ap (λ p. round_plan is.inputs (overlaying p)) same ∙ sym is.plan_is)
      (started is.inputs y k' due made' (begins is.inputs false (written y.pad) k' refl (remove opened x.round.place) x.round.place y.round (round_end is.inputs opened x.round.place i k w.here w.round) settled))

  -- the write
  pub overlay_write : (left : Plan) (rec : List ℕ) (y : Overlays) → OverlaysStand x plan k left → x.due ≡ true → rec ≡ x.made.items → y.round ≡ x.round → y.pad ≡ x.pad → y.made.items ≡ [] → y.due ≡ false →
      (rest : List Act) × (left.acts ≡ Writes 0 rec ∷ rest) × OverlaysStand y plan k (with_acts rest left) × Unit {0}
  overlay_write left rec y is due rec_is round pad made due' =
      let takes : y.round.taking ≡ true = ap (λ (r : Round). r.taking) round ∙ is.due_takes due in (
        takes_left x.round,
        is.acts_are ∙ ap (λ b. due_write b x.made.items ++ takes_left x.round) due ∙ ap (λ m. Writes 0 m ∷ takes_left x.round) (sym rec_is),
        record {
          inputs = is.inputs;
          plan_is = is.plan_is ∙ ap (λ p. round_plan is.inputs (overlaying p)) (sym pad);
          round = subst (λ (r : Round). RoundIs is.inputs r.open.items r.place r.taking k) (sym round) is.round;
          due_takes = λ e. takes;
          made_is = λ e. made ∙ ap (λ b. overlaid y.pad (cond b [] (records_of k.sight))) (sym takes);
          acts_are = ap takes_left (sym round) ∙ ap (λ b. due_write b y.made.items ++ takes_left y.round) (sym due');
          goal_is = is.goal_is ∙ ap (λ (r : Round). look (slice_get r.open.items (next_place r))) (sym round);
        },
        tt,
      )

  -- a take
  pub overlay_take : (left : Plan) (i : ℕ) (r : Round) → OverlaysStand x plan k left → x.due ≡ false → GivesTake x.round r (Some i) →
      (rest : List Act) × (left.acts ≡ Takes i ∷ rest) × OverlaysStand (record x { round = r }) plan (known_done (Takes i) k) (with_acts rest left) × Unit {0}
  overlay_take left i r is due gives =
      let last = x.round.place + 1 == length opened in
      let k' = known_done (Takes i) k in
      let took = round_took is.inputs opened x.round.place i k gives.1 (subst (λ b. RoundIs is.inputs opened x.round.place b k) gives.0 is.round) in
      let made : x.made.items ≡ [] = is.made_is due ∙ ap (λ b. overlaid x.pad (cond b [] (records_of k.sight))) gives.0 in (
        takes_by (not last) (cond last 0 (x.round.place + 1)) opened,
        is.acts_are ∙ ap (λ b. due_write b x.made.items ++ takes_left x.round) due ∙ ap (λ b. takes_by b x.round.place opened) gives.0 ∙ takes_more is.inputs opened x.round.place i k gives.1,
        record {
          inputs = is.inputs;
          plan_is = is.plan_is;
          round = subst (λ o. RoundIs is.inputs o r.place r.taking k') (sym gives.2)
              (subst (λ p. RoundIs is.inputs opened p r.taking k') (sym gives.3)
              (subst (λ t. RoundIs is.inputs opened (cond last 0 (x.round.place + 1)) t k') (sym gives.4) took));
          due_takes = λ e. let wrong : true ≡ false = sym e ∙ due in cc;
          made_is = λ e. made ∙ sym (ap (λ b. overlaid x.pad (cond b [] (records_of k'.sight))) gives.4 ∙ none last took);
          acts_are = sym (ap (λ b. due_write b x.made.items ++ takes_left r) due ∙ ap (takes_by r.taking r.place) gives.2 ∙ ap (λ p. takes_by r.taking p opened) gives.3 ∙ ap (λ t. takes_by t (cond last 0 (x.round.place + 1)) opened) gives.4);
          goal_is = is.goal_is
              ∙ ap (λ b. look (slice_get opened (cond b 0 x.round.place))) gives.0
              ∙ ap look (sym (ap (λ o. slice_get o (next_place r)) gives.2 ∙ ap (λ p. slice_get opened (cond r.taking 0 p)) gives.3 ∙ ap (λ t. slice_get opened (cond t 0 (cond last 0 (x.round.place + 1)))) gives.4 ∙ first last));
        },
        tt,
      )
    where
      first : (b : Bool) → slice_get opened (cond (not b) 0 (cond b 0 (x.round.place + 1))) ≡ slice_get opened 0
      first true = refl
      first false = refl

      none : (b : Bool) → RoundIs is.inputs opened (cond b 0 (x.round.place + 1)) (not b) (known_done (Takes i) k) → overlaid x.pad (cond (not b) [] (records_of (without i k.sight))) ≡ []
      none true took = ap (λ s. overlaid x.pad (records_of s)) (nothing_in_sight is.inputs opened 0 (known_done (Takes i) k) took refl)
      none false took = refl
