-- What an input stands for when its strand heard something or took a record.
use Rattle.std.proofs.Common.{◌≡◌, ◌≢◌, ℕ, ◌<◌, true, false, ◌&&◌, ◌||◌, not, List, [], ◌∷◌, ◌++◌, length, drop, refl, sym, ◌∙◌, ap, subst, arith}
use Rattle.std.proofs.lemmas.Bool.{ne_eqb}
use Rattle.std.proofs.lemmas.List.{length-append}
use Rattle.pipe_model.specs.declared.range.Range.{Range}
use Rattle.pipe_model.specs.Event.Event.{Saw, SawEnd}
use Rattle.pipe_model.specs.Inputs.{records_from}
use Rattle.pipe_model.specs.Members.{has}
use Rattle.pipe_model.specs.Next.{hears}
use Rattle.pipe_model.specs.Ranges.{part_of}
use Rattle.pipe_model.specs.Row.{Known, sees, without}
use Rattle.pipe_model.specs.Row.Act.{Takes}
use Rattle.pipe_model.specs.Shape.{lacks, at_hand_of}
use Rattle.pipe_model.proofs.Numbers.{test_same}
use Rattle.stage_steps.specs.Plans.{known_done}
use Rattle.stage_steps.proofs.Walks.{at_hand}
use Rattle.collate_stage.specs.declared.lane.At.{At}
use Rattle.collate_stage.specs.declared.lane.At.TheVariants.{Lacking, InSight, Ended}
use Rattle.collate_stage.specs.declared.lane.Lane.{Lane}
use Rattle.collate_stage.specs.Lanes.{is_lacking, in_sight, is_over, IsShown, SightIs, LaneIs}
use Rattle.collate_stage.proofs.Sights.{one_by, records_more, without_here, without_other, sees_none, sees_one}

module _ (range : Range) (k : Known) where
  -- what is in sight and was seen on an input is all that matters of what is known
  moved_sight : (k' : Known) (i : ℕ) (key : List ℕ) (at : At) → records_from i k'.sight ≡ records_from i k.sight → records_from i k'.seen ≡ records_from i k.seen →
      SightIs range k i key at → SightIs range k' i key at
  moved_sight k' i key Lacking same seen is = same ∙ is
  moved_sight k' i key Ended same seen is = same ∙ is
  moved_sight k' i key InSight same seen is = record {
    rec = is.rec;
    sight_is = same ∙ is.sight_is;
    last_is = ap at_hand_of seen ∙ is.last_is;
    came = subst (λ recs. 0 < length recs) (sym seen) is.came;
    key_is = is.key_is;
  }

  pub moved : (k' : Known) (i : ℕ) (lane : Lane) → records_from i k'.sight ≡ records_from i k.sight → records_from i k'.seen ≡ records_from i k.seen → has k'.ends i ≡ has k.ends i →
      LaneIs range k i lane → LaneIs range k' i lane
  moved k' i lane same seen ends is = record { sight_is = moved_sight k' i lane.key.items lane.at same seen is.sight_is; ends_are = ends ∙ is.ends_are }

  -- A record was seen

  pub sight_more : (i j : ℕ) (rec : List ℕ) → j ≢ i → records_from j (hears k (Saw i rec)).sight ≡ records_from j k.sight
  sight_more i j rec apart =
      records_more (without i k.sight) i j rec
      ∙ ap (λ b. one_by b rec (records_from j (without i k.sight))) (ne_eqb i j (λ e. apart (sym e)))
      ∙ without_other i j k.sight apart

  seen_more : (i j : ℕ) (rec : List ℕ) → j ≢ i → records_from j (hears k (Saw i rec)).seen ≡ records_from j k.seen
  seen_more i j rec apart = records_more k.seen i j rec ∙ ap (λ b. one_by b rec (records_from j k.seen)) (ne_eqb i j (λ e. apart (sym e)))

  pub saw_other : (i j : ℕ) (rec : List ℕ) (lane : Lane) → j ≢ i → LaneIs range k j lane → LaneIs range (hears k (Saw i rec)) j lane
  saw_other i j rec lane apart is = moved (hears k (Saw i rec)) j lane (sight_more i j rec apart) (seen_more i j rec apart) refl is

  pub sight_none : (i j : ℕ) (rec : List ℕ) → j ≢ i → records_from j k.sight ≡ [] → records_from j (hears k (Saw i rec)).sight ≡ []
  sight_none i j rec apart none = sight_more i j rec apart ∙ none

  pub sight_here : (i : ℕ) (rec : List ℕ) → records_from i k.sight ≡ [] → records_from i (hears k (Saw i rec)).sight ≡ rec ∷ []
  sight_here i rec none = records_more (without i k.sight) i i rec ∙ ap (λ b. one_by b rec (records_from i (without i k.sight))) (test_same i) ∙ ap (λ recs. recs ++ rec ∷ []) (without_here i k.sight ∙ ap (drop 1) none)

  shown : (i : ℕ) (rec : List ℕ) → records_from i k.sight ≡ [] → IsShown range (hears k (Saw i rec)) i (part_of range rec)
  shown i rec none =
      let seen : records_from i (hears k (Saw i rec)).seen ≡ records_from i k.seen ++ rec ∷ [] = records_more k.seen i i rec ∙ ap (λ b. one_by b rec (records_from i k.seen)) (test_same i) in
      record {
        rec = rec;
        sight_is = sight_here i rec none;
        last_is = ap at_hand_of seen ∙ at_hand (records_from i k.seen) rec;
        came = subst (λ recs. 0 < length recs) (sym seen) (omega (arith, length-append (records_from i k.seen) (rec ∷ [])));
        key_is = refl;
      }

  -- what was lacking
  pub none_lacking : (i : ℕ) (key : List ℕ) (at : At) → is_lacking at ≡ true → SightIs range k i key at → records_from i k.sight ≡ []
  none_lacking i key Lacking is sight = sight
  none_lacking i key InSight is sight = cc
  none_lacking i key Ended is sight = cc

  not_over : (at : At) → is_lacking at ≡ true → is_over at ≡ false
  not_over Lacking is = refl
  not_over InSight is = cc
  not_over Ended is = cc

  pub saw_here : (i : ℕ) (rec : List ℕ) (old lane : Lane) → is_lacking old.at ≡ true → LaneIs range k i old → lane.key.items ≡ part_of range rec → lane.at ≡ InSight → LaneIs range (hears k (Saw i rec)) i lane
  saw_here i rec old lane lacks is key at = record {
    sight_is = subst (λ at. SightIs range (hears k (Saw i rec)) i lane.key.items at) (sym at) (subst (IsShown range (hears k (Saw i rec)) i) (sym key) (shown i rec (none_lacking i old.key.items old.at lacks is.sight_is)));
    ends_are = is.ends_are ∙ not_over old.at lacks ∙ ap is_over (sym at);
  }

  -- An end was seen

  pub end_other : (i j : ℕ) (lane : Lane) → j ≢ i → LaneIs range k j lane → LaneIs range (hears k (SawEnd i)) j lane
  end_other i j lane apart is = moved (hears k (SawEnd i)) j lane refl refl (ap (λ b. b || has k.ends j) (ne_eqb i j (λ e. apart (sym e)))) is

  pub end_here : (i : ℕ) (old lane : Lane) → is_lacking old.at ≡ true → LaneIs range k i old → lane.at ≡ Ended → LaneIs range (hears k (SawEnd i)) i lane
  end_here i old lane lacks is at = record {
    sight_is = subst (λ at. SightIs range (hears k (SawEnd i)) i lane.key.items at) (sym at) (none_lacking i old.key.items old.at lacks is.sight_is);
    ends_are = ap (λ b. b || has k.ends i) (test_same i) ∙ ap is_over (sym at);
  }

  -- A record was taken

  pub took_other : (i j : ℕ) (lane : Lane) → j ≢ i → LaneIs range k j lane → LaneIs range (known_done (Takes i) k) j lane
  took_other i j lane apart is = moved (known_done (Takes i) k) j lane (without_other i j k.sight apart) refl refl is

  -- the record that is in sight
  pub shown_of : (i : ℕ) (lane : Lane) → in_sight lane.at ≡ true → LaneIs range k i lane → IsShown range k i lane.key.items
  shown_of i lane sees is = by lane.at sees is.sight_is
    where
      by : (at : At) → in_sight at ≡ true → SightIs range k i lane.key.items at → IsShown range k i lane.key.items
      by Lacking sees sight = cc
      by InSight sees sight = sight
      by Ended sees sight = cc

  pub none_of : (i : ℕ) (lane : Lane) → in_sight lane.at ≡ false → LaneIs range k i lane → records_from i k.sight ≡ []
  none_of i lane hides is = by lane.at hides is.sight_is
    where
      by : (at : At) → in_sight at ≡ false → SightIs range k i lane.key.items at → records_from i k.sight ≡ []
      by Lacking hides sight = sight
      by InSight hides sight = cc
      by Ended hides sight = sight

  pub goes_on : (i : ℕ) (lane : Lane) → in_sight lane.at ≡ true → LaneIs range k i lane → has k.ends i ≡ false
  goes_on i lane sees is = is.ends_are ∙ by lane.at sees
    where
      by : (at : At) → in_sight at ≡ true → is_over at ≡ false
      by Lacking sees = cc
      by InSight sees = refl
      by Ended sees = cc

  pub took_sight : (i : ℕ) (lane : Lane) → in_sight lane.at ≡ true → LaneIs range k i lane → records_from i (without i k.sight) ≡ []
  took_sight i lane sees is = without_here i k.sight ∙ ap (drop 1) (shown_of i lane sees is).sight_is

  pub took_here : (i : ℕ) (old lane : Lane) → in_sight old.at ≡ true → LaneIs range k i old → lane.at ≡ Lacking → LaneIs range (known_done (Takes i) k) i lane
  took_here i old lane sees is at = record {
    sight_is = subst (λ at. SightIs range (known_done (Takes i) k) i lane.key.items at) (sym at) (took_sight i old sees is);
    ends_are = goes_on i old sees is ∙ ap is_over (sym at);
  }

  -- it is to be read
  pub lacks_is : (i : ℕ) (lane : Lane) → LaneIs range k i lane → lacks k.sight k.ends i ≡ is_lacking lane.at
  lacks_is i lane is = by lane.at is.sight_is is.ends_are
    where
      by : (at : At) → SightIs range k i lane.key.items at → has k.ends i ≡ is_over at → (not (sees i k.sight) && not (has k.ends i)) ≡ is_lacking at
      by Lacking sight ends = ap (λ b. not b && not (has k.ends i)) (sees_none i k.sight sight) ∙ ap not ends
      by InSight sight ends = ap (λ b. not b && not (has k.ends i)) (sees_one i k.sight sight.sight_is)
      by Ended sight ends = ap (λ b. not b && not (has k.ends i)) (sees_none i k.sight sight) ∙ ap not ends
