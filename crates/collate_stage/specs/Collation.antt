-- What COLLATE's plans stand for.
use Rattle.std.specs.Prelude.{◌≡◌, ◌≤◌, ℕ, ◌==◌, Bool, true, false, not, if◌then◌else◌, List, [], ◌∷◌, length, pos}
use Rattle.pipe_model.specs.declared.range.Range.{Range}
use Rattle.pipe_model.specs.Event.Want.{Read}
use Rattle.pipe_model.specs.Inputs.{records_from}
use Rattle.pipe_model.specs.JoiningRows.{detail_then, matches, collating}
use Rattle.pipe_model.specs.Keys.{is_less, is_same}
use Rattle.pipe_model.specs.Row.{Pair, Act, Goal, Plan, Known}
use Rattle.pipe_model.specs.Row.Act.{Writes, Takes}
use Rattle.pipe_model.specs.Row.Goal.{Asks, Ends}
use Rattle.pipe_model.specs.Shape.{round_plan}
use Rattle.stage_steps.specs.Plans.{last_from}
use Rattle.collate_stage.specs.declared.lane.At.{At}
use Rattle.collate_stage.specs.declared.lane.At.TheVariants.{Lacking, InSight, Ended}
use Rattle.collate_stage.specs.declared.lane.Lane.{Lane}
use Rattle.collate_stage.specs.declared.collate.Step.{Step}
use Rattle.collate_stage.specs.declared.collate.Step.TheVariants.{WriteBoth, WriteMatch, WriteMaster, WriteDetail, TakeMaster, TakeDetail, ReadMaster, ReadDetail, End}
use Rattle.collate_stage.specs.declared.collate.Collate.{Collate}
use Rattle.collate_stage.specs.Lanes.{is_lacking, in_sight, LaneIs}

-- Steps

-- for a master that is over
abbrev pub lone_master : Bool → Step
lone_master matched = if matched then TakeMaster else WriteMaster

-- for a master and a detail in sight, by whether they have one key, and whether the master's is less
abbrev pub compared : Bool → Bool → Bool → Step
compared same less matched = if same then (if matched then WriteMatch else WriteBoth) else if less then lone_master matched else WriteDetail

abbrev pub step_by : At → At → Bool → Bool → Bool → Step
step_by Lacking detail same less matched = ReadMaster
step_by InSight Lacking same less matched = ReadDetail
step_by InSight InSight same less matched = compared same less matched
step_by InSight Ended same less matched = lone_master matched
step_by Ended Lacking same less matched = ReadDetail
step_by Ended InSight same less matched = WriteDetail
step_by Ended Ended same less matched = End

-- when an input was heard
abbrev pub step_of : Lane → Lane → Bool → Step
step_of master detail matched = step_by master.at detail.at (is_same master.key.items detail.key.items) (is_less master.key.items detail.key.items) matched

-- a detail has matched the master when the step is done
abbrev pub has_matched : Step → Bool → Bool
has_matched WriteBoth matched = true
has_matched _ matched = matched

-- what is left of its plan, by the records that came

abbrev pub step_acts : Step → List Pair → List Act
step_acts WriteBoth seen = Writes 0 (last_from seen 0) ∷ Writes 0 (last_from seen 1) ∷ Takes 1 ∷ []
step_acts WriteMatch seen = Writes 0 (last_from seen 1) ∷ Takes 1 ∷ []
step_acts WriteMaster seen = Writes 1 (last_from seen 0) ∷ Takes 0 ∷ []
step_acts WriteDetail seen = Writes 2 (last_from seen 1) ∷ Takes 1 ∷ []
step_acts TakeMaster seen = Takes 0 ∷ []
step_acts TakeDetail seen = Takes 1 ∷ []
step_acts _ seen = []

abbrev pub step_goal : Step → Goal
step_goal WriteBoth = Asks (Read 1)
step_goal WriteMatch = Asks (Read 1)
step_goal WriteMaster = Asks (Read 0)
step_goal WriteDetail = Asks (Read 1)
step_goal TakeMaster = Asks (Read 0)
step_goal TakeDetail = Asks (Read 1)
step_goal ReadMaster = Asks (Read 0)
step_goal ReadDetail = Asks (Read 1)
step_goal End = Ends (pos 0)

-- how the master and the detail stand before a step
abbrev pub fits_master : Step → At → Bool
fits_master WriteBoth at = in_sight at
fits_master WriteMaster at = in_sight at
fits_master TakeMaster at = in_sight at
fits_master ReadMaster at = is_lacking at
fits_master End at = true
fits_master _ at = not (is_lacking at)

abbrev pub fits_detail : Step → At → Bool
fits_detail WriteMaster at = true
fits_detail TakeMaster at = true
fits_detail ReadMaster at = true
fits_detail ReadDetail at = is_lacking at
fits_detail End at = true
fits_detail _ at = in_sight at

abbrev pub is_reading_detail : Step → Bool
is_reading_detail ReadDetail = true
is_reading_detail _ = false

-- how many details matched the master in sight
abbrev pub match_count : Range → Range → Known → ℕ
match_count of_master of_detail k = length (matches of_master of_detail (records_from 0 k.sight) k.told)

-- the value stands for the plans of COLLATE's row, what the strand knows, and what is left of a plan
pub record CollateIs (x : Collate) (plan : Known → Plan) (k : Known) (left : Plan) : Type 0 where
  pub plan_is : plan ≡ round_plan 2 (collating x.of_master x.of_detail)
  pub master_is : LaneIs x.of_master k 0 x.master
  pub detail_is : LaneIs x.of_detail k 1 x.detail
  pub none_else : (i : ℕ) → 2 ≤ i → records_from i k.sight ≡ []
  -- the flag says whether there was a match
  pub count_is : (match_count x.of_master x.of_detail k == 0) ≡ not x.matched
  -- the detail in sight is the one that a master would come beside
  pub beside_is : is_reading_detail x.step ≡ false → detail_then k.told ≡ records_from 1 k.sight
  pub master_fits : fits_master x.step x.master.at ≡ true
  pub detail_fits : fits_detail x.step x.detail.at ≡ true
  pub left_is : left ≡ record { acts = step_acts x.step k.seen; goal = step_goal x.step }

-- one input is heard, on which the master or the detail is then so
pub record HearsOn (x y : Collate) (i : ℕ) (IsMaster IsDetail : Lane → Type 0) : Type 0 where
  pub of_master_is : y.of_master ≡ x.of_master
  pub of_detail_is : y.of_detail ≡ x.of_detail
  pub matched_is : y.matched ≡ x.matched
  pub on_master : i ≡ 0 → IsMaster y.master × (y.detail ≡ x.detail)
  pub on_detail : (i ≡ 0 → ⊥) → IsDetail y.detail × (y.master ≡ x.master)

-- the record has this key, and is in sight
abbrev pub IsKeyed : List ℕ → Lane → Type 0
IsKeyed key lane = (lane.key.items ≡ key) × (lane.at ≡ InSight)

abbrev pub IsEnded : Lane → Type 0
IsEnded lane = lane.at ≡ Ended

-- how many acts are left at most
abbrev pub step_count : Step → ℕ
step_count WriteBoth = 3
step_count WriteMatch = 2
step_count WriteMaster = 2
step_count WriteDetail = 2
step_count TakeMaster = 1
step_count TakeDetail = 1
step_count _ = 0

abbrev pub collate_left : Collate → ℕ
collate_left x = step_count x.step
