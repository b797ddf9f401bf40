-- What MERGE's plans stand for.
use Rattle.std.specs.Prelude.{◌≡◌, ◌≢◌, ◌<◌, ◌≤◌, ℕ, ◌==◌, nat_le, true, false, ◌&&◌, ◌||◌, not, List, [], ◌∷◌, length, slice_get, pos}
use Rattle.std.specs.declared.option.Option.{Option}
use Rattle.std.specs.declared.option.Option.TheVariants.{Some, None}
use Rattle.pipe_model.specs.declared.range.Range.{Range}
use Rattle.pipe_model.specs.Event.Want.{Read}
use Rattle.pipe_model.specs.Inputs.{records_from}
use Rattle.pipe_model.specs.JoiningRows.{merging}
use Rattle.pipe_model.specs.Row.{Act, Plan, Known}
use Rattle.pipe_model.specs.Row.Act.{Writes, Takes}
use Rattle.pipe_model.specs.Row.Goal.{Asks}
use Rattle.pipe_model.specs.Shape.{asks, ends, round_plan}
use Rattle.stage_steps.specs.Plans.{last_from}
use Rattle.collate_stage.specs.declared.lane.At.TheVariants.{Lacking}
use Rattle.collate_stage.specs.declared.lane.Lane.{Lane}
use Rattle.collate_stage.specs.declared.merge.Due.{Due}
use Rattle.collate_stage.specs.declared.merge.Due.TheVariants.{Write, Take, Read as Reading, End}
use Rattle.collate_stage.specs.declared.merge.Merge.{Merge}
use Rattle.collate_stage.specs.Lanes.{is_lacking, in_sight, LaneIs}
use Rattle.collate_stage.specs.Queues.{leads, waits, IsQueue}

-- each input stands by what the strand knows, and nothing else is in sight
pub record AreLanes (range : Range) (lanes : List Lane) (k : Known) : Type 0 where
  pub each : (i : ℕ) (lane : Lane) → slice_get lanes i ≡ Some lane → LaneIs range k i lane
  pub none_else : (i : ℕ) → length lanes ≤ i → records_from i k.sight ≡ []

-- so many inputs, none of which was ever read
pub record AreNew (lanes : List Lane) (count : ℕ) : Type 0 where
  pub length_is : length lanes ≡ count
  pub each : (i : ℕ) (lane : Lane) → slice_get lanes i ≡ Some lane → lane.at ≡ Lacking

-- one of the inputs is changed, and then it is so
pub record IsChanged (old new : List Lane) (i : ℕ) (IsSo : Lane → Type 0) : Type 0 where
  pub length_is : length new ≡ length old
  pub others : (j : ℕ) → j ≢ i → slice_get new j ≡ slice_get old j
  pub here : (lane : Lane) → slice_get new i ≡ Some lane → IsSo lane

-- of the records in sight on the inputs below n, none goes before that of input m
pub record IsFirst (lanes : List Lane) (n m : ℕ) : Type 0 where
  pub lane : Lane
  pub here : slice_get lanes m ≡ Some lane
  pub sees : in_sight lane.at ≡ true
  pub below : m < n
  pub first : (j : ℕ) (other : Lane) → j < n → slice_get lanes j ≡ Some other → in_sight other.at ≡ true → leads other.key.items j lane.key.items m ≡ false

-- the first of them, or none is in sight
abbrev pub IsLeast : List Lane → ℕ → Option ℕ → Type 0
IsLeast lanes n None = (j : ℕ) (lane : Lane) → j < n → slice_get lanes j ≡ Some lane → in_sight lane.at ≡ false
IsLeast lanes n (Some m) = IsFirst lanes n m

-- it reads input i: only that one and those that never were read, from a number on, are to be read
pub record IsReading (i opened : ℕ) (lanes : List Lane) (left : Plan) : Type 0 where
  pub left_is : left ≡ asks (Read i)
  pub within : i < length lanes
  pub low : i ≤ opened
  pub high : opened ≤ length lanes
  pub lacking : (j : ℕ) (lane : Lane) → slice_get lanes j ≡ Some lane → is_lacking lane.at ≡ (i == j || nat_le opened j)

-- it does acts for the record in sight on input i: nothing is to be read before that one is taken
pub record IsTurning (acts : List Act) (i opened : ℕ) (lanes : List Lane) (left : Plan) : Type 0 where
  pub left_is : left ≡ record { acts = acts; goal = Asks (Read i) }
  pub lane : Lane
  pub here : slice_get lanes i ≡ Some lane
  pub sees : in_sight lane.at ≡ true
  pub all_opened : opened ≡ length lanes
  pub lacking : (j : ℕ) (lane : Lane) → slice_get lanes j ≡ Some lane → is_lacking lane.at ≡ false

-- what is left of its plan
abbrev pub LeftIs : Due → ℕ → ℕ → List Lane → Known → Plan → Type 0
LeftIs Write i opened lanes k left = IsTurning (Writes 0 (last_from k.seen i) ∷ Takes i ∷ []) i opened lanes left
LeftIs Take i opened lanes k left = IsTurning (Takes i ∷ []) i opened lanes left
LeftIs Reading i opened lanes k left = IsReading i opened lanes left
LeftIs End i opened lanes k left = left ≡ ends (pos 0)

-- the value stands for the plans of MERGE's row, what the strand knows, and what is left of a plan
pub record MergeIs (x : Merge) (plan : Known → Plan) (k : Known) (left : Plan) : Type 0 where
  pub plan_is : plan ≡ round_plan (length x.lanes.items) (merging x.range)
  pub count_is : length x.lanes.items ≡ x.count
  pub lanes_are : AreLanes x.range x.lanes.items k
  pub queue_is : IsQueue x.lanes.items (waits x.lanes.items x.input) x.queue.items
  pub left_is : LeftIs x.due x.input x.opened x.lanes.items k left

-- input i was heard, which it was to read
pub record IsHeard (range : Range) (lanes : List Lane) (i opened : ℕ) (k : Known) : Type 0 where
  pub lanes_are : AreLanes range lanes k
  pub within : i < length lanes
  pub low : i ≤ opened
  pub high : opened ≤ length lanes
  pub lacking : (j : ℕ) (lane : Lane) → slice_get lanes j ≡ Some lane → is_lacking lane.at ≡ (not (i == j) && nat_le opened j)

-- what it does then is what the row says, and the others with a record in sight wait
abbrev pub GoesOn : Merge → Merge → Type 0
GoesOn x y = length x.lanes.items ≡ x.count → IsQueue x.lanes.items (waits x.lanes.items x.input) x.queue.items → (k : Known) → IsHeard x.range x.lanes.items x.input x.opened k →
    LeftIs y.due y.input y.opened x.lanes.items k (round_plan (length x.lanes.items) (merging x.range) k) × IsQueue x.lanes.items (waits x.lanes.items y.input) y.queue.items

-- how many acts are left at most
abbrev pub acts_due : Due → ℕ
acts_due Write = 2
acts_due Take = 1
acts_due Reading = 0
acts_due End = 0

abbrev pub merge_left : Merge → ℕ
merge_left x = acts_due x.due
