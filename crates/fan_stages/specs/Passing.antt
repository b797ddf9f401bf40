-- What is left to do with the record at hand, of a stage that writes on output 0 for each record, and what is read next by one that passes each record on.
use Rattle.std.specs.Prelude.{◌≡◌, ◌<◌, ℕ, List, [], ◌∷◌, length, find}
use Rattle.std.specs.declared.option.Option.{Option}
use Rattle.std.specs.declared.option.Option.TheVariants.{Some, None}
use Rattle.pipe_model.specs.FanRows.{passed}
use Rattle.pipe_model.specs.Inputs.{records_from}
use Rattle.pipe_model.specs.Row.{Pair, Act, Plan, Known}
use Rattle.pipe_model.specs.Row.Act.{Writes, Takes}
use Rattle.pipe_model.specs.Shape.{can_read, look, turn_plan}
use Rattle.stage_steps.specs.declared.plans.Act.{Act as Doing}
use Rattle.stage_steps.specs.Plans.{act_of, last_from, IsOfSeen}
use Rattle.fan_stages.specs.declared.passing.Passing.{Passing}
use Rattle.fan_stages.specs.declared.passing.Passing.TheVariants.{Writing, Taking, Passed}

-- the acts that are left, by the record that is written for one of an input
abbrev pub passing_acts : Passing → (ℕ → List ℕ) → List Act
passing_acts (Writing i) made = Writes 0 (made i) ∷ Takes i ∷ []
passing_acts (Taking i) made = Takes i ∷ []
passing_acts Passed made = []

abbrev pub passing_count : Passing → ℕ
passing_count (Writing i) = 2
passing_count (Taking i) = 1
passing_count Passed = 0

-- a record that is to be written came
abbrev pub IsOfCame : Passing → List Pair → Type 0
IsOfCame (Writing i) seen = 0 < length (records_from i seen)
IsOfCame (Taking i) seen = Unit {0}
IsOfCame Passed seen = Unit {0}

-- the first act that is left, or none where nothing is
abbrev pub GivesPassing : Passing → Passing → Option Doing → Type 0
GivesPassing x y None = (y ≡ x) × ((seen : List Pair) → passing_acts x (last_from seen) ≡ [])
GivesPassing x y (Some act) = (seen : List Pair) → IsOfCame x seen → (passing_acts x (last_from seen) ≡ act_of act seen ∷ passing_acts y (last_from seen)) × IsOfCame y seen × IsOfSeen act seen

abbrev pub FallsPassing : Passing → Passing → Option Doing → Type 0
FallsPassing x y None = Unit {0}
FallsPassing x y (Some act) = passing_count y < passing_count x

-- the plans of a stage that passes on the records of its inputs, read in some order
abbrev pub passes_on : ℕ → (ℕ → List Pair → List ℕ) → Known → Plan
passes_on inputs order k = turn_plan inputs (record { order = order; outs = passed; last = λ seen. [] }) k k.told

-- what is left of such a plan, and the input that is read next, if any
pub record PassesOn (inputs : ℕ) (order : ℕ → List Pair → List ℕ) (passing : Passing) (next : Option ℕ) (plan : Known → Plan) (k : Known) (left : Plan) : Type 0 where
  pub plan_is : plan ≡ passes_on inputs order
  pub next_is : find (can_read inputs k.ends) (order inputs k.seen) ≡ next
  pub came : IsOfCame passing k.seen
  pub acts_are : left.acts ≡ passing_acts passing (last_from k.seen)
  pub goal_is : left.goal ≡ look next
