-- What is left to do with the record at hand, of a stage that writes each record on the output of its input's number.
use Rattle.std.specs.Prelude.{◌≡◌, ◌<◌, ℕ, List, [], ◌∷◌, length}
use Rattle.std.specs.declared.option.Option.{Option}
use Rattle.std.specs.declared.option.Option.TheVariants.{Some, None}
use Rattle.pipe_model.specs.Inputs.{records_from}
use Rattle.pipe_model.specs.Row.{Pair, Act, Goal, Plan, Known}
use Rattle.pipe_model.specs.Row.Act.{Writes, Takes}
use Rattle.stage_steps.specs.declared.plans.Act.{Act as Doing}
use Rattle.stage_steps.specs.Plans.{act_of, last_from, IsOfSeen}
use Rattle.gate_elastic.specs.declared.passing.Passing.{Passing}
use Rattle.gate_elastic.specs.declared.passing.Passing.TheVariants.{Writing, Taking, Passed}

-- the acts that are left, by the records that came
abbrev pub passing_acts : Passing → List Pair → List Act
passing_acts (Writing i) seen = Writes i (last_from seen i) ∷ Takes i ∷ []
passing_acts (Taking i) seen = Takes i ∷ []
passing_acts Passed seen = []

abbrev pub passing_count : Passing → ℕ
passing_count (Writing i) = 2
passing_count (Taking i) = 1
passing_count Passed = 0

-- where a record is to be written, one came from the input
abbrev pub IsOfCame : Passing → List Pair → Type 0
IsOfCame (Writing i) seen = 0 < length (records_from i seen)
IsOfCame _ seen = Unit {0}

-- the first act that is left, or none where nothing is
abbrev pub GivesPassing : Passing → Passing → Option Doing → Type 0
GivesPassing x y None = (y ≡ x) × ((seen : List Pair) → passing_acts x seen ≡ [])
GivesPassing x y (Some act) = (seen : List Pair) → IsOfCame x seen → (passing_acts x seen ≡ act_of act seen ∷ passing_acts y seen) × IsOfCame y seen × IsOfSeen act seen

abbrev pub FallsPassing : Passing → Passing → Option Doing → Type 0
FallsPassing x y None = Unit {0}
FallsPassing x y (Some act) = passing_count y < passing_count x

-- what is left of a plan of these, and what follows
pub record PassesOn (plans : Known → Plan) (passing : Passing) (goal : Goal) (plan : Known → Plan) (k : Known) (left : Plan) : Type 0 where
  pub plan_is : plan ≡ plans
  pub left_is : left ≡ record { acts = passing_acts passing k.seen; goal = goal }
  pub came : IsOfCame passing k.seen
