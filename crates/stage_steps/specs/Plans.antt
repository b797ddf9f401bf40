-- What the calls of a stage that plans do, where the value stands for the plans of a row, what the strand knows, and what is left of the plan that it made last.
use Rattle.std.specs.Prelude.{◌≡◌, ◌<◌, ℕ, true, Bool, List, [], ◌∷◌, length}
use Rattle.std.specs.declared.option.Option.{Option}
use Rattle.std.specs.declared.option.Option.TheVariants.{Some, None}
use Rattle.pipe_model.specs.declared.step.Out.TheVariants.{Same}
use Rattle.pipe_model.specs.Event.{Event, Want, answers}
use Rattle.pipe_model.specs.Event.Event.{Saw}
use Rattle.pipe_model.specs.Inputs.{records_from}
use Rattle.pipe_model.specs.Next.{hears}
use Rattle.pipe_model.specs.Row.{Pair, Act, Goal, Plan, Known, without}
use Rattle.pipe_model.specs.Row.Act.{Writes, Takes}
use Rattle.pipe_model.specs.Row.Goal.{Asks, Ends}
use Rattle.pipe_model.specs.Shape.{asks, at_hand_of}
use Rattle.stage_steps.specs.declared.plans.Act.{Act as Doing}
use Rattle.stage_steps.specs.declared.plans.Act.TheVariants as Code
use Rattle.stage_steps.specs.declared.plans.Goal.{Goal as Following}
use Rattle.stage_steps.specs.declared.plans.Goal.TheVariants as Follow
use Rattle.stage_steps.specs.Coroutine.{written}

-- the record that came last from an input
abbrev pub last_from : List Pair → ℕ → List ℕ
last_from seen i = at_hand_of (records_from i seen)

-- an act in code, by the records that came
abbrev pub act_of : Doing → List Pair → Act
act_of (Code.Write o out) seen = Writes o (written out (last_from seen))
act_of (Code.Take i) seen = Takes i

-- where a record that was seen is to be written, one came
abbrev pub IsOfSeen : Doing → List Pair → Type 0
IsOfSeen (Code.Write o (Same i)) seen = 0 < length (records_from i seen)
IsOfSeen _ seen = Unit {0}

-- what follows the acts, in code
abbrev pub goal_of : Following → Goal
goal_of (Follow.Read i) = Asks (Want.Read i)
goal_of Follow.Any = Asks Want.Any
goal_of Follow.Gate = Asks Want.Gate
goal_of Follow.Prime = Asks Want.Prime
goal_of (Follow.End code) = Ends code

-- what the strand knows when it has done an act
abbrev pub known_done : Act → Known → Known
known_done (Takes i) k = record k { sight = without i k.sight }
known_done act k = k

abbrev pub with_acts : List Act → Plan → Plan
with_acts acts left = record left { acts = acts }

-- it makes its next plan by what answers it
abbrev pub Plans : {P : Type 0} → (P → (Known → Plan) → Known → Plan → Type 0) → P → P → Event → Type 0
Plans stands x y e = (plan : Known → Plan) (k : Known) (want : Want) → stands x plan k (asks want) → answers (Some want) e ≡ true → length k.seen < 50000000 →
    stands y plan (hears k e) (plan (hears k e))

-- by a record, whose bytes come with it where it looks
abbrev pub PlansBySight : {P : Type 0} → (P → (Known → Plan) → Known → Plan → Type 0) → Bool → P → P → ℕ → List ℕ → Type 0
PlansBySight stands looks x y i bytes = (rec : List ℕ) → (looks ≡ true → bytes ≡ rec) → Plans stands x y (Saw i rec)

-- the first act that is left, or none where nothing is left to do
abbrev pub GivesAct : {P : Type 0} → (P → (Known → Plan) → Known → Plan → Type 0) → P → P → Option Doing → Type 0
GivesAct stands x y None = (plan : Known → Plan) (k : Known) (left : Plan) → stands x plan k left → (left.acts ≡ []) × stands y plan k left
GivesAct stands x y (Some act) = (plan : Known → Plan) (k : Known) (left : Plan) → stands x plan k left →
    (rest : List Act) × (left.acts ≡ act_of act k.seen ∷ rest) × stands y plan (known_done (act_of act k.seen) k) (with_acts rest left) × IsOfSeen act k.seen

-- what follows then
abbrev pub TellsGoal : {P : Type 0} → (P → (Known → Plan) → Known → Plan → Type 0) → P → Following → Type 0
TellsGoal stands x goal = (plan : Known → Plan) (k : Known) (left : Plan) → stands x plan k left → left.acts ≡ [] → left.goal ≡ goal_of goal
