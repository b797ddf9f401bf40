-- What GATE stands for.
use Rattle.std.specs.Prelude.{Bool, true, false, pos}
use Rattle.pipe_model.specs.Event.Want.{Gate}
use Rattle.pipe_model.specs.Row.{Goal, Plan, Known}
use Rattle.pipe_model.specs.Row.Goal.{Asks, Ends}
use Rattle.pipe_model.specs.Shape.{gate_plan}
use Rattle.gate_elastic.specs.declared.gate_plan.Gates.{Gates}
use Rattle.gate_elastic.specs.Passing.{PassesOn}

-- its plans
abbrev pub gates : Known → Plan
gates k = gate_plan k.told

-- what follows
abbrev pub goal_by : Bool → Goal
goal_by true = Ends (pos 0)
goal_by false = Asks Gate

abbrev pub GatesStand : Gates → (Known → Plan) → Known → Plan → Type 0
GatesStand x = PassesOn gates x.passing (goal_by x.is_shut)
