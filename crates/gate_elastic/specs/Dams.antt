-- What each strand of DAM but the first stands for.
use Rattle.std.specs.Prelude.{pos}
use Rattle.pipe_model.specs.Event.Want.{Read, Prime}
use Rattle.pipe_model.specs.Row.{Goal, Plan, Known}
use Rattle.pipe_model.specs.Row.Goal.{Asks, Ends}
use Rattle.pipe_model.specs.Shape.{dam_plan}
use Rattle.gate_elastic.specs.declared.dam_plan.Dams.{Dams}
use Rattle.gate_elastic.specs.declared.dam_plan.Flow.{Flow}
use Rattle.gate_elastic.specs.declared.dam_plan.Flow.TheVariants.{Held, Running, Over}
use Rattle.gate_elastic.specs.Passing.{PassesOn}

-- its plans
abbrev pub dams : Known → Plan
dams k = dam_plan k k.told

-- what follows
abbrev pub goal_of : Flow → Goal
goal_of Held = Asks Prime
goal_of Running = Asks (Read 0)
goal_of Over = Ends (pos 0)

abbrev pub DamsStand : Dams → (Known → Plan) → Known → Plan → Type 0
DamsStand x = PassesOn dams x.passing (goal_of x.flow)
