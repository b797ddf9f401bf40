use Rattle.std.proofs.Common.{refl, pos}
use Rattle.pipe_model.specs.Event.Event.{SawEnd}
use Rattle.pipe_model.specs.Row.Goal.{Ends}
use Rattle.gate_elastic.specs.Gates.{gates, goal_by}
use Rattle.gate_elastic.proofs.Passes.{goes_on}
use Rattle.gate_elastic.proofs.gate_plan.GatesPlans.end.Goals as goal

pub returns-clause-plans : goal.returns-clause-plans
returns-clause-plans c = λ plan k want is fits room.
    let x = c.args.self.now in
    goes_on gates (goal_by x.is_shut) x.passing plan k want is (SawEnd c.args._input) (Ends (pos 0)) refl
