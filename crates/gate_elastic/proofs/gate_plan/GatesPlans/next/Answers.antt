use Rattle.gate_elastic.specs.Gates.{gates, goal_by}
use Rattle.gate_elastic.proofs.Passes.{gives}
use Rattle.gate_elastic.proofs.gate_plan.GatesPlans.next.Goals as goal

pub returns-clause-gives : goal.returns-clause-gives
returns-clause-gives c =
    let x = c.args.self.now in
    gives gates (goal_by x.is_shut) x.passing c.next.new.self c.next.result c.next.ensures.gives
