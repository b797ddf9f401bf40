use Rattle.gate_elastic.specs.Dams.{dams, goal_of}
use Rattle.gate_elastic.proofs.Passes.{gives}
use Rattle.gate_elastic.proofs.dam_plan.DamsPlans.next.Goals as goal

pub returns-clause-gives : goal.returns-clause-gives
returns-clause-gives c =
    let x = c.args.self.now in
    gives dams (goal_of x.flow) x.passing c.next.new.self c.next.result c.next.ensures.gives
