use Rattle.stage_steps.proofs.Steps.{fresh_plan}
use Rattle.stage_steps.proofs.planned.Planned.new.Goals as goal

pub returns : goal.returns
returns g c = λ s plan fits. fresh_plan g.P.Plans.stands (g.P.Plans.is_looking c.args.plans) c.args.plans c.args.outputs.now c.in_ok-new.field-0 s plan fits c.in_ok-new.ensures.connected c.in_ok-new.ensures.flags
