use Rattle.fan_stages.proofs.Fitting.{stage_of_plans}
use Rattle.fan_stages.proofs.fan.FanStage.of_plans.Goals as goal

pub returns : goal.returns
returns c = stage_of_plans c.args.plans c.args.outputs.now c.in_ok-new.field-0 c.in_ok-new.ensures
