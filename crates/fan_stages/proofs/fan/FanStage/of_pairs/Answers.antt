use Rattle.fan_stages.proofs.Fitting.{stage_of_pairs}
use Rattle.fan_stages.proofs.fan.FanStage.of_pairs.Goals as goal

pub returns : goal.returns
returns c = stage_of_pairs c.args.pairs c.args.outputs.now c.in_ok-new.field-0 c.in_ok-new.ensures
