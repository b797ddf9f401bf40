use Rattle.fan_stages.proofs.FanIns.{fan_in_end}
use Rattle.fan_stages.proofs.fan_in.FanInPlans.end.Goals as goal

pub returns-clause-plans : goal.returns-clause-plans
returns-clause-plans c = λ plan k want is fits room. fan_in_end c.args.self.now plan k want c.args._input is c.saturating_add-self.result c.saturating_add-self.ensures fits
