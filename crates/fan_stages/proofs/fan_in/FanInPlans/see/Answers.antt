use Rattle.fan_stages.proofs.FanIns.{fan_in_saw}
use Rattle.fan_stages.proofs.fan_in.FanInPlans.see.Goals as goal

pub returns-clause-plans : goal.returns-clause-plans
returns-clause-plans c = λ rec came plan k want is fits room. fan_in_saw c.args.self.now plan k want c.args.input is rec fits
