use Rattle.std.proofs.Common.{refl}
use Rattle.fan_stages.proofs.Overlaid.{overlay_end}
use Rattle.fan_stages.proofs.overlay.OverlaysPlans.end.Goals as goal

pub returns-clause-plans : goal.returns-clause-plans
returns-clause-plans c = λ plan k want is fits room. overlay_end c.args.self.now plan k want c.args._input _ is fits c.end.ensures refl refl refl
