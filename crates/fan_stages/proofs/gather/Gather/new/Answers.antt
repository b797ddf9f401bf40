use Rattle.std.proofs.Common.{refl}
use Rattle.fan_stages.proofs.Gathers.{gather_first}
use Rattle.fan_stages.proofs.gather.Gather.new.Goals as goal

pub returns : goal.returns
returns c = gather_first c.args.inputs _ c.in_ok-all_inputs.ensures refl refl
