use Rattle.std.proofs.Common.{refl}
use Rattle.fan_stages.proofs.Synchronised.{synchronise_first}
use Rattle.fan_stages.proofs.synchronise.Synchronises.new.Goals as goal

pub returns : goal.returns
returns c = synchronise_first c.args.inputs c.in_ok-round.round _ c.in_ok-round.ensures c.settle.ensures refl
