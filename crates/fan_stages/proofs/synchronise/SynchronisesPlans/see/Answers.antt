use Rattle.std.proofs.Common.{refl}
use Rattle.fan_stages.proofs.Synchronised.{synchronise_saw}
use Rattle.fan_stages.proofs.synchronise.SynchronisesPlans.see.Goals as goal

pub returns-clause-plans : goal.returns-clause-plans
returns-clause-plans c = λ rec came plan k want is fits room. synchronise_saw c.args.self.now plan k want c.args._input rec _ is fits c.see.ensures refl
