use Rattle.std.proofs.Common.{refl}
use Rattle.net_runs.specs.ReadyRuns.{ready_effect}
use Rattle.net_runs.specs.ReadyRuns.CarriesOut.{carried, unmade}
use Rattle.net_runs.proofs.Finishes.{ready_means}
use Rattle.net_runs.proofs.ready_run.carry_out.Goals as goal

pub returns-in-Ok-clause-carries : goal.returns-in-Ok-clause-carries
returns-in-Ok-clause-carries g c =
    let ready = c.in-Ok.ready in
    carried ready.told.outcome (ready_effect ready) (ready_means c.args.net c.args.steps c.args.workers c.args.trace ready c.in-Ok.ensures) c.put_out.ensures.puts

pub returns-in-Err-clause-carries : goal.returns-in-Err-clause-carries
returns-in-Err-clause-carries g c = unmade refl refl c.no_memory.ensures.outcome
