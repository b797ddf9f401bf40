use Rattle.std.proofs.Common.{refl}
use Rattle.outside.specs.Device.{Device, device}
use Rattle.call_meaning.specs.Meaning.FeedsNet.{of_run}
use Rattle.call_streams.proofs.Feedings.{decides_unfed}
use Rattle.net_runs.proofs.RunReplies.{decides_run}
use Rattle.pipe_cli.proofs.run_call.run_call.Goals as goal

pub returns-in-Err-clause-decides : goal.returns-in-Err-clause-decides
returns-in-Err-clause-decides g c = λ words runs same.
    let output : Device = device (g.O.Sink.written c.args.output.now) (g.O.Sink.faults c.args.output.now) in
    decides_unfed words c.args.net _ _ _ refl (λ files of. of_run c.args.steps c.args.trace runs) c.in-Err.told.outcome (c.in-Err.ensures.fed output)

pub returns-clause-decides : goal.returns-clause-decides
returns-clause-decides g c = λ words runs same.
    let output : Device = device (g.O.Sink.written c.args.output.now) (g.O.Sink.faults c.args.output.now) in
    decides_run words c.args.net _ _ _ output _ _ c.in-Ok.net (c.in-Ok.ensures.fed output) c.args.steps c.args.trace runs c.args.workers same _ _ c.carry_out.result.outcome c.carry_out.ensures.carries
