use Rattle.std.proofs.Common.{MatchResult, subst}
use Rattle.outside.specs.Device.{Device, device}
use Rattle.call_streams.specs.Written.{IsPartWritten, IsWritten}
use Rattle.net_runs.proofs.SetPuts.{ran_output}
use Rattle.net_runs.proofs.sets_run.write_set.Goals as goal

pub returns-in-Ran : goal.returns-in-Ran
returns-in-Ran g c =
    let old : Device = device (g.O.Sink.written c.args.output.now) (g.O.Sink.faults c.args.output.now) in
    let new : Device = device (g.O.Sink.written c.write_output.new.output) (g.O.Sink.faults c.write_output.new.output) in
    subst (λ bytes. MatchResult c.write_output.result (λ _. IsWritten bytes old new) (λ fault. IsPartWritten bytes old new fault)) (ran_output c.args.ended.now c.in-Ran.ready c.in-Ran.is c.requires) c.write_output.ensures
