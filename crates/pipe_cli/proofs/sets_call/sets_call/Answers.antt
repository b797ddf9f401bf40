use Rattle.std.proofs.Common.{subst}
use Rattle.std.specs.List.{AllZip}
use Rattle.outside.specs.Device.{Device, device}
use Rattle.pipe_model.specs.Records.{lines}
use Rattle.call_meaning.specs.Calls.{IsSetOf}
use Rattle.call_meaning.specs.Devices.{store}
use Rattle.call_streams.proofs.SetReplies.{decides_listed_no_memory, decides_unlisted, sets_unfed}
use Rattle.net_runs.proofs.SetReplies.{decides_sets, fed_few}
use Rattle.pipe_cli.proofs.sets_call.sets_call.Goals as goal

pub returns-in-Err-clause-decides : goal.returns-in-Err-clause-decides
returns-in-Err-clause-decides g c words command =
    decides_unlisted words c.args.name c.args.workers c.args.steps command (store _ _ _) (store _ _ _) (device _ _) (device _ _) c.in-Err.told.outcome c.in-Err.ensures.sets

pub returns-in_default-clause-decides : goal.returns-in_default-clause-decides
returns-in_default-clause-decides g c words command =
    decides_listed_no_memory words c.args.name c.args.workers c.args.steps command (store _ _ _) (store _ _ _) (device _ _) (device _ _) c.in-Ok.listed.found.items c.in-Ok.listed.text c.in-Ok.ensures.sets
    c.no_memory.result.outcome c.no_memory.ensures.outcome

pub returns-in-Err-feed_sets-clause-decides : goal.returns-in-Err-feed_sets-clause-decides
returns-in-Err-feed_sets-clause-decides g c words command =
    let of = subst (λ text. AllZip IsSetOf (lines text) c.in-Ok-sets_of.sets.items) c.bytes.ensures c.in-Ok-sets_of.ensures.sets in
    sets_unfed words c.args.name c.args.workers c.args.steps command (store _ _ _) (store _ _ _) (device _ _) (device _ _) c.in-Ok.listed.found.items c.in-Ok.listed.text c.in-Ok.ensures.sets c.in-Ok-sets_of.sets.items of
    (device _ _) (store _ _ _) c.in-Err-feed_sets.told.outcome (c.in-Err-feed_sets.ensures.fed (device _ _))

pub carry_out_sets-requires-clause-few : goal.carry_out_sets-requires-clause-few
carry_out_sets-requires-clause-few g c κs within =
    let output : Device = device (g.O.Sink.written c.args.output.now) (g.O.Sink.faults c.args.output.now) in
    let of = subst (λ text. AllZip IsSetOf (lines text) c.in-Ok-sets_of.sets.items) c.bytes.ensures c.in-Ok-sets_of.ensures.sets in
    let fed = c.in-Ok-feed_sets.ensures.fed output in
    fed_few c.args.name c.args.steps (store _ _ _) (store _ _ _) c.in-Ok.listed.found.items c.in-Ok.listed.text c.in-Ok.ensures.sets c.in-Ok-sets_of.sets.items of c.in-Ok-feed_sets.sets.items fed.1.given fed.2

pub returns-clause-decides : goal.returns-clause-decides
returns-clause-decides g c words command =
    let output : Device = device (g.O.Sink.written c.args.output.now) (g.O.Sink.faults c.args.output.now) in
    let of = subst (λ text. AllZip IsSetOf (lines text) c.in-Ok-sets_of.sets.items) c.bytes.ensures c.in-Ok-sets_of.ensures.sets in
    let fed = c.in-Ok-feed_sets.ensures.fed output in
    decides_sets words c.args.name c.args.workers c.args.steps command (store _ _ _) (store _ _ _) (device _ _) output c.in-Ok.listed.found.items c.in-Ok.listed.text c.in-Ok.ensures.sets c.in-Ok-sets_of.sets.items of
    (device _ _) (device _ _) (store _ _ _) (store _ _ _) fed.0 c.carry_out_sets.result.outcome fed.1 c.in-Ok-feed_sets.sets.items fed.2 c.carry_out_sets.ensures.carries
