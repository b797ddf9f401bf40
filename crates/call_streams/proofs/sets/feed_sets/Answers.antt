use Rattle.std.proofs.lemmas.Result.{err_from_is_err_and}
use Rattle.outside.specs.Device.{device}
use Rattle.call_meaning.specs.Devices.{store}
use Rattle.call_streams.proofs.FedSets.{all_taken, all_unfetched, all_untaken}
use Rattle.call_streams.proofs.sets.feed_sets.Goals as goal

pub returns-in_err-size-clause-fed : goal.returns-in_err-size-clause-fed
returns-in_err-size-clause-fed g c output =
    let e = err_from_is_err_and c.from_residual.result c.from_residual.ensures.1 in
    rw (e.1, e.2) (all_unfetched c.args.sets.items c.args.found.items (device _ _) output (store _ _ _) (store _ _ _) c.in_err-size.field-0.0.outcome c.in_err-size.ensures.fetched)

pub returns-in-Ok-clause-fed : goal.returns-in-Ok-clause-fed
returns-in-Ok-clause-fed g c output =
    let taken = c.in-Ok.ensures.taken in
    all_taken c.args.sets.items c.args.found.items (device _ _) output (store _ _ _) (store _ _ _) c.in_ok-size.size c.fetch_all_files.new.found.items c.in_ok-size.ensures.fetched
    c.fetch_all_files.new.sets.items c.in_ok-size.ensures.filed (device _ _) taken.0 c.take_all_input.new.sets.items taken.1 taken.2

pub returns-in-Err-clause-fed : goal.returns-in-Err-clause-fed
returns-in-Err-clause-fed g c output =
    all_untaken c.args.sets.items c.args.found.items (device _ _) output (store _ _ _) (store _ _ _) c.in_ok-size.size c.fetch_all_files.new.found.items c.in_ok-size.ensures.fetched
    c.fetch_all_files.new.sets.items c.in_ok-size.ensures.filed (device _ _) c.in-Err.outcome c.tell.result c.in-Err.ensures.taken c.tell.ensures
