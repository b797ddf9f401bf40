use Rattle.std.proofs.Common.{Some, None}
use Rattle.call_meaning.specs.Devices.{store}
use Rattle.call_streams.proofs.Fetches.{fetched}
use Rattle.call_streams.proofs.fetch.fetch.Goals as goal

pub returns-in-Found-clause-given : goal.returns-in-Found-clause-given
returns-in-Found-clause-given g c =
    let files = c.in-Found.ensures.files in
    fetched (store _ _ _) (store _ _ _) c.args.found.now.items c.kept.new.found.items c.args.name.now c.bytes.result.now (Some c.in-Found.bytes) c.kept.result
    c.requires c.bytes.ensures files.0 c.in-Found.ensures.count c.in-Found.ensures.wants files.1 c.kept.ensures.same c.kept.ensures.kept

pub returns-in-Absent-clause-given : goal.returns-in-Absent-clause-given
returns-in-Absent-clause-given g c =
    let files = c.in-Absent.ensures.files in
    fetched (store _ _ _) (store _ _ _) c.args.found.now.items c.kept-in-Absent.new.found.items c.args.name.now c.bytes.result.now None c.kept-in-Absent.result
    c.requires c.bytes.ensures files.0 c.in-Absent.ensures.count c.in-Absent.ensures.wants files.1 c.kept-in-Absent.ensures.same c.kept-in-Absent.ensures.kept
