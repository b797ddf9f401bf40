use Rattle.std.proofs.lemmas.Result.{err_from_is_err_and}
use Rattle.call_meaning.specs.Devices.{store}
use Rattle.call_streams.proofs.CheckReplies.{absent_found, no_memory_found, none_found, unread_found}
use Rattle.call_streams.proofs.journal.fetch_journal.Goals as goal

pub returns-in_err-text-clause-journal : goal.returns-in_err-text-clause-journal
returns-in_err-text-clause-journal g c =
    let e = err_from_is_err_and c.from_residual.result c.from_residual.ensures.1 in
    rw (e.1, e.2) (none_found c.args.name (store _ _ _) (store _ _ _) c.in_err-text.field-0.0.outcome c.in_err-text.ensures.given)

pub returns-in_default-clause-journal : goal.returns-in_default-clause-journal
returns-in_default-clause-journal g c =
    absent_found c.args.name (store _ _ _) (store _ _ _) c.new-found.result.items c.new-found.ensures.items c.fetch.new.found.items c.in_ok-text.field-0 c.in_ok-text.ensures.given
    c.tell.result c.tell.ensures c.in_default.is

pub returns-in-Err-Line-clause-journal : goal.returns-in-Err-Line-clause-journal
returns-in-Err-Line-clause-journal g c =
    unread_found c.args.name (store _ _ _) (store _ _ _) c.new-found.result.items c.new-found.ensures.items c.fetch.new.found.items c.in_ok-text.field-0 c.in_ok-text.ensures.given
    c.tell-in-Err-Line.result c.in-Some.text c.bytes.result.now c.in-Err-Line.field-0 c.in-Err-Line.number c.tell-in-Err-Line.ensures c.in-Some.is c.bytes.ensures c.in-Err-Line.field-0-is
    c.in-Err-Line.ensures.fault

pub returns-clause-journal : goal.returns-clause-journal
returns-clause-journal g c =
    no_memory_found c.args.name (store _ _ _) (store _ _ _) c.new-found.result.items c.new-found.ensures.items c.fetch.new.found.items c.in_ok-text.field-0 c.in_ok-text.ensures.given
    c.no_memory.result.outcome c.no_memory.ensures.outcome
