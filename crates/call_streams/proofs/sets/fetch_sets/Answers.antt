use Rattle.std.proofs.lemmas.Result.{err_from_is_err_and}
use Rattle.call_meaning.specs.Devices.{store}
use Rattle.call_streams.proofs.Listings.{absent_listed, listed, many_listed, none_listed}
use Rattle.call_streams.proofs.sets.fetch_sets.Goals as goal

pub returns-in_err-text-clause-sets : goal.returns-in_err-text-clause-sets
returns-in_err-text-clause-sets g c =
    let e = err_from_is_err_and c.from_residual.result c.from_residual.ensures.1 in
    rw (e.1, e.2) (none_listed c.args.name.now c.args.steps (store _ _ _) (store _ _ _) c.in_err-text.field-0.0.outcome c.in_err-text.ensures.given)

pub returns-in_default-clause-sets : goal.returns-in_default-clause-sets
returns-in_default-clause-sets g c =
    absent_listed c.args.name.now c.args.steps (store _ _ _) (store _ _ _) c.new-found.result.items c.new-found.ensures.items c.fetch.new.found.items c.in_ok-text.field-0 c.in_ok-text.ensures.given
    c.tell.result c.tell.ensures c.in_default.is

pub returns-in-None-clause-sets : goal.returns-in-None-clause-sets
returns-in-None-clause-sets g c =
    listed c.args.name.now c.args.steps (store _ _ _) (store _ _ _) c.new-found.result.items c.new-found.ensures.items c.fetch.new.found.items c.in_ok-text.field-0 c.in_ok-text.ensures.given
    c.in-Some.text c.bytes.result.now c.in-Some.is c.bytes.ensures c.in-None.ensures

pub returns-in-Some-first_past-clause-sets : goal.returns-in-Some-first_past-clause-sets
returns-in-Some-first_past-clause-sets g c =
    many_listed c.args.name.now c.args.steps (store _ _ _) (store _ _ _) c.new-found.result.items c.new-found.ensures.items c.fetch.new.found.items c.in_ok-text.field-0 c.in_ok-text.ensures.given
    c.in-Some.text c.bytes.result.now c.in-Some.is c.bytes.ensures c.tell-in-Some-first_past.result c.in-Some-first_past.number c.tell-in-Some-first_past.ensures c.in-Some-first_past.ensures
