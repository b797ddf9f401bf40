use Rattle.std.proofs.Common.{map, refl}
use Rattle.call_meaning.specs.Sets.{effect_of_sets}
use Rattle.net_runs.specs.ReadyRuns.CarriesOut.{carried, unmade}
use Rattle.net_runs.specs.SetRuns.{end_of}
use Rattle.net_runs.proofs.SetReplies.{all_ends, all_writable}
use Rattle.net_runs.proofs.sets_driven.carry_out_sets.Goals as goal

pub put_sets_out-requires-clause-ready : goal.put_sets_out-requires-clause-ready
put_sets_out-requires-clause-ready g c = all_writable c.args.steps c.args.workers c.args.sets.items c.in-Ok.ready.ended.items c.in-Ok.ensures.ended

pub returns-in-Ok-clause-carries : goal.returns-in-Ok-clause-carries
returns-in-Ok-clause-carries g c =
    let ready = c.in-Ok.ready in
    let ends = map (λ one. end_of one) ready.ended.items in
    carried ready.told.outcome (effect_of_sets ends)
    (record { ends = ends; each = all_ends c.args.steps c.args.workers c.args.sets.items ready.ended.items c.in-Ok.ensures.ended; outcome_is = c.in-Ok.ensures.outcome; effect_is = refl })
    c.put_sets_out.ensures.puts

pub returns-in-Err-clause-carries : goal.returns-in-Err-clause-carries
returns-in-Err-clause-carries g c = unmade refl refl c.no_memory.ensures.outcome
