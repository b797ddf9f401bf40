-- They are those after all rounds.
use Rattle.std.proofs.Common.{arith, length, sym, ◌∙◌, ap, Some, None, slice_get}
use Rattle.std.proofs.lemmas.Option.{slice_get-get_or, unwrap_or-slice_get}
use Rattle.std.proofs.lemmas.Result.{IfOk-weaker}
use Rattle.pipe_model.specs.Settled.{rounds}
use Rattle.confluence_laws.proofs.Forks.{rounds_long}
use Rattle.braid_check.proofs.answer.forks.Goals as goal

pub returns-clause-count : goal.returns-clause-count
returns-clause-count c = IfOk-weaker c.last_round.result _ _ (λ forks is. ap length is ∙ rounds_long c.args.net.now (length c.args.net.now.strands)) c.last_round.ensures

pub returns-clause-each : goal.returns-clause-each
returns-clause-each c = IfOk-weaker c.last_round.result _ _ (λ forks is s lt.
    let net = c.args.net.now in
    let last = rounds net (length net.strands) in
    let long = rounds_long net (length net.strands) in
    ap (λ xs. slice_get xs s) is ∙ slice_get-get_or last s None (omega (arith, lt, long)) ∙ ap Some (sym (unwrap_or-slice_get last s None))) c.last_round.ensures
