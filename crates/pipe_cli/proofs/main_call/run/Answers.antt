use Rattle.std.proofs.Common.{inl, refl, subst}
use Rattle.call_meaning.specs.declared.status.Outcome.TheVariants.{NoMemory}
use Rattle.call_meaning.specs.Calls.{IsCall}
use Rattle.call_streams.proofs.Replies.{decides_told, decides_words}
use Rattle.pipe_cli.proofs.main_call.run.Goals as goal

pub returns-in-Err-clause-decides : goal.returns-in-Err-clause-decides
returns-in-Err-clause-decides g c =
    decides_told _ _ _ _ _ c.in-Err.outcome c.tell.result.outcome c.tell.ensures.1
    (decides_words _ _ _ _ c.in-Err.outcome c.in-Err.ensures.called)
    (λ wants. decides_words _ _ _ _ NoMemory (inl refl))

pub returns-in-Run-clause-decides : goal.returns-in-Run-clause-decides
returns-in-Run-clause-decides g c =
    let is = subst (IsCall _) c.in-Run.is c.in-Ok.ensures.called in
    c.run_call.ensures.decides _ is.0 is.1

pub returns-in-Sample-clause-decides : goal.returns-in-Sample-clause-decides
returns-in-Sample-clause-decides g c =
    let is = subst (IsCall _) c.in-Sample.is c.in-Ok.ensures.called in
    c.sample_call.ensures.decides _ _ _ is.0 is.1

pub returns-in-Sets-clause-decides : goal.returns-in-Sets-clause-decides
returns-in-Sets-clause-decides g c = c.sets_call.ensures.decides _ (subst (IsCall _) c.in-Sets.is c.in-Ok.ensures.called)
