use Rattle.std.proofs.Common.{sym, ◌∙◌}
use Rattle.net_runs.proofs.PutOuts.{out_all, out_file, out_torn, out_unwritten}
use Rattle.call_streams.proofs.Replies.{written_whole}
use Rattle.net_runs.proofs.ready_run.put_out.Goals as goal

pub returns-then-is_err-clause-puts : goal.returns-then-is_err-clause-puts
returns-then-is_err-clause-puts g c =
    out_unwritten c.args.ready c.requires _ _ _ c.write_output.result _ (sym c.is_err.ensures.value ∙ c.if-is_err.true) c.write_output.ensures c.write_fault.result.outcome c.write_fault.ensures.outcome

pub returns-in-Err-clause-puts : goal.returns-in-Err-clause-puts
returns-in-Err-clause-puts g c =
    let wrote = written_whole c.write_output.result _ _ (sym c.is_err.ensures.value ∙ c.if-is_err.false) c.write_output.ensures in
    out_file c.args.ready c.requires _ _ _ wrote _ c.in-Err.fault.outcome (c.in-Err.ensures.stored _ c.requires.4.puts.files_are)

pub returns-in-Ok-clause-puts : goal.returns-in-Ok-clause-puts
returns-in-Ok-clause-puts g c =
    let wrote = written_whole c.write_output.result _ _ (sym c.is_err.ensures.value ∙ c.if-is_err.false) c.write_output.ensures in
    out_all c.args.ready c.requires _ _ _ wrote _ _ (c.in_default.ensures.stored _ c.requires.4.puts.files_are) c.in-Ok.ensures.stored

pub returns-clause-puts : goal.returns-clause-puts
returns-clause-puts g c =
    let wrote = written_whole c.write_output.result _ _ (sym c.is_err.ensures.value ∙ c.if-is_err.false) c.write_output.ensures in
    out_torn c.args.ready c.requires _ _ _ wrote _ _ (c.in_default.ensures.stored _ c.requires.4.puts.files_are) c.in-Err-replace_trace.fault.outcome c.in-Err-replace_trace.ensures.stored
