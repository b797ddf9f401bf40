use Rattle.std.proofs.Common.{◌∙◌, Some, None}
use Rattle.pipe_model.specs.State.{past}
use Rattle.core_machine.specs.Machine.{state_of}
use Rattle.stall_report.proofs.Shown.{line_shown}
use Rattle.stall_report.proofs.stall.line_of.Goals as goal

pub returns-in_err-want : goal.returns-in_err-want
returns-in_err-want g c =
    let shown = c.in_ok-want_of.ensures in
    c.from_residual-in_err-want.ensures ∙ line_shown (past (state_of c.args.core.now) c.args.strand) c.in_ok-want_of.field-0.now shown.0 shown.2 c.args.strand _ shown.1 None c.in_err-want.ensures

pub returns : goal.returns
returns g c =
    let shown = c.in_ok-want_of.ensures in
    line_shown (past (state_of c.args.core.now) c.args.strand) c.in_ok-want_of.field-0.now shown.0 shown.2 c.args.strand _ shown.1 (Some c.in_ok-want.want) c.in_ok-want.ensures
