use Rattle.stall_lint.proofs.Telling.{one_line}
use Rattle.stall_lint.proofs.never.one_line.Goals as goal

pub returns : goal.returns
returns c answer other told told_other = one_line c.args.net.now answer other told told_other
