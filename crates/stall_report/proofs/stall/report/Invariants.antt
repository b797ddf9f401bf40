use Rattle.std.proofs.Common.{◌≡◌, ◌++◌, drop}
use Rattle.pipe_model.specs.Reply.{waits_from}
use Rattle.core_machine.specs.Machine.{state_of}
use Rattle.stall_report.specs.Waits.{wait_lines}
use Rattle.stall_report.proofs.stall.report.Given as goal

abbrev pub invariant-loop-strand : goal.invariant-loop-strand
invariant-loop-strand g l = l.lines.items ++ wait_lines (waits_from (state_of l.core) l.strand (drop l.strand l.core.net.strands)) ≡ wait_lines (waits_from (state_of l.core) 0 l.core.net.strands)
