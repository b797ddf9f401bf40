use Rattle.std.proofs.Common.{◌≡◌, ◌≤◌, [], length, drop}
use Rattle.pipe_model.specs.Reply.{code_from, waits_from}
use Rattle.core_machine.specs.Machine.{state_of}
use Rattle.net_runs.proofs.net_run.worst_code.Given as goal

abbrev pub invariant-loop-strand : goal.invariant-loop-strand
invariant-loop-strand g l = record {
  within : l.strand ≤ length l.core.net.strands;
  none : waits_from (state_of l.core) l.strand (drop l.strand l.core.net.strands) ≡ [];
  code : l.code ≡ code_from (state_of l.core) l.strand (drop l.strand l.core.net.strands);
}

abbrev pub decreases-loop-strand : goal.decreases-loop-strand
decreases-loop-strand g l = l.strand
