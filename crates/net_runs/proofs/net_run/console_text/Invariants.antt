use Rattle.std.proofs.Common.{◌≡◌, ◌≤◌, ◌++◌, length, drop}
use Rattle.pipe_model.specs.Reply.{console_from}
use Rattle.core_machine.specs.Machine.{state_of}
use Rattle.net_runs.proofs.net_run.console_text.Given as goal

abbrev pub invariant-loop-k : goal.invariant-loop-k
invariant-loop-k g l = record {
  within : l.k ≤ length l.strands;
  text : l.text.items ++ console_from (state_of l.core) l.k (drop l.k l.strands) ≡ console_from (state_of l.core) 0 l.strands;
}
