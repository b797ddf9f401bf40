use Rattle.std.proofs.Common.{◌≡◌, ◌≤◌, ◌++◌, ℕ, List, length, drop}
use Rattle.std.specs.Io.KnownBytes.{Appends}
use Rattle.pipe_model.specs.Reply.{console_from}
use Rattle.core_machine.specs.Machine.{state_of}
use Rattle.net_runs.proofs.net_run.write_kept.Given as goal

abbrev pub invariant-loop-k : goal.invariant-loop-k
invariant-loop-k g l = record {
  within : l.k ≤ length l.strands;
  wrote : (done : List ℕ) × Appends (g.O.Sink.written l.fn.output) (g.O.Sink.written l.output) done
      × (done ++ console_from (state_of l.core) l.k (drop l.k l.strands) ≡ console_from (state_of l.core) 0 l.strands);
  steady : g.O.Sink.faults l.output ≡ g.O.Sink.faults l.fn.output;
}
