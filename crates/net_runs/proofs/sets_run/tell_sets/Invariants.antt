use Rattle.std.proofs.Common.{◌≡◌, ◌+◌, ◌++◌, map}
use Rattle.call_meaning.specs.Sets.{lines_of_sets}
use Rattle.net_runs.specs.SetRuns.{end_of}
use Rattle.net_runs.proofs.SetTexts.{lines_left}
use Rattle.net_runs.proofs.sets_run.tell_sets.Given as goal

abbrev pub invariant-loop-set : goal.invariant-loop-set
invariant-loop-set g l = record {
  number : l.number ≡ l.set-index + 1;
  lines : l.lines.items ++ lines_left l.number l.set-index l.sets ≡ lines_of_sets 1 (map (λ ended. end_of ended) l.sets);
}
