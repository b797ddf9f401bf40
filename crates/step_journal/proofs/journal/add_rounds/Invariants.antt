-- So many rounds have been added as the loop has turned.
use Rattle.std.proofs.Common.{◌≡◌, ◌++◌}
use Rattle.step_journal.specs.Words.{rounds_of}
use Rattle.step_journal.proofs.journal.add_rounds.Given as goal

abbrev pub invariant-loop : goal.invariant-loop
invariant-loop l = l.all.items ≡ l.fn.all.items ++ rounds_of l.first l.second l.third l.counter
