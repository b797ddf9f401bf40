-- The entries so far and those of the words to come are all entries.
use Rattle.std.proofs.Common.{◌≡◌, ◌++◌, drop}
use Rattle.step_journal.specs.Words.{entries_behind}
use Rattle.step_journal.proofs.journal.StepJournal.entries.Given as goal

abbrev pub invariant-loop-word : goal.invariant-loop-word
invariant-loop-word l = l.all.items ++ entries_behind l.first l.second (drop l.word-index l.word-items) ≡ l.fn.self.items
