-- What is looked for stands so far behind in the entries of the words to come.
use Rattle.std.proofs.Common.{◌≡◌, ◌-◌, drop, slice_get}
use Rattle.step_journal.specs.Words.{entries_behind}
use Rattle.step_journal.proofs.journal.StepJournal.entry.Given as goal

abbrev pub invariant-loop-word : goal.invariant-loop-word
invariant-loop-word l = slice_get (entries_behind l.first l.second (drop l.word-index l.word-items)) l.left ≡ slice_get l.fn.self.items (l.fn.k - 1)
