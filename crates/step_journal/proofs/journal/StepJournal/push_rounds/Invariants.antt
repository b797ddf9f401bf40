-- The entries so far and the rounds that are left are all that is to be there, and there is room for them.
use Rattle.std.proofs.Common.{◌≡◌, ◌≤◌, ◌+◌, ◌*◌, ◌++◌, length, vec_capacity}
use Rattle.step_journal.specs.Words.{rounds_of, entries_of}
use Rattle.step_journal.proofs.journal.StepJournal.push_rounds.Given as goal

abbrev pub invariant-loop-left : goal.invariant-loop-left
invariant-loop-left l = record {
  same : entries_of l.self-inside.words.items ++ rounds_of l.first l.second l.third l.left ≡ l.fn.self.items ++ rounds_of l.first l.second l.third l.fn.rounds;
  count : l.self-inside.count ≡ length (entries_of l.self-inside.words.items);
  fits : length (entries_of l.self-inside.words.items) + 3 * l.left ≤ vec_capacity l.self-inside.words;
  room : vec_capacity l.self-inside.words ≡ l.fn.self.room;
}

abbrev pub decreases-loop-left : goal.decreases-loop-left
decreases-loop-left l = l.left
