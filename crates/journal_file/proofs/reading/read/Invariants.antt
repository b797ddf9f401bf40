use Rattle.std.proofs.Common.{◌-◌, length}
use Rattle.journal_file.specs.Faults.{BeginsWith}
use Rattle.journal_file.specs.Text.{most_entries}
use Rattle.journal_file.proofs.reading.read.Given as goal

abbrev pub invariant-loop-more : goal.invariant-loop-more
invariant-loop-more l = BeginsWith l.text l.journal l.rest

abbrev pub decreases-loop-more : goal.decreases-loop-more
decreases-loop-more l = most_entries - length l.journal
