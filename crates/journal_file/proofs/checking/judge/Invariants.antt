use Rattle.journal_file.proofs.Judging.{IsPlayed}
use Rattle.journal_file.proofs.checking.judge.Given as goal

abbrev pub invariant-loop-entry : goal.invariant-loop-entry
invariant-loop-entry g l = IsPlayed l.initial.core.net l.entries l.entry-index l.core
