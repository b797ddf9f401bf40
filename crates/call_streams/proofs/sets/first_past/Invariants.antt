-- So many lines are few, and with those left they are all.
use Rattle.std.proofs.Common.{◌≡◌, ◌+◌, length}
use Rattle.pipe_model.specs.Records.{lines}
use Rattle.call_meaning.specs.Sets.{AreFew}
use Rattle.call_streams.proofs.sets.first_past.Given as goal

abbrev pub invariant-loop : goal.invariant-loop
invariant-loop l = record {
  few : AreFew l.steps l.number;
  all : l.number + length l.iterator' ≡ length (lines l.text);
}
