-- The lines so far and those to come are the lines of the sample.
use Rattle.std.proofs.Common.{◌≡◌, ◌<◌, ◌^◌, ◌-◌, ◌++◌}
use Rattle.call_meaning.specs.Sample.{lines_behind, sample_text}
use Rattle.call_streams.proofs.sample.sample_input.Given as goal

abbrev pub invariant-loop : goal.invariant-loop
invariant-loop l = record {
  lines : l.text.items ++ lines_behind (l.fn.count - l.counter) l.number ≡ sample_text l.fn.count;
  small : l.number < 2 ^ 31;
}
