use Rattle.std.proofs.Common.{◌≡◌, ◌<◌, ◌^◌, drop}
use Rattle.pipe_model.specs.Numbers.{spelled_behind}
use Rattle.specs_stage.proofs.numbers.spelled.Given as goal

abbrev pub invariant-loop-byte : goal.invariant-loop-byte
invariant-loop-byte l = record {
  value : spelled_behind l.number (drop l.byte-index l.digits) ≡ spelled_behind 0 l.digits;
  small : l.number < 10 ^ l.byte-index;
}
