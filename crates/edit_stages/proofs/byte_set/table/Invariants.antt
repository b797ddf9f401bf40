use Rattle.std.proofs.Common.{◌≡◌, ℕ, ◌<◌, Bool, length, get_or}
use Rattle.pipe_model.specs.Members.{has}
use Rattle.edit_stages.proofs.byte_set.table.Given as goal

abbrev pub invariant-loop-byte : goal.invariant-loop-byte
invariant-loop-byte l = record {
  size : length l.table.items ≡ l.byte;
  says : (b : ℕ) (d : Bool) → b < l.byte → get_or l.table.items b d ≡ has l.bytes b;
}
