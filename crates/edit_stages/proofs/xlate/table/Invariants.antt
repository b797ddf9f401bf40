use Rattle.std.proofs.Common.{◌≡◌, ℕ, ◌<◌, length, get_or}
use Rattle.pipe_model.specs.EditingRows.{translated}
use Rattle.edit_stages.proofs.xlate.table.Given as goal

abbrev pub invariant-loop-byte : goal.invariant-loop-byte
invariant-loop-byte l = record {
  size : length l.table.items ≡ l.byte;
  says : (b d : ℕ) → b < l.byte → get_or l.table.items b d ≡ translated l.mapping b;
}
