use Rattle.std.proofs.Common.{◌≡◌, ◌++◌, drop}
use Rattle.pipe_model.specs.Numbers.{to_hex}
use Rattle.specs_stage.proofs.hex_digits.add_to_hex.Given as goal

abbrev pub invariant-loop-byte : goal.invariant-loop-byte
invariant-loop-byte l = l.text.items ++ to_hex (drop l.byte-index l.bytes) ≡ l.fn.text.items ++ to_hex l.bytes
