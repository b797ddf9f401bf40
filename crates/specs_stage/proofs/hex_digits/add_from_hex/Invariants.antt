use Rattle.std.proofs.Common.{◌≡◌, ◌++◌, length, option_map}
use Rattle.pipe_model.specs.Numbers.{from_hex}
use Rattle.specs_stage.proofs.hex_digits.add_from_hex.Given as goal

-- the bytes so far with those of the rest are all
abbrev pub invariant-loop-rest : goal.invariant-loop-rest
invariant-loop-rest l = option_map (λ more. l.bytes.items ++ more) (from_hex l.rest) ≡ option_map (λ more. l.fn.bytes.items ++ more) (from_hex l.digits)

abbrev pub decreases-loop-rest : goal.decreases-loop-rest
decreases-loop-rest l = length l.rest
