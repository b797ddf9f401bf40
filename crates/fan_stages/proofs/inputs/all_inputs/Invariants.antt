-- The inputs so far.
use Rattle.std.proofs.Common.{◌≡◌}
use Rattle.pipe_model.specs.Shape.{all_inputs as every_input}
use Rattle.fan_stages.proofs.inputs.all_inputs.Given as goal

abbrev pub invariant-loop-input : goal.invariant-loop-input
invariant-loop-input l = l.all.items ≡ every_input l.input
