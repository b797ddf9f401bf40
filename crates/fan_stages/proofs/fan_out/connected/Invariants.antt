use Rattle.std.proofs.Common.{◌≡◌, ◌++◌, drop}
use Rattle.pipe_model.specs.FanRows.{connected_from}
use Rattle.fan_stages.proofs.fan_out.connected.Given as goal

abbrev pub invariant-loop-output : goal.invariant-loop-output
invariant-loop-output l = l.numbers.items ++ connected_from l.output (drop l.output l.outputs) ≡ connected_from 0 l.outputs
