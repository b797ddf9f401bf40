use Rattle.std.proofs.Common.{◌≡◌, ◌-◌, ◌≤◌, length, drop}
use Rattle.pipe_model.specs.EditingRows.{mapped}
use Rattle.edit_stages.proofs.xlate.mapped.Given as goal

abbrev pub invariant-loop-at : goal.invariant-loop-at
invariant-loop-at l = record {
  within : l.at ≤ length l.first;
  mapped : mapped (drop l.at l.first) (drop l.at l.second) l.byte ≡ mapped l.first l.second l.byte;
}

abbrev pub decreases-loop-at : goal.decreases-loop-at
decreases-loop-at l = length l.first - l.at
