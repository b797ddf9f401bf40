use Rattle.std.proofs.Common.{◌-◌, ◌≤◌, length}
use Rattle.bstr.specs.Find.{Nowhere, Passes, is_byte}
use Rattle.stage_steps.proofs.strings.place_by_lanes.Given as goal

abbrev pub invariant-loop-at : goal.invariant-loop-at
invariant-loop-at l = record {
  inside : l.at ≤ length l.part;
  before : Nowhere (Passes (is_byte l.byte) l.part) 0 l.at;
}

abbrev pub decreases-loop-at : goal.decreases-loop-at
decreases-loop-at l = length l.part - l.at
