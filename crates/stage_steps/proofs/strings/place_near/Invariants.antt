use Rattle.std.proofs.Common.{◌-◌, ◌≤◌, length}
use Rattle.std.specs.Str.TwoWay.{Nowhere}
use Rattle.bstr.specs.Find.{Passes, is_byte}
use Rattle.stage_steps.proofs.strings.place_near.Given as goal

abbrev pub invariant-loop-at : goal.invariant-loop-at
invariant-loop-at l = record {
  inside : l.at ≤ length l.part;
  before : Nowhere (Passes (is_byte l.byte) l.part) 0 l.at;
}

abbrev pub decreases-loop-at : goal.decreases-loop-at
decreases-loop-at l = length l.part - l.at

abbrev pub invariant-loop-at-2 : goal.invariant-loop-at-2
invariant-loop-at-2 l = record {
  inside : l.at ≤ length l.part;
  before : Nowhere (Passes (is_byte l.byte) l.part) 0 l.at;
}

abbrev pub decreases-loop-at-2 : goal.decreases-loop-at-2
decreases-loop-at-2 l = length l.part - l.at
