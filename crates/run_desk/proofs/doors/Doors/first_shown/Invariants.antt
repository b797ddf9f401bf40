use Rattle.std.proofs.Common.{◌≡◌, ◌<◌, ◌-◌, ℕ, false, length, slice_get}
use Rattle.run_desk.specs.Telling as Telling
use Rattle.run_desk.proofs.doors.Doors.first_shown.Given as goal

abbrev pub invariant-loop-k : goal.invariant-loop-k
invariant-loop-k l = record {
  some : 0 < l.k;
  none : (j : ℕ) → 0 < j → j < l.k → Telling.shows (Telling.through l.wires (Telling.joined (slice_get l.self.inputs j))) ≡ false;
}

abbrev pub decreases-loop-k : goal.decreases-loop-k
decreases-loop-k l = length l.self.inputs - l.k
