use Rattle.std.proofs.Common.{◌≡◌, ℕ, ◌-◌, ◌<◌, ◌≤◌, true, length, get_or}
use Rattle.pipe_model.specs.Members.{has}
use Rattle.edit_stages.proofs.strip.front_stripped.Given as goal

abbrev pub invariant-loop-at : goal.invariant-loop-at
invariant-loop-at l = record {
  within : l.at ≤ length l.rec;
  stripped : (k : ℕ) → k < l.at → has l.set (get_or l.rec k 0) ≡ true;
}

abbrev pub decreases-loop-at : goal.decreases-loop-at
decreases-loop-at l = length l.rec - l.at
