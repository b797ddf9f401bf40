use Rattle.std.proofs.Common.{◌≡◌, ℕ, ◌<◌, ◌≤◌, true, length, get_or}
use Rattle.pipe_model.specs.Members.{has}
use Rattle.edit_stages.proofs.strip.back_stripped.Given as goal

abbrev pub invariant-loop-end : goal.invariant-loop-end
invariant-loop-end l = record {
  within : l.end ≤ length l.rec;
  stripped : (k : ℕ) → l.end ≤ k → k < length l.rec → has l.set (get_or l.rec k 0) ≡ true;
}

abbrev pub decreases-loop-end : goal.decreases-loop-end
decreases-loop-end l = l.end
