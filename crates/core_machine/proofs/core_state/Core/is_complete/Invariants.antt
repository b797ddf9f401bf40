-- No strand below the one that is asked may go on.
use Rattle.std.proofs.Common.{◌≡◌, ◌<◌, ◌-◌, ℕ, None, length}
use Rattle.run_desk.specs.Telling as Telling
use Rattle.core_machine.proofs.core_state.Core.is_complete.Given as goal

abbrev pub invariant-loop-strand : goal.invariant-loop-strand
invariant-loop-strand g l = (s k : ℕ) → s < l.strand → Telling.seen_at l.self-inside.floor.desk s k ≡ None

abbrev pub decreases-loop-strand : goal.decreases-loop-strand
decreases-loop-strand g l = length l.self-inside.actors.items - l.strand
