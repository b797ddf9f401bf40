-- None of the flags so far is set.
use Rattle.std.proofs.Common.{◌≡◌, ◌<◌, ℕ, false}
use Rattle.pipe_model.specs.Members.{flag_at}
use Rattle.braid_check.proofs.answer.is_unconnected.Given as goal

abbrev pub invariant-loop-flag : goal.invariant-loop-flag
invariant-loop-flag l = (k : ℕ) → k < l.flag-index → flag_at l.strand.ports.has_input k ≡ false
