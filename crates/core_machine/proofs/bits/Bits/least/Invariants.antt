use Rattle.std.proofs.Common.{◌≡◌, ◌<◌, ℕ, length, ◌-◌, ◌≤◌}
use Rattle.core_machine.specs.Members.{word_at}
use Rattle.core_machine.proofs.bits.Bits.least.Given as goal

abbrev pub invariant-loop-k : goal.invariant-loop-k
invariant-loop-k l = (l.k ≤ length l.self-inside.words.items) × ((j : ℕ) → j < l.k → word_at l.self-inside.words.items j ≡ 0)

abbrev pub decreases-loop-k : goal.decreases-loop-k
decreases-loop-k l = length l.self-inside.words.items - l.k
