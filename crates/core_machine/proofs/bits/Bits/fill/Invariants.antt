-- The words so far are filled, and there are as many as at first.
use Rattle.std.proofs.Common.{◌≡◌, ◌<◌, ◌-◌, ◌*◌, ℕ, length}
use Rattle.core_machine.specs.Members.{word_at, low_word}
use Rattle.core_machine.proofs.bits.Bits.fill.Given as goal

abbrev pub invariant-loop-k : goal.invariant-loop-k
invariant-loop-k l = (length l.self-inside.words.items ≡ length l.initial.self-inside.words.items)
    × ((j : ℕ) → j < l.k → word_at l.self-inside.words.items j ≡ low_word (l.count - 64 * j))

abbrev pub decreases-loop-k : goal.decreases-loop-k
decreases-loop-k l = length l.self-inside.words.items - l.k
