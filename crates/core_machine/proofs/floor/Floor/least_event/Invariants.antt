-- The set covers as it did, and nothing below the place is in it.
use Rattle.std.proofs.Common.{◌≡◌, ◌<◌, ◌≤◌, ◌-◌, ℕ, false}
use Rattle.core_machine.specs.Members.{is_member}
use Rattle.core_machine.specs.Woken.{IsCovering}
use Rattle.core_machine.proofs.floor.Floor.least_event.Given as goal

abbrev pub invariant-loop-from : goal.invariant-loop-from
invariant-loop-from l = (l.self-inside.net ≡ l.initial.self-inside.net) × (l.self-inside.desk ≡ l.initial.self-inside.desk) × (l.self-inside.pool ≡ l.initial.self-inside.pool)
    × (l.self-inside.ready.size ≡ l.initial.self-inside.ready.size)
    × IsCovering l.initial.self-inside.desk l.self-inside.ready
    × ((t : ℕ) → t < l.from → is_member l.self-inside.ready t ≡ false)
    × ((t : ℕ) → l.size ≤ t → is_member l.self-inside.ready t ≡ false)

abbrev pub decreases-loop-from : goal.decreases-loop-from
decreases-loop-from l = l.size - l.from
