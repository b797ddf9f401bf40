-- Nobody was taken out, and those behind the strand so far are in.
use Rattle.std.proofs.Common.{◌<◌, ◌≡◌, ◌-◌, ℕ, true}
use Rattle.core_machine.specs.Members.{is_member}
use Rattle.core_machine.specs.Woken.{IsLarger}
use Rattle.core_machine.proofs.settling.wake_followers.Given as goal

abbrev pub invariant-loop-next : goal.invariant-loop-next
invariant-loop-next l = IsLarger l.initial.ready l.ready × (l.strand < l.next) × ((u : ℕ) → l.strand < u → u < l.next → is_member l.ready u ≡ true)

abbrev pub decreases-loop-next : goal.decreases-loop-next
decreases-loop-next l = l.size - l.next
