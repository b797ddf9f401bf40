-- Nobody was taken out, and the producers behind the doors so far are in.
use Rattle.std.proofs.Common.{◌≡◌, ◌<◌, ℕ, Option, Some, slice_get}
use Rattle.core_machine.specs.Woken.{IsLarger, IsProducerIn}
use Rattle.core_machine.proofs.waking.wake_producers.Given as goal

abbrev pub invariant-loop-door : goal.invariant-loop-door
invariant-loop-door l = IsLarger l.initial.ready l.ready
    × ((place : ℕ) (door : Option ℕ) → place < l.door-index → slice_get l.doors place ≡ Some door → IsProducerIn l.links l.ready door)
