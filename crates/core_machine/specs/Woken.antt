-- Every strand that may go on is in the set, and maybe others: who is woken by what happens at a strand.
use Rattle.std.specs.Prelude.{◌≡◌, ◌<◌, ◌≤◌, ◌⊎◌, ℕ, ℤ, pos, negsuc, Bool, true, false, ◌&&◌, ◌||◌, not, List, Option, Some, None, slice_get, is_some}
use Rattle.pipe_model.specs.declared.net.Link.{Link}
use Rattle.pipe_model.specs.declared.step.Seen.{Seen}
use Rattle.pipe_model.specs.declared.step.Seen.TheVariants.{Took, Put, Ended}
use Rattle.pipe_model.specs.declared.step.Want.{Want}
use Rattle.pipe_model.specs.declared.step.Want.TheVariants as want
use Rattle.run_desk.specs.declared.seat.Ask.TheVariants as Ask
use Rattle.run_desk.specs.Desk.{DeskState}
use Rattle.record_pool.specs.PoolState.{PoolState}
use Rattle.run_desk.specs.Standing.{link_through}
use Rattle.run_desk.specs.Turns.{HasCome, ends, sees}
use Rattle.run_desk.specs.Telling as Telling
use Rattle.core_machine.specs.Members.{Members, is_member}

-- every strand that may go on is in the set
abbrev pub IsCovering : DeskState → Members → Type 0
IsCovering d set = (s k : ℕ) → is_some (Telling.seen_at d s k) ≡ true → is_member set s ≡ true

-- no strand asks for another commit level than -1 and 0
abbrev pub AsksEarly : DeskState → Type 0
AsksEarly d = (t : ℕ) (level : ℤ) → Telling.ask_at d t ≡ Ask.Commit level → (level ≡ negsuc 0) ⊎ (level ≡ pos 0)

-- the links join strands below the size
abbrev pub AreInside : List Link → ℕ → Type 0
AreInside links size = (j : ℕ) (link : Link) → slice_get links j ≡ Some link → (link.from < size) × (link.to < size)

-- the least strand that may go on, with its least stream, or that there is none
abbrev pub LeastAwake : DeskState → Option (ℕ × ℕ) → Type 0
LeastAwake d None = (s k : ℕ) → Telling.seen_at d s k ≡ None
LeastAwake d (Some r) = Telling.IsFirst d r.0 (Some r.1) × ((t k : ℕ) → t < r.0 → Telling.seen_at d t k ≡ None)

-- the same, with what the strand would be told there
abbrev pub LeastEventAwake : DeskState → Option (ℕ × ℕ × Seen) → Type 0
LeastEventAwake d None = LeastAwake d None
LeastEventAwake d (Some r) = LeastAwake d (Some (r.0, r.1)) × (Telling.seen_at d r.0 r.1 ≡ Some r.2)

-- the strand came home with this want, or had ended and changed nothing
abbrev pub HasReturned : DeskState → PoolState → ℕ → Want → DeskState → PoolState → Type 0
HasReturned d pool s w new after =
    ((Telling.ended_at d s ≡ true) × (new ≡ d) × (after ≡ pool)) ⊎ ((Telling.ended_at d s ≡ false) × HasCome d pool s w new after)

-- Who is woken

-- the set has the same size, and all that was in it is in it
abbrev pub IsLarger : Members → Members → Type 0
IsLarger old new = (new.size ≡ old.size) × ((t : ℕ) → is_member old t ≡ true → is_member new t ≡ true)

-- all strands are in the set
abbrev pub IsWhole : Members → Type 0
IsWhole set = (t : ℕ) → t < set.size → is_member set t ≡ true

-- the strand that writes on the link behind a door is in the set, and the one that reads there
abbrev pub IsProducerIn : List Link → Members → Option ℕ → Type 0
IsProducerIn links set door = (link : Link) → link_through links door ≡ Some link → is_member set link.from ≡ true

abbrev pub IsConsumerIn : List Link → Members → Option ℕ → Type 0
IsConsumerIn links set door = (link : Link) → link_through links door ≡ Some link → is_member set link.to ≡ true

-- where the link is a queue, the one that reads there is in the set
abbrev pub IsWaitingIn : List Link → Members → Option ℕ → Type 0
IsWaitingIn links set door = (link : Link) → link_through links door ≡ Some link → link.queue ≡ true → is_member set link.to ≡ true

-- it holds of each door
abbrev pub OfDoors : (Option ℕ → Type 0) → List (Option ℕ) → Type 0
OfDoors P doors = (place : ℕ) (door : Option ℕ) → slice_get doors place ≡ Some door → P door

-- the strands at the other ends of a strand's links are in the set, where what it was told concerns them
abbrev pub AreEndsIn : DeskState → List Link → ℕ → Seen → Members → Type 0
AreEndsIn d links s (Took i) set = IsProducerIn links set (Telling.in_door d s i)
AreEndsIn d links s (Put o) set = IsWaitingIn links set (Telling.out_door d s o)
AreEndsIn d links s (Ended code) set =
    OfDoors (IsConsumerIn links set) (Telling.outputs_of (slice_get d.doors s)) × OfDoors (IsProducerIn links set) (Telling.inputs_of (slice_get d.doors s))
AreEndsIn d links s _ set = Unit {0}

-- the strand at the other end of the link that a strand writes on is in the set
abbrev pub IsReaderIn : DeskState → List Link → ℕ → Want → Members → Type 0
IsReaderIn d links s (want.Write o out) set = IsConsumerIn links set (Telling.out_door d s o)
IsReaderIn d links s _ set = Unit {0}

-- the other strands of the stage whose first one this is are in the set: those that follow it, as long as they are of that stage
abbrev pub IsStageIn : DeskState → ℕ → Members → Type 0
IsStageIn d s set = (u : ℕ) → s < u → u < set.size → ((t : ℕ) → s < t → t ≤ u → Telling.first_of t (slice_get d.doors t) ≡ s) → is_member set u ≡ true

-- What one event may settle for many

-- what is told may settle something: the strand's end, or the first record that it sees
abbrev pub may_settle : DeskState → ℕ → Seen → Bool
may_settle d s seen = ends seen || (sees seen && not (is_some (Telling.primed_of (slice_get d.seats s))))

-- the want may fill a commit level
abbrev pub commits : Want → Bool
commits (want.Commit level) = true
commits _ = false
