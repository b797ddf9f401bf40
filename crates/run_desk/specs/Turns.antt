-- What a turn does to a desk and its pool, and what a strand that comes home.
use Rattle.std.specs.Prelude.{◌≡◌, ◌<◌, ◌-◌, ◌^◌, ℕ, Bool, true, false, ◌||◌, List, [], ◌∷◌, length, ℤ, slice_get, slice_set, Option, Some, None, IsSome, is_some}
use Rattle.pipe_model.specs.declared.step.Out.{Out}
use Rattle.pipe_model.specs.declared.step.Out.TheVariants.{Same, Fresh}
use Rattle.pipe_model.specs.declared.step.Seen.{Seen}
use Rattle.pipe_model.specs.declared.step.Seen.TheVariants.{Up, Saw, Took, Put, Refused, Ended}
use Rattle.pipe_model.specs.declared.step.Want.{Want}
use Rattle.pipe_model.specs.declared.step.Want.TheVariants as want
use Rattle.record_pool.specs.PoolState.{PoolState}
use Rattle.record_pool.specs.Places.{IsHeld, holders_at, record_at, with_record, fresh, shared}
use Rattle.connectors.specs.WireState.{WireState, at_hand, taken, settled, cleared, offered, with_room, noded_in, pool_taken, pool_settled, unreserved, CanTake, CanSettle, IsHeldIn, given_in}
use Rattle.commit_levels.specs.UnitState.{IsLevel, IsLive, IsAt, reached_by, ended_by, asked_by, Member}
use Rattle.commit_levels.specs.declared.member.Progress.TheVariants.{NotAsked, Asked}
use Rattle.run_desk.specs.declared.seat.Ask.{Ask}
use Rattle.run_desk.specs.declared.seat.Ask.TheVariants.{Nothing, Commit, Read, Any, Gate, Take, Write, Primed, Issue, Join, Cut, Done}
use Rattle.run_desk.specs.declared.seat.Seat.{Seat}
use Rattle.run_desk.specs.Desk.{DeskState}
use Rattle.run_desk.specs.Telling.{inputs_of, outputs_of, in_door, out_door, sights_of, sight_door, sight_through, through, wire_in, wire_out}

-- Lists

-- the list, where what was found at a place is changed
abbrev pub list_changed_at : {A : Type 0} → List A → ℕ → (A → A) → Option A → List A
list_changed_at xs k f None = xs
list_changed_at xs k f (Some x) = slice_set xs k (f x)

-- the list, where the item behind a door is changed
abbrev pub list_changed_behind : {A : Type 0} → List A → (A → A) → Option ℕ → List A
list_changed_behind xs f None = xs
list_changed_behind xs f (Some k) = list_changed_at xs k f (slice_get xs k)

-- Wires

-- the offer of a wire, if there is one
abbrev pub offer_on : Option WireState → Option ℕ
offer_on None = None
offer_on (Some wire) = wire.offer

-- the record at hand on a wire
abbrev pub hand_on : Option WireState → Option ℕ
hand_on None = None
hand_on (Some wire) = at_hand wire

-- the pool after the record at hand on a wire was taken, and after the record that was offered on it was put
abbrev pub pool_after_take : PoolState → Option WireState → PoolState
pool_after_take pool None = pool
pool_after_take pool (Some wire) = pool_taken pool wire wire.queue

abbrev pub pool_after_put : PoolState → Option WireState → PoolState
pool_after_put pool None = pool
pool_after_put pool (Some wire) = pool_settled pool wire wire.queue

-- and after a place was reserved, where the wire is a queue
abbrev pub pool_with_room : PoolState → Option WireState → PoolState
pool_with_room pool None = pool
pool_with_room pool (Some wire) = noded_in pool wire.queue

-- and after it was given back
abbrev pub pool_without_room : PoolState → Option WireState → PoolState
pool_without_room pool None = pool
pool_without_room pool (Some wire) = unreserved pool wire.reserved

abbrev pub without_room : WireState → WireState
without_room wire = record wire { reserved = false }

-- the wire is a queue
abbrev pub queues_up : Option WireState → Bool
queues_up None = false
queues_up (Some wire) = is_some wire.queue

-- the producer writes no more
abbrev pub out_shut : WireState → WireState
out_shut wire = record wire { out_closed = true }

-- the consumer takes no more
abbrev pub in_shut : WireState → WireState
in_shut wire = record wire { in_closed = true }

-- the wires, where those behind these doors are changed, one after the other
abbrev pub wires_changed : (WireState → WireState) → List (Option ℕ) → List WireState → List WireState
wires_changed f [] wires = wires
wires_changed f (door ∷ doors) wires = wires_changed f doors (list_changed_behind wires f door)

-- Sights

-- the sights after a look at this record
abbrev pub sights_seen : List (Option ℕ) → Option ℕ → Option ℕ → List (Option ℕ)
sights_seen sights door None = sights
sights_seen sights door (Some grip) = list_changed_behind sights (λ sight. Some grip) door

-- the pool after a look at this record, which takes the place of the one seen before
abbrev pub pool_seen : PoolState → Option ℕ → Option ℕ → PoolState
pool_seen pool before None = pool
pool_seen pool before (Some grip) = given_in (shared pool grip) before

-- a sight that was given back
abbrev pub no_sight : Option ℕ → Option ℕ
no_sight sight = None

-- the sights, and the pool, after those of these numbers were given back
abbrev pub sights_without : List (Option ℕ) → List (Option ℕ) → List (Option ℕ)
sights_without [] sights = sights
sights_without (door ∷ doors) sights = sights_without doors (list_changed_behind sights no_sight door)

abbrev pub pool_without : List (Option ℕ) → List (Option ℕ) → PoolState → PoolState
pool_without [] sights pool = pool
pool_without (door ∷ doors) sights pool = pool_without doors (list_changed_behind sights no_sight door) (given_in pool (sight_through sights door))

-- and each of them is held when its turn comes
abbrev pub CanForget : List (Option ℕ) → List (Option ℕ) → PoolState → Type 0
CanForget [] sights pool = Unit {0}
CanForget (door ∷ doors) sights pool = IsHeldIn pool (sight_through sights door) × CanForget doors (list_changed_behind sights no_sight door) (given_in pool (sight_through sights door))

-- Turns

abbrev pub ends : Seen → Bool
ends (Ended code) = true
ends _ = false

abbrev pub sees : Seen → Bool
sees (Saw i) = true
sees _ = false

-- the seat of a strand that was told this
abbrev pub seat_after : Seen → Seat → Seat
seat_after seen seat = record { ask = Nothing; has_ended = seat.has_ended || ends seen; has_seen = seat.has_seen || sees seen }

-- the desk after the strand's ends of its wires were closed, and its sights given back
abbrev pub desk_without_ends : DeskState → ℕ → DeskState
desk_without_ends d s = record d {
  wires = wires_changed in_shut (inputs_of (slice_get d.doors s)) (wires_changed out_shut (outputs_of (slice_get d.doors s)) d.wires);
  sights = sights_without (sights_of (slice_get d.doors s)) d.sights;
}

-- and after the strand ended with this code
abbrev pub desk_after_end : DeskState → ℕ → ℤ → DeskState
desk_after_end d s code = record (desk_without_ends d s) { unit = ended_by d.unit s code }

-- the desk after a strand was told this, but for its seat
abbrev pub rest_after_turn : DeskState → ℕ → Seen → DeskState
rest_after_turn d s (Up level code) = record d { unit = reached_by d.unit s level }
rest_after_turn d s (Saw i) = record d { sights = sights_seen d.sights (sight_door d s i) (hand_on (wire_in d s i)) }
rest_after_turn d s (Took i) = record d { wires = list_changed_behind d.wires taken (in_door d s i) }
rest_after_turn d s (Put o) = record d { wires = list_changed_behind d.wires settled (out_door d s o) }
rest_after_turn d s (Refused o) = record d { wires = list_changed_behind d.wires cleared (out_door d s o) }
rest_after_turn d s (Ended code) = desk_after_end d s code
rest_after_turn d s _ = d

-- the desk after a turn
abbrev pub desk_after_turn : DeskState → ℕ → Seen → DeskState
desk_after_turn d s seen = record (rest_after_turn d s seen) { seats = list_changed_behind d.seats (seat_after seen) (Some s) }

-- and the pool
abbrev pub pool_after_turn : DeskState → PoolState → ℕ → Seen → PoolState
pool_after_turn d pool s (Saw i) = pool_seen pool (sight_through d.sights (sight_door d s i)) (hand_on (wire_in d s i))
pool_after_turn d pool s (Took i) = pool_after_take pool (wire_in d s i)
pool_after_turn d pool s (Put o) = pool_after_put pool (wire_out d s o)
pool_after_turn d pool s (Refused o) = given_in pool (offer_on (wire_out d s o))
pool_after_turn d pool s (Ended code) = pool_without (sights_of (slice_get d.doors s)) d.sights pool
pool_after_turn d pool s _ = pool

-- When a turn may be made

-- it holds of the wire behind a door, if there is one
abbrev pub Behind : (WireState → Type 0) → List WireState → Option ℕ → Type 0
Behind P wires door = (wire : WireState) → through wires door ≡ Some wire → P wire

-- there is a sight of this number
abbrev pub HasSight : List (Option ℕ) → Option ℕ → Type 0
HasSight sights door = (n : ℕ) × (door ≡ Some n) × (n < length sights)

-- what the event needs of the desk and the pool: a sight for the record, grips that are held, counts that are less than 64 bits hold, and a strand that hasn't ended
abbrev pub CanTurn : DeskState → PoolState → ℕ → Seen → Type 0
CanTurn d pool s (Up level code) = (s < length d.unit) × IsLive d.unit s × IsLevel level × IsAt d.unit s level Asked
CanTurn d pool s (Saw i) =
    ((grip : ℕ) → hand_on (wire_in d s i) ≡ Some grip → HasSight d.sights (sight_door d s i))
    × ((grip : ℕ) → hand_on (wire_in d s i) ≡ Some grip → IsHeld pool grip)
    × ((grip : ℕ) → hand_on (wire_in d s i) ≡ Some grip → holders_at pool grip < 4294967295)
    × IsHeldIn pool (sight_through d.sights (sight_door d s i))
CanTurn d pool s (Took i) =
    Behind (λ wire. IsSome (at_hand wire)) d.wires (in_door d s i)
    × Behind (λ wire. CanTake pool wire wire.queue) d.wires (in_door d s i)
    × Behind (λ wire. wire.tooks < 2 ^ 64 - 1) d.wires (in_door d s i)
CanTurn d pool s (Put o) = Behind (λ wire. CanSettle pool wire wire.queue) d.wires (out_door d s o)
CanTurn d pool s (Refused o) =
    Behind (λ wire. wire.queue ≡ None) d.wires (out_door d s o)
    × Behind (λ wire. IsSome wire.offer) d.wires (out_door d s o)
    × Behind (λ wire. wire.tooks ≡ wire.puts) d.wires (out_door d s o)
    × Behind (λ wire. IsHeldIn pool wire.offer) d.wires (out_door d s o)
CanTurn d pool s (Ended code) = (s < length d.unit) × IsLive d.unit s × CanForget (sights_of (slice_get d.doors s)) d.sights pool
CanTurn d pool s _ = Unit {0}

-- Coming home

-- a record is offered, for which a queue has a place reserved
abbrev pub offers : ℕ → WireState → WireState
offers grip wire = offered (with_room wire) grip

-- the grip is the only hold on a new record of these bytes
abbrev pub IsFresh : PoolState → List ℕ → ℕ → PoolState → Type 0
IsFresh pool bytes grip after = (record_at pool grip ≡ None) × (after ≡ with_record pool grip (Some (fresh bytes)))

-- the grip is one more hold on the record that was seen
abbrev pub IsShare : PoolState → Option ℕ → ℕ → PoolState → Type 0
IsShare pool sight grip after = (sight ≡ Some grip) × (after ≡ shared pool grip)

-- the grip holds what is to be written
abbrev pub IsHold : DeskState → PoolState → ℕ → Out → ℕ → PoolState → Type 0
IsHold d pool s (Same i) grip after = IsShare pool (sight_through d.sights (sight_door d s i)) grip after
IsHold d pool s (Fresh bytes) grip after = IsFresh pool bytes grip after

-- the seat of a strand that asks for this
abbrev pub asking : Ask → Seat → Seat
asking ask seat = record seat { ask = ask }

-- the unit after a strand that asks for this came home
abbrev pub unit_at_home : List Member → ℕ → Ask → List Member
unit_at_home unit s (Commit level) = asked_by unit s level
unit_at_home unit s _ = unit

-- the desk after a strand that writes nothing came home
abbrev pub desk_at_home : DeskState → ℕ → Ask → DeskState
desk_at_home d s ask = record d { seats = list_changed_behind d.seats (asking ask) (Some s); unit = unit_at_home d.unit s ask }

-- and after one that writes the record of this grip
abbrev pub desk_at_home_writing : DeskState → ℕ → ℕ → ℕ → DeskState
desk_at_home_writing d s o grip = record (desk_at_home d s (Write o)) { wires = list_changed_behind d.wires (offers grip) (out_door d s o) }

-- what home asks of the desk and the pool: a level that the strand hasn't asked for, or a connected output with no offer, and a sight that is there and can be shared
abbrev pub CanAsk : DeskState → ℕ → Ask → Type 0
CanAsk d s (Commit level) = (s < length d.unit) × IsLive d.unit s × IsLevel level × IsAt d.unit s level NotAsked
CanAsk d s (Write o) =
    IsSome (wire_out d s o)
    × Behind (λ wire. wire.offer ≡ None) d.wires (out_door d s o)
    × Behind (λ wire. wire.out_closed ≡ false) d.wires (out_door d s o)
    × Behind (λ wire. wire.reserved ≡ false) d.wires (out_door d s o)
CanAsk d s _ = Unit {0}

abbrev pub CanShare : PoolState → Option ℕ → Type 0
CanShare pool sight = (grip : ℕ) × (sight ≡ Some grip) × IsHeld pool grip × (holders_at pool grip < 4294967295)

abbrev pub CanHold : DeskState → PoolState → ℕ → Out → Type 0
CanHold d pool s (Same i) = CanShare pool (sight_through d.sights (sight_door d s i))
CanHold d pool s (Fresh bytes) = Unit {0}

-- a want, without the record that it writes
abbrev pub ask_for : Want → Ask
ask_for (want.Commit level) = Commit level
ask_for (want.Read i) = Read i
ask_for want.Any = Any
ask_for want.Gate = Gate
ask_for (want.Take i) = Take i
ask_for (want.Write o out) = Write o
ask_for want.Primed = Primed
ask_for (want.Issue text) = Issue
ask_for (want.Join unit) = Join unit
ask_for (want.Cut i) = Cut i
ask_for (want.Done code) = Done code

abbrev pub CanCome : DeskState → PoolState → ℕ → Want → Type 0
CanCome d pool s (want.Write o out) = CanAsk d s (Write o) × CanHold d pool s out
CanCome d pool s w = CanAsk d s (ask_for w)

-- a new record is written
abbrev pub is_new : Out → Bool
is_new (Fresh bytes) = true
is_new (Same i) = false

-- what is written, and the want, where a new record has been moved out of it
abbrev pub bare_out : Out → Out
bare_out (Fresh bytes) = Fresh []
bare_out out = out

abbrev pub bare : Want → Want
bare (want.Write o out) = want.Write o (bare_out out)
bare w = w

-- what wants memory: a new record, or a place in a queue
abbrev pub wants_memory : DeskState → ℕ → Want → Bool
wants_memory d s (want.Write o out) = is_new out || queues_up (wire_out d s o)
wants_memory d s w = false

-- the desk and the pool after the strand came home to write through this door, where a place was reserved before
pub record HasOffered (d : DeskState) (pool : PoolState) (s o : ℕ) (door : Option ℕ) (out : Out) (new : DeskState) (after : PoolState) : Type 0 where
  pub grip : ℕ
  pub hold : IsHold d pool s out grip after
  pub home : new ≡ record d { seats = list_changed_behind d.seats (asking (Write o)) (Some s); wires = list_changed_behind d.wires (λ wire. offered wire grip) door }

-- the desk and the pool after the strand came home to write on an output
pub record HasWritten (d : DeskState) (pool : PoolState) (s o : ℕ) (out : Out) (new : DeskState) (after : PoolState) : Type 0 where
  pub grip : ℕ
  pub hold : IsHold d (pool_with_room pool (wire_out d s o)) s out grip after
  pub home : new ≡ desk_at_home_writing d s o grip

-- and after it came home with this want
abbrev pub HasCome : DeskState → PoolState → ℕ → Want → DeskState → PoolState → Type 0
HasCome d pool s (want.Write o out) new after = HasWritten d pool s o out new after
HasCome d pool s w new after = (new ≡ desk_at_home d s (ask_for w)) × (after ≡ pool)
