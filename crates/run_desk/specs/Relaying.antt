-- Two strands of which one writes records that the other takes, each by the same grip: what has to be so, and what their events leave.
use Rattle.std.specs.Prelude.{◌≡◌, ℕ, true, List, Some, slice_get}
use Rattle.pipe_model.specs.declared.step.Seen.TheVariants.{Saw}
use Rattle.record_pool.specs.PoolState.{PoolState}
use Rattle.record_pool.specs.Places.{holders_at, with_record, refilled}
use Rattle.connectors.specs.WireState.{WireState, is_due, offered_again, taken_again}
use Rattle.run_desk.specs.declared.seat.Ask.TheVariants.{Read}
use Rattle.run_desk.specs.declared.seat.Seat.{Seat}
use Rattle.run_desk.specs.Desk.{DeskState}
use Rattle.run_desk.specs.Telling.{sight_door}
use Rattle.run_desk.specs.Turns.{list_changed_behind, seat_after}

-- the strand has seen a record, asks to look at the next one on input 0, and took the one that is offered on this link; that offer and what it saw last there are
-- the only two holds on a record, by this grip
pub record IsRelaying (d : DeskState) (pool : PoolState) (t link grip : ℕ) : Type 0 where
  pub reads : (seat : Seat) × (slice_get d.seats t ≡ Some seat) × (seat.ask ≡ Read 0) × (seat.has_seen ≡ true)
  pub due : (wire : WireState) × (slice_get d.wires link ≡ Some wire) × (is_due wire ≡ true) × (wire.offer ≡ Some grip)
  pub saw : (n : ℕ) × (sight_door d t 0 ≡ Some n) × (slice_get d.sights n ≡ Some (Some grip))
  pub two : holders_at pool grip ≡ 2

-- that record is put, the next one is offered by its grip, and the strand is told that it sees it
abbrev pub desk_showing : DeskState → ℕ → ℕ → DeskState
desk_showing d t link = record d { wires = list_changed_behind d.wires offered_again (Some link); seats = list_changed_behind d.seats (seat_after (Saw 0)) (Some t) }

-- the same, it took that, and asks to look at the next one
abbrev pub desk_relayed : DeskState → ℕ → DeskState
desk_relayed d link = record d { wires = list_changed_behind d.wires taken_again (Some link) }

-- the pool with these bytes by the grip, and as many holds
abbrev pub pool_refilled : PoolState → ℕ → List ℕ → PoolState
pool_refilled pool grip bytes = with_record pool grip (Some (refilled bytes (holders_at pool grip)))
