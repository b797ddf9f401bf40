-- What a step tells of the least event that may be after it.
use Rattle.std.specs.Prelude.{◌≡◌, ◌<◌, ℕ, false, length, Option, Some, None}
use Rattle.pipe_model.specs.declared.net.Net.{Net}
use Rattle.pipe_model.specs.declared.step.Seen.{Seen}
use Rattle.pipe_model.specs.declared.step.Seen.TheVariants.{Saw, Took, Put}
use Rattle.pipe_model.specs.declared.net.Link.{Link}
use Rattle.pipe_model.specs.declared.step.Want.{Want}
use Rattle.pipe_model.specs.declared.step.Want.TheVariants.{Write}
use Rattle.run_desk.specs.Standing.{link_through}
use Rattle.pipe_model.specs.WellFormed.{IsWellFormed}
use Rattle.record_pool.specs.PoolState.{PoolState}
use Rattle.run_desk.specs.Desk.{DeskState}
use Rattle.run_desk.specs.Turns.{CanTurn, desk_after_turn, pool_after_turn}
use Rattle.run_desk.specs.Telling as Telling
use Rattle.core_machine.specs.declared.floor.Ahead.{Ahead}
use Rattle.core_machine.specs.declared.floor.Ahead.TheVariants as Known
use Rattle.core_machine.specs.Answered.{LeastEvent}
use Rattle.core_machine.specs.Floor.{IsInUse, StaysEarly}
use Rattle.core_machine.specs.Machine.{Machine}
use Rattle.core_machine.specs.Woken.{HasReturned, LeastEventAwake, may_settle}

-- the event that is known, with its strand and its stream
abbrev pub event_ahead : Ahead → Option (ℕ × ℕ × Seen)
event_ahead Known.Search = None
event_ahead (Known.Saw s i) = Some (s, i, Saw i)
event_ahead (Known.Took s i) = Some (s, i, Took i)
event_ahead (Known.Put s o at_once) = Some (s, o, Put o)

-- where one is known, it is the least that may be
abbrev pub IsAheadOn : DeskState → Ahead → Type 0
IsAheadOn d ahead = (r : ℕ × ℕ × Seen) → event_ahead ahead ≡ Some r → LeastEventAwake d (Some r)

abbrev pub IsAhead : Machine → Ahead → Type 0
IsAhead m ahead = (r : ℕ × ℕ × Seen) → event_ahead ahead ≡ Some r → LeastEvent m (Some r)

-- the least event was made on this desk, which settled nothing for many, and its strand came home with this want
pub record HasGoneQuietly (net : Net) (d : DeskState) (pool : PoolState) (s k : ℕ) (seen : Seen) (asked : Want) (n : DeskState) (after : PoolState) : Type 0 where
  pub formed : IsWellFormed net
  pub used : IsInUse net d
  pub can : CanTurn d pool s seen
  pub live : Telling.ended_at d s ≡ false
  pub strand : s < length net.strands
  pub least : LeastEventAwake d (Some (s, k, seen))
  pub quiet : may_settle d s seen ≡ false
  pub used_out : IsInUse net (desk_after_turn d s seen)
  pub early : StaysEarly (desk_after_turn d s seen) (pool_after_turn d pool s seen) s asked
  pub returned : HasReturned (desk_after_turn d s seen) (pool_after_turn d pool s seen) s asked n after

-- the strand saw a record, or put one, and not into a queue
abbrev pub HasSeenOrPut : Net → DeskState → ℕ → Seen → Type 0
HasSeenOrPut net d s (Saw i) = Unit {0}
HasSeenOrPut net d s (Put o) = (link : Link) → link_through net.links (Telling.out_door d s o) ≡ Some link → link.queue ≡ false
HasSeenOrPut net d s _ = ⊥

-- it writes on this output
abbrev pub IsWriteOn : ℕ → Want → Type 0
IsWriteOn o (Write k out) = k ≡ o
IsWriteOn o _ = ⊥
