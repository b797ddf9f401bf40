-- What the strands of a net stand on, and what is asked of it before it changes. It serves the inside.
use Rattle.std.specs.Prelude.{◌≡◌, ◌<◌, ℕ, false, length, List}
use Rattle.pipe_model.specs.declared.net.Net.{Net}
use Rattle.pipe_model.specs.declared.step.Seen.{Seen}
use Rattle.pipe_model.specs.declared.step.Want.{Want}
use Rattle.pipe_model.specs.State.{State}
use Rattle.pipe_model.specs.Licence.{Left}
use Rattle.pipe_model.specs.WellFormed.{IsWellFormed}
use Rattle.record_pool.specs.PoolState.{PoolState}
use Rattle.run_desk.specs.Desk.{DeskState}
use Rattle.run_desk.specs.Standing.{DeskStands}
use Rattle.run_desk.specs.Turns.{CanTurn, HasCome}
use Rattle.run_desk.specs.Telling as Telling
use Rattle.core_machine.specs.Members.{Members}
use Rattle.core_machine.specs.Woken.{IsCovering, AsksEarly}

pub record FloorState : Type 0 where
  pub net : Net
  pub desk : DeskState
  pub pool : PoolState
  -- the strands that may go on, and maybe others
  pub ready : Members

-- the net is well formed, and the set is of its strands and holds each that may go on
pub record IsCovered (net : Net) (d : DeskState) (ready : Members) : Type 0 where
  pub formed : IsWellFormed net
  pub size : ready.size ≡ length net.strands
  pub covers : IsCovering d ready

-- the desk stands for a state of the net, and no strand asks for another commit level than -1 and 0
pub record IsInUse (net : Net) (d : DeskState) : Type 0 where
  pub texts : ℕ → List ℕ
  pub st : State
  pub left : Left
  pub kept : DeskStands net texts st left d
  pub early : AsksEarly d

-- what the strand is told can be made: it is a strand of the net that hasn't ended
pub record CanMake (net : Net) (d : DeskState) (pool : PoolState) (s : ℕ) (seen : Seen) : Type 0 where
  pub used : IsInUse net d
  pub can : CanTurn d pool s seen
  pub live : Telling.ended_at d s ≡ false
  pub strand : s < length net.strands

-- no strand asks for another after this one came home with this want
abbrev pub StaysEarly : DeskState → PoolState → ℕ → Want → Type 0
StaysEarly d pool s w = (new : DeskState) (after : PoolState) → HasCome d pool s w new after → AsksEarly new
