-- What a desk stands for: lists by strand and by link.
use Rattle.std.specs.Prelude.{ℕ, List, Option}
use Rattle.connectors.specs.WireState.{WireState}
use Rattle.run_desk.specs.declared.seat.Seat.{Seat}
use Rattle.commit_levels.specs.UnitState.{Member}

-- the number of the link at each input and output of a strand, the first strand of its stage, and the number of the sight of its first input, which those of the others follow
pub record DoorsState : Type 0 where
  pub inputs : List (Option ℕ)
  pub outputs : List (Option ℕ)
  pub first : ℕ
  pub first_sight : ℕ

-- seats, doors and the members of the unit by strand, wires by link, and for each input of each strand the place of the record that was seen there last
pub record DeskState : Type 0 where
  pub seats : List Seat
  pub wires : List WireState
  pub sights : List (Option ℕ)
  pub doors : List DoorsState
  pub unit : List Member
