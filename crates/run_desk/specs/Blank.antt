-- The desk of a net before the first step.
use Rattle.std.specs.Prelude.{ℕ, suc, ◌+◌, ◌-◌, false, List, [], ◌∷◌, replicate, map, length, Some, None}
use Rattle.pipe_model.specs.declared.net.Net.{Net}
use Rattle.pipe_model.specs.declared.net.Link.{Link}
use Rattle.pipe_model.specs.declared.net.Strand.{Strand}
use Rattle.connectors.specs.WireState.{new_wire}
use Rattle.commit_levels.specs.UnitState.{new_unit}
use Rattle.run_desk.specs.declared.seat.Ask.TheVariants.{Nothing}
use Rattle.run_desk.specs.declared.seat.Seat.{Seat}
use Rattle.run_desk.specs.Desk.{DoorsState, DeskState}
use Rattle.run_desk.specs.Turns.{list_changed_behind}

-- the seat of a strand that has asked for nothing
abbrev pub new_seat : Seat
new_seat = record { ask = Nothing; has_ended = false; has_seen = false }

-- the doors of a strand where none leads anywhere yet, and whose sights count from n
abbrev pub closed_doors : ℕ → ℕ → Strand → DoorsState
closed_doors s n strand = record { inputs = replicate strand.ports.inputs None; outputs = replicate strand.ports.outputs None; first = s - strand.part; first_sight = n }

-- and those of these strands, which count from s, as their sights do from n
abbrev pub doors_from : ℕ → ℕ → List Strand → List DoorsState
doors_from s n [] = []
doors_from s n (strand ∷ strands) = closed_doors s n strand ∷ doors_from (suc s) (n + strand.ports.inputs) strands

-- how many inputs these strands have
abbrev pub inputs_in : List Strand → ℕ
inputs_in [] = 0
inputs_in (strand ∷ strands) = strand.ports.inputs + inputs_in strands

-- the doors, where an input leads to a link
abbrev pub led_in : ℕ → ℕ → DoorsState → DoorsState
led_in i j doors = record doors { inputs = list_changed_behind doors.inputs (λ door. Some j) (Some i) }

-- and where an output does
abbrev pub led_out : ℕ → ℕ → DoorsState → DoorsState
led_out o j doors = record doors { outputs = list_changed_behind doors.outputs (λ door. Some j) (Some o) }

-- the doors of all strands, where both ends of the j-th link lead to it
abbrev pub with_link : List DoorsState → ℕ → Link → List DoorsState
with_link doors j link = list_changed_behind (list_changed_behind doors (led_out link.output j) (Some link.from)) (led_in link.input j) (Some link.to)

-- and so for all these links, which count from j
abbrev pub with_links : List DoorsState → ℕ → List Link → List DoorsState
with_links doors j [] = doors
with_links doors j (link ∷ links) = with_link (with_links doors (suc j) links) j link

-- nobody has asked for anything, and no record was written
abbrev pub blank_desk : Net → DeskState
blank_desk net = record {
  seats = replicate (length net.strands) new_seat;
  wires = map (λ (link : Link). new_wire link.queue) net.links;
  sights = replicate (inputs_in net.strands) None;
  doors = with_links (doors_from 0 0 net.strands) 0 net.links;
  unit = new_unit (length net.strands);
}
