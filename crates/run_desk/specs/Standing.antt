-- For which net, state and strands left out a desk stands.
use Rattle.std.specs.Prelude.{◌≡◌, ◌<◌, ◌≤◌, ◌*◌, ℕ, true, false, if◌then◌else◌, List, [], map, drop, ℤ, slice_get, length, Option, Some, None}
use Rattle.std.specs.Option.{option_map}
use Rattle.pipe_model.specs.declared.net.Net.{Net}
use Rattle.pipe_model.specs.declared.net.Link.{Link}
use Rattle.pipe_model.specs.Event.{Want, has_ended, has_seen, records_on}
use Rattle.pipe_model.specs.Event.Want.{Commit, Read, Any, Gate, Take, Write, Prime, Issue, Join, Sever, Done}
use Rattle.pipe_model.specs.State.{Who, State, past, same, link_in, link_out}
use Rattle.pipe_model.specs.Licence.{Left, want_at, puts, tooks, out_closed, in_closed, offered, first_part}
use Rattle.commit_levels.specs.UnitState.{IsLevel, Member}
use Rattle.commit_levels.specs.Licensed.{IsStrand}
use Rattle.stage_steps.specs.Coroutine.{record_seen_on}
use Rattle.connectors.specs.WireState.{WireState}
use Rattle.run_desk.specs.declared.seat.Ask.{Ask}
use Rattle.run_desk.specs.declared.seat.Ask.TheVariants as Now
use Rattle.run_desk.specs.declared.seat.Seat.{Seat}
use Rattle.run_desk.specs.Desk.{DeskState}
use Rattle.run_desk.specs.Telling.{in_door, out_door, first_of, sight_door, sight_through}

-- a want without the record that it writes
abbrev pub asked : Option Want → Ask
asked None = Now.Nothing
asked (Some (Commit level)) = Now.Commit level
asked (Some (Read i)) = Now.Read i
asked (Some Any) = Now.Any
asked (Some Gate) = Now.Gate
asked (Some (Take i)) = Now.Take i
asked (Some (Write o rec)) = Now.Write o
asked (Some Prime) = Now.Primed
asked (Some (Issue text)) = Now.Issue
asked (Some (Join unit)) = Now.Join unit
asked (Some (Sever i)) = Now.Cut i
asked (Some (Done code)) = Now.Done code

-- the strand is out too, and it is out no more
abbrev pub left_out : Left → Who → Left
left_out left s = λ t. if same t s then true else left t

abbrev pub left_in : Left → Who → Left
left_in left s = λ t. if same t s then false else left t

-- the seat tells what its strand wants, and of its history
pub record IsSeat (net : Net) (st : State) (left : Left) (s : Who) (seat : Seat) : Type 0 where
  pub ask : seat.ask ≡ asked (want_at net st left s)
  pub ended : seat.has_ended ≡ has_ended (past st s)
  pub seen : seat.has_seen ≡ has_seen (past st s)

-- of a queue the records that were put on its link and not taken, the oldest first
abbrev pub waiting_on : State → Link → Option (List (List ℕ))
waiting_on st link = if link.queue then Some (drop (tooks st link) (records_on link.output (past st link.from))) else None

-- the wire tells the counts of its link, the record that its producer wants to write, which of its ends has ended, and what waits in a queue; `texts` is what
-- the grips hold
pub record IsWire (net : Net) (texts : ℕ → List ℕ) (st : State) (left : Left) (link : Link) (wire : WireState) : Type 0 where
  pub puts : wire.puts ≡ puts st link
  pub tooks : wire.tooks ≡ tooks st link
  pub offer : option_map texts wire.offer ≡ offered link.output (want_at net st left link.from)
  pub out_closed : wire.out_closed ≡ out_closed st link
  pub in_closed : wire.in_closed ≡ in_closed st link
  pub queue : option_map (map texts) wire.queue ≡ waiting_on st link

-- the sight holds the record that the strand saw last on the input, and none where it saw none, until the strand ends
abbrev pub IsSight : (ℕ → List ℕ) → State → Who → ℕ → Option ℕ → Type 0
IsSight texts st s i sight = has_ended (past st s) ≡ false → option_map texts sight ≡ record_seen_on i (past st s)

-- the link of a number
abbrev pub link_through : List Link → Option ℕ → Option Link
link_through links None = None
link_through links (Some j) = slice_get links j

-- the tables of the net, which never change: a seat for each strand, a wire for each link, a sight for each input, and doors that lead to the links
pub record IsLaid (net : Net) (st : State) (d : DeskState) : Type 0 where
  pub seat_count : length d.seats ≡ length net.strands
  pub wire_count : length d.wires ≡ length net.links
  -- each input has a sight of its own, at most 64 a strand
  pub sight_count : length d.sights ≤ 64 * length net.strands
  pub sights_there : (s : Who) (i n : ℕ) → sight_door d s i ≡ Some n → n < length d.sights
  pub sights_apart : (s t : Who) (i k n : ℕ) → sight_door d s i ≡ Some n → sight_door d t k ≡ Some n → (s ≡ t) × (i ≡ k)
  pub in_doors : (s : Who) (i : ℕ) → link_in net st s i ≡ link_through net.links (in_door d s i)
  pub out_doors : (s : Who) (o : ℕ) → link_out net st s o ≡ link_through net.links (out_door d s o)
  pub firsts : (s : Who) → first_of s (slice_get d.doors s) ≡ first_part net st s

-- the desk stands for the state
pub record DeskStands (net : Net) (texts : ℕ → List ℕ) (st : State) (left : Left) (d : DeskState) : Type 0 where
  pub laid : IsLaid net st d
  pub seats : (s : Who) (seat : Seat) → slice_get d.seats s ≡ Some seat → IsSeat net st left s seat
  -- who has no seat has no history
  pub nobody : (s : Who) → slice_get d.seats s ≡ None → past st s ≡ []
  pub wires : (j : ℕ) (link : Link) (wire : WireState) → slice_get net.links j ≡ Some link → slice_get d.wires j ≡ Some wire → IsWire net texts st left link wire
  pub sights : (s : Who) (i : ℕ) → IsSight texts st s i (sight_through d.sights (sight_door d s i))
  -- the members of the unit are the strands, by their numbers
  pub member_count : length d.unit ≡ length net.strands
  pub members : (s : Who) (m : Member) → slice_get d.unit s ≡ Some m → IsStrand (past st s) (want_at net st left s) m
  -- a strand wants a commit level only where it is one
  pub early : (s : Who) (level : ℤ) → want_at net st left s ≡ Some (Commit level) → IsLevel level
