-- What a strand would be told, read off the plain data of a desk.
use Rattle.std.specs.Prelude.{◌≡◌, ◌<◌, ℕ, suc, length, Bool, true, false, ◌&&◌, ◌||◌, not, ◌==◌, nat_lt, int_le, if◌then◌else◌, List, [], ◌∷◌, ℤ, pos, negsuc, slice_get, Option, Some, None, is_some}
use Rattle.std.specs.List.{list_all}
use Rattle.pipe_model.specs.declared.step.Seen.{Seen}
use Rattle.pipe_model.specs.declared.step.Seen.TheVariants.{Up, Saw, SawEnd, SawAllEnd, Took, Put, Refused, Cut, Primed, Ended}
use Rattle.commit_levels.specs.UnitState.{answer}
use Rattle.connectors.specs.WireState.{WireState, at_hand}
use Rattle.run_desk.specs.declared.seat.Ask.{Ask}
use Rattle.run_desk.specs.declared.seat.Ask.TheVariants as Now
use Rattle.run_desk.specs.declared.seat.Seat.{Seat}
use Rattle.run_desk.specs.Desk.{DoorsState, DeskState}

-- Doors

abbrev pub joined : Option (Option ℕ) → Option ℕ
joined None = None
joined (Some door) = door

abbrev pub inputs_of : Option DoorsState → List (Option ℕ)
inputs_of None = []
inputs_of (Some doors) = doors.inputs

abbrev pub outputs_of : Option DoorsState → List (Option ℕ)
outputs_of None = []
outputs_of (Some doors) = doors.outputs

-- the first strand of a strand's stage
abbrev pub first_of : ℕ → Option DoorsState → ℕ
first_of s None = s
first_of s (Some doors) = doors.first

-- the number of the link at a strand's input, and at its output
abbrev pub in_door : DeskState → ℕ → ℕ → Option ℕ
in_door d s i = joined (slice_get (inputs_of (slice_get d.doors s)) i)

abbrev pub out_door : DeskState → ℕ → ℕ → Option ℕ
out_door d s o = joined (slice_get (outputs_of (slice_get d.doors s)) o)

-- the door leads to one of so many wires, if it leads anywhere
abbrev pub LeadsBelow : ℕ → Option ℕ → Type 0
LeadsBelow wires None = Unit {0}
LeadsBelow wires (Some j) = j < wires

-- so does each of these
abbrev pub LeadBelow : ℕ → List (Option ℕ) → Type 0
LeadBelow wires doors = (k : ℕ) → LeadsBelow wires (joined (slice_get doors k))

-- each of so many strands has doors, and they lead to so many wires
pub record IsJoined (strands wires : ℕ) (doors : List DoorsState) : Type 0 where
  pub count : length doors ≡ strands
  pub ins : (s : ℕ) → LeadBelow wires (inputs_of (slice_get doors s))
  pub outs : (s : ℕ) → LeadBelow wires (outputs_of (slice_get doors s))

-- Sights

-- the numbers of the sights of these inputs, from the first one's on
abbrev pub numbered : ℕ → List (Option ℕ) → List (Option ℕ)
numbered n [] = []
numbered n (door ∷ doors) = Some n ∷ numbered (suc n) doors

abbrev pub sights_of : Option DoorsState → List (Option ℕ)
sights_of None = []
sights_of (Some doors) = numbered doors.first_sight doors.inputs

-- the number of the sight of a strand's input
abbrev pub sight_door : DeskState → ℕ → ℕ → Option ℕ
sight_door d s i = joined (slice_get (sights_of (slice_get d.doors s)) i)

-- the place of the record that the sight of a number holds
abbrev pub sight_through : List (Option ℕ) → Option ℕ → Option ℕ
sight_through sights None = None
sight_through sights (Some n) = joined (slice_get sights n)

-- Wires

-- the wire behind a door
abbrev pub through : List WireState → Option ℕ → Option WireState
through wires None = None
through wires (Some j) = slice_get wires j

abbrev pub wire_in : DeskState → ℕ → ℕ → Option WireState
wire_in d s i = through d.wires (in_door d s i)

abbrev pub wire_out : DeskState → ℕ → ℕ → Option WireState
wire_out d s o = through d.wires (out_door d s o)

-- as many records were put as were taken
abbrev pub is_even : WireState → Bool
is_even wire = wire.puts == wire.tooks

-- a record is at hand
abbrev pub shows : Option WireState → Bool
shows None = false
shows (Some wire) = is_some (at_hand wire)

-- nothing will come any more
abbrev pub is_over : Option WireState → Bool
is_over None = true
is_over (Some wire) = wire.out_closed && is_even wire

-- the record that is offered was taken, or goes into a queue
abbrev pub can_put : Option WireState → Bool
can_put None = false
can_put (Some wire) = is_some wire.queue || nat_lt wire.puts wire.tooks

-- the consumer takes no more: a queue never refuses
abbrev pub can_refuse : Option WireState → Bool
can_refuse None = false
can_refuse (Some wire) = not (is_some wire.queue) && (wire.in_closed && is_even wire)

-- nothing will come any more on any input of a strand
abbrev pub all_over : DeskState → ℕ → Bool
all_over d s = list_all (λ door. is_over (through d.wires door)) (inputs_of (slice_get d.doors s))

-- Commit levels and DAM

-- the number is a commit level
abbrev pub is_level : ℤ → Bool
is_level level = int_le (negsuc 0) level && int_le level (pos 1000)

-- the answer of a level, once all strands stand there
abbrev pub level_code : DeskState → ℤ → Option ℤ
level_code d level = if is_level level then answer d.unit level else None

-- yes where the strand has seen a record, no where it ended without one
abbrev pub primed_of : Option Seat → Option Bool
primed_of None = None
primed_of (Some seat) = if seat.has_seen then Some true else (if seat.has_ended then Some false else None)

abbrev pub primed_at : DeskState → ℕ → Option Bool
primed_at d s = primed_of (slice_get d.seats (first_of s (slice_get d.doors s)))

-- The end

-- the strand has ended: who has no seat has not
abbrev pub ended_of : Option Seat → Bool
ended_of None = false
ended_of (Some seat) = seat.has_ended

abbrev pub ended_at : DeskState → ℕ → Bool
ended_at d s = ended_of (slice_get d.seats s)

-- What is told

abbrev pub up_seen : ℤ → Option ℤ → Option Seen
up_seen level None = None
up_seen level (Some code) = Some (Up level code)

abbrev pub read_seen : ℕ → Bool → Bool → Option Seen
read_seen i hand over = if hand then Some (Saw i) else if over then Some (SawEnd i) else None

abbrev pub any_seen : ℕ → Bool → Bool → Option Seen
any_seen i hand over = if hand then Some (Saw i) else if over then Some SawAllEnd else None

abbrev pub write_seen : ℕ → Bool → Bool → Option Seen
write_seen o put refuse = if put then Some (Put o) else if refuse then Some (Refused o) else None

abbrev pub primed_seen : Option Bool → Option Seen
primed_seen None = None
primed_seen (Some primed) = Some (Primed primed)

-- what a strand that asks so would be told on a stream; so far no unit is issued
abbrev pub seen_by : DeskState → ℕ → ℕ → Ask → Option Seen
seen_by d s k Now.Nothing = None
seen_by d s k (Now.Commit level) = if k == 0 then up_seen level (level_code d level) else None
seen_by d s k (Now.Read i) = if k == i then read_seen i (shows (wire_in d s i)) (is_over (wire_in d s i)) else None
seen_by d s k Now.Any = any_seen k (shows (wire_in d s k)) ((k == 0) && all_over d s)
seen_by d s k Now.Gate = read_seen k (shows (wire_in d s k)) ((k == 0) && is_over (wire_in d s k))
seen_by d s k (Now.Take i) = if k == i then Some (Took i) else None
seen_by d s k (Now.Write o) = if k == o then write_seen o (can_put (wire_out d s o)) (can_refuse (wire_out d s o)) else None
seen_by d s k Now.Primed = if k == 0 then primed_seen (primed_at d s) else None
seen_by d s k Now.Issue = None
seen_by d s k (Now.Join unit) = None
seen_by d s k (Now.Cut i) = if k == i then Some (Cut i) else None
seen_by d s k (Now.Done code) = if k == 0 then Some (Ended code) else None

abbrev pub ask_of : Option Seat → Ask
ask_of None = Now.Nothing
ask_of (Some seat) = seat.ask

abbrev pub ask_at : DeskState → ℕ → Ask
ask_at d s = ask_of (slice_get d.seats s)

-- the ask is to look at the record at hand on this input
abbrev pub reads_on : Ask → ℕ → Bool
reads_on (Now.Read k) i = k == i
reads_on _ i = false

-- who asks so is out, or has ended
abbrev pub asks_nothing : Ask → Bool
asks_nothing Now.Nothing = true
asks_nothing _ = false

-- what a strand would be told on a stream, if it may go on there
abbrev pub seen_at : DeskState → ℕ → ℕ → Option Seen
seen_at d s k = seen_by d s k (ask_at d s)

-- The least stream

-- it is the least stream on which the strand may go on, or there is none
abbrev pub IsFirst : DeskState → ℕ → Option ℕ → Type 0
IsFirst d s None = (k : ℕ) → seen_at d s k ≡ None
IsFirst d s (Some k) = (is_some (seen_at d s k) ≡ true) × ((j : ℕ) → j < k → seen_at d s j ≡ None)

-- the least input behind the first at which a record is at hand, or none
abbrev pub IsFirstShown : List WireState → List (Option ℕ) → Option ℕ → Type 0
IsFirstShown wires inputs None = (k : ℕ) → 0 < k → shows (through wires (joined (slice_get inputs k))) ≡ false
IsFirstShown wires inputs (Some k) = (0 < k) × (shows (through wires (joined (slice_get inputs k))) ≡ true)
    × ((j : ℕ) → 0 < j → j < k → shows (through wires (joined (slice_get inputs j))) ≡ false)

-- the same, with what the strand would be told there
abbrev pub IsFirstEvent : DeskState → ℕ → Option (ℕ × Seen) → Type 0
IsFirstEvent d s None = IsFirst d s None
IsFirstEvent d s (Some r) = IsFirst d s (Some r.0) × (seen_at d s r.0 ≡ Some r.1)

-- what is told, with its stream
abbrev pub on_stream : ℕ → Option Seen → Option (ℕ × Seen)
on_stream k None = None
on_stream k (Some seen) = Some (k, seen)

-- a strand that asks so may go on on several streams
abbrev pub is_wide : Ask → Bool
is_wide Now.Any = true
is_wide Now.Gate = true
is_wide _ = false

-- and one that asks otherwise on this one alone
abbrev pub stream_of : Ask → ℕ
stream_of (Now.Read i) = i
stream_of (Now.Take i) = i
stream_of (Now.Write o) = o
stream_of (Now.Cut i) = i
stream_of _ = 0
