-- What the driver of lists stands for.
use Rattle.std.specs.Prelude.{◌≡◌, ◌≤◌, ◌<◌, IsSome, ◌⊎◌, ℕ, Bool, true, false, not, ◌==◌, if◌then◌else◌, List, [], ◌∷◌, ◌++◌, length, pos, negsuc, is_some}
use Rattle.std.specs.List.{list_any}
use Rattle.std.specs.declared.option.Option.{Option}
use Rattle.std.specs.declared.option.Option.TheVariants.{Some, None}
use Rattle.pipe_model.specs.declared.net.Strand.{Strand}
use Rattle.pipe_model.specs.Event.{Event, has_ended, last_seen_on, taken_from}
use Rattle.pipe_model.specs.Event.Want.{Read}
use Rattle.pipe_model.specs.Records.{text}
use Rattle.pipe_model.specs.Row.{Pair, Act, Goal, Row}
use Rattle.pipe_model.specs.Row.Act.{Writes, Repeats, Takes}
use Rattle.pipe_model.specs.Row.Goal.{Asks, Ends}
use Rattle.pipe_model.specs.Shape.{Records, Stream, Order as RowOrder, Keeping, Shape, listed, next_record, at_hand_of, records_of, each_record, copied}
use Rattle.pipe_model.specs.Shape.Order.{WritesFirst, TakesFirst}
use Rattle.pipe_model.specs.Shape.Keeping.{Nothing}
use Rattle.pipe_model.specs.Shape.Shape.{Sources, Lists, Sinks, Dams, Queues}
use Rattle.pipe_model.specs.Table.{form}
use Rattle.pipe_model.specs.Next.{Phase, Past, past_by, nothing_known}
use Rattle.pipe_model.specs.Next.Phase.{Doing}
use Rattle.pipe_model.specs.Next.Phase.{Starting as Reaching}
use Rattle.stage_steps.specs.declared.group.Repeat.{Repeat}
use Rattle.stage_steps.specs.declared.place.Follow.{Follow}
use Rattle.stage_steps.specs.declared.place.Follow.TheVariants.{Take, End}
use Rattle.stage_steps.specs.declared.place.Place.{Place}
use Rattle.stage_steps.specs.declared.place.Place.TheVariants.{Starting, Committing, Looking, Writing, Taking, Passing, Ending}
use Rattle.stage_steps.specs.declared.walk.Walk.{Walk}
use Rattle.stage_steps.specs.Coroutine.{kept_by, record_seen_on}
use Rattle.stage_steps.specs.Group.{held_acts, IsLeftOfRecord}
use Rattle.stage_steps.specs.KeptText.{KeptText}
use Rattle.stage_steps.specs.Outputs.{open_from, live}
use Rattle.stage_steps.specs.Places.{order_of, is_last}

-- Which lists a strand's shape is made of

pub record Listing : Type 0 where
  pub order : RowOrder
  -- it keeps the text of the records that it takes, and refusals don't end it
  pub keeps : Bool
  pub stream : Stream

-- these pairs, and then the end
abbrev pub only_before : List Pair → Stream
only_before pairs = record (each_record (λ recs. [])) { before = pairs; stops = λ recs. true }

abbrev pub keeping_lists : Keeping → Option Listing
keeping_lists Nothing = None
keeping_lists keeping = Some (record { order = WritesFirst; keeps = true; stream = each_record copied })

abbrev pub lists_of : Strand → Shape → Option Listing
lists_of s (Sources pairs) = Some (record { order = WritesFirst; keeps = false; stream = only_before pairs })
lists_of s (Lists order t) = Some (record { order = order; keeps = false; stream = t s.ports.has_output })
lists_of s (Sinks keeping) = keeping_lists keeping
lists_of s Dams = if s.part == 0 then Some (record { order = WritesFirst; keeps = false; stream = each_record copied }) else None
lists_of s Queues = Some (record { order = TakesFirst; keeps = false; stream = each_record copied })
lists_of s _ = None

-- the row of these lists
abbrev pub list_row : RowOrder → Bool → Stream → Row
list_row order keeps t = record (listed order t) { yields = not keeps }

-- A strand's place

-- the record of the first act, where it writes
abbrev pub first_write : List Act → Option Pair
first_write (Writes o rec ∷ acts) = Some (o, rec)
first_write (Repeats o rec ∷ acts) = Some (o, rec)
first_write _ = None

-- what is left when that record is written
abbrev pub when_written : List Act → List Act
when_written (Writes o rec ∷ acts) = acts
when_written acts = acts

-- the acts, and what the walk does behind them
abbrev pub and_behind : Follow → List Act → List Act
and_behind Take acts = acts ++ Takes 0 ∷ []
and_behind _ acts = acts

-- what follows then
abbrev pub goal_behind : Follow → Stream → Records → Goal
goal_behind End t recs = Ends (t.code recs)
goal_behind _ t recs = next_record t recs

-- the rest is to be done, before the walk asks, or when it has asked for a record before it
abbrev pub IsDoing : Bool → List Act → Goal → Phase → Type 0
IsDoing false rest goal phase = phase ≡ Doing rest goal
IsDoing true rest goal phase = (acts : List Act) × (p : Pair) × (phase ≡ Doing acts goal) × (first_write acts ≡ Some p) × (when_written acts ≡ rest)

-- before a record is taken all is written, where that comes first
abbrev pub IsBeforeTake : RowOrder → List Act → Type 0
IsBeforeTake WritesFirst acts = acts ≡ []
IsBeforeTake TakesFirst acts = Unit {0}

-- it looks at the next record
abbrev pub LooksOn : {L : Type 0} → (L → Bool → Stream → Records → List Act → Type 0) → Stream → L → Option Repeat → Past → Type 0
LooksOn stands t x hand p = stands x false t (records_of p.known.seen) [] × (hand ≡ None) × (p.phase ≡ Doing [] (Asks (Read 0)))

-- it writes pairs, before it asks or when it has asked
abbrev pub WritesOn : {L : Type 0} → (L → Bool → Stream → Records → List Act → Type 0) → Stream → Bool → L → Follow → Option Repeat → List Bool → Past → Type 0
WritesOn stands t has_asked x follow hand flags p = (acts : List Act) × stands x (is_last follow) t (records_of p.known.seen) acts
    × IsDoing has_asked (live flags (and_behind follow (held_acts (at_hand_of (records_of p.known.seen)) hand ++ acts))) (goal_behind follow t (records_of p.known.seen)) p.phase
    × IsLeftOfRecord (records_of p.known.seen) hand

-- it takes the record at hand
abbrev pub TakesOn : {L : Type 0} → (L → Bool → Stream → Records → List Act → Type 0) → RowOrder → Stream → L → Option Repeat → List Bool → Past → Type 0
TakesOn stands order t x hand flags p = (acts : List Act) × stands x false t (records_of p.known.seen) acts × (hand ≡ None) × IsBeforeTake order acts
    × (p.phase ≡ Doing (Takes 0 ∷ live flags acts) (next_record t (records_of p.known.seen)))

-- the walk's place, before it asks or when it has asked; where it passes a record on it has asked, and it may be in one of three
abbrev pub PlaceIs : {L : Type 0} → (L → Bool → Stream → Records → List Act → Type 0) → RowOrder → Stream → Bool → L → Place → Option Repeat → List Bool → Past → Type 0
PlaceIs stands order t has_asked x Starting hand flags p = stands x false t [] [] × (hand ≡ None) × (p.known ≡ nothing_known) × (p.phase ≡ Reaching (negsuc 0))
PlaceIs stands order t has_asked x Committing hand flags p = stands x false t [] [] × (hand ≡ None) × (p.known ≡ nothing_known) × (p.phase ≡ Reaching (pos 0))
PlaceIs stands order t has_asked x Looking hand flags p = LooksOn stands t x hand p
PlaceIs stands order t has_asked x (Writing follow) hand flags p = WritesOn stands t has_asked x follow hand flags p
PlaceIs stands order t has_asked x Taking hand flags p = TakesOn stands order t x hand flags p
PlaceIs stands order t has_asked x Passing hand flags p = (has_asked ≡ true) × (WritesOn stands t true x Take hand flags p ⊎ (TakesOn stands order t x hand flags p ⊎ LooksOn stands t x hand p))
PlaceIs stands order t has_asked x (Ending code) hand flags p = p.phase ≡ Doing [] (Ends code)

-- What is kept

-- all text that is kept: that of the records taken, and while one is at hand that record too; where it passes records on it keeps none
abbrev pub AllIs : Place → List ℕ → List Event → Type 0
AllIs (Writing Take) all h = all ≡ text (taken_from 0 h ++ last_seen_on 0 h ∷ [])
AllIs Taking all h = all ≡ text (taken_from 0 h ++ last_seen_on 0 h ∷ [])
AllIs Passing all h = ⊥
AllIs (Ending code) all h = Unit {0}
AllIs _ all h = all ≡ text (taken_from 0 h)

abbrev pub KeptIs : Place → Option KeptText → Keeping → List Event → Type 0
KeptIs place None keeping h = (g : List Event) → kept_by keeping g ≡ []
KeptIs place (Some kept) keeping h = ((g : List Event) → kept_by keeping g ≡ text (taken_from 0 g)) × (kept.taken ≡ text (taken_from 0 h)) × AllIs place kept.all h

-- The driver

-- the walk stands for the past of a history
pub record WalkIs {L : Type 0} (stands : L → Bool → Stream → Records → List Act → Type 0) (order : RowOrder) (t : Stream) (has_asked : Bool) (outputs : List Bool)
    (x : L) (place : Place) (hand : Option Repeat) (flags : List Bool) (h : List Event) (p : Past) : Type 0 where
  pub flags_are : flags ≡ open_from 0 outputs p.refused
  pub sight_is : last_seen_on 0 h ≡ at_hand_of (records_of p.known.seen)
  pub seen_is : 0 < length (records_of p.known.seen) → IsSome (record_seen_on 0 h)
  pub few : length (records_of p.known.seen) ≤ length h
  pub place_is : has_ended h ≡ false → PlaceIs stands order t has_asked x place hand flags p

-- these parts of a driver, which has asked, stand for a strand's history
pub record ListedIs {L : Type 0} (stands : L → Bool → Stream → Records → List Act → Type 0) (looks : Bool) (x : L) (w : Walk) (s : Strand) (h : List Event) : Type 0 where
  pub keeps : Bool
  pub keeps_is : is_some w.kept ≡ keeps
  pub stream : Stream
  -- the strand's past is that of these lists, whatever happens
  pub past_is : (g : List Event) → past_by (form s).row s.ports.has_output g ≡ past_by (list_row (order_of w.order) keeps stream) s.ports.has_output g
  pub connected_is : w.outputs.connected ≡ list_any (λ flag. flag) s.ports.has_output
  pub walk_is : WalkIs stands (order_of w.order) stream true s.ports.has_output x w.place w.hand w.outputs.flags.items h (past_by (list_row (order_of w.order) keeps stream) s.ports.has_output h)
  pub looks_are : looks ≡ (form s).looks
  -- who keeps records looks at them
  pub looking : keeps ≡ true → looks ≡ true
  pub kept_is : KeptIs w.place w.kept (form s).keeping h
