-- The shapes of the stage table's rows: how a stage reads, writes and takes, where its row gives the lists.
use Rattle.std.specs.Prelude.{ℕ, Bool, true, false, ◌&&◌, not, ◌==◌, nat_lt, if◌then◌else◌, List, [], ◌∷◌, ◌++◌, ℤ, pos, length, map, filter, find}
use Rattle.std.specs.List.{range_with_len}
use Rattle.std.specs.declared.option.Option.{Option}
use Rattle.std.specs.declared.option.Option.TheVariants.{Some, None}
use Rattle.pipe_model.specs.declared.net.Strand.{Strand}
use Rattle.pipe_model.specs.Event.{Event, Want}
use Rattle.pipe_model.specs.Event.Event.{Saw, SawEnd, Primed}
use Rattle.pipe_model.specs.Event.Want.{Read, Any, Gate, Prime}
use Rattle.pipe_model.specs.Members.{has}
use Rattle.pipe_model.specs.Row.{Pair, Act, Goal, Plan, Known, Row, sees, without_all}
use Rattle.pipe_model.specs.Row.Act.{Writes, Repeats, Takes}
use Rattle.pipe_model.specs.Row.Goal.{Asks, Ends}

-- records in order, the oldest first
abbrev pub Records : Type 0
Records = List (List ℕ)

-- the pairs that a record causes, by all records so far, of which it is the last
pub data Outs : Type 0 where
  -- these, in order
  Pairs : (Records → List Pair) → Outs
  -- one pair again and again, for as long as its output takes it
  Endless : (Records → Pair) → Outs

-- what the table says of a stage with one list of records: each by the records so far, the last of them at hand
pub record Stream : Type 0 where
  -- the pairs at the start
  pub before : List Pair
  -- the pairs that the record at hand causes
  pub outs : Outs
  -- the pairs at the end of input, of a stage that may have any
  pub last : Option (Records → List Pair)
  -- it ends after the record at hand, or before the first record
  pub stops : Records → Bool
  -- it ends at the sight of the record at hand
  pub halts : Records → Bool
  -- the code with which it ends
  pub code : Records → ℤ

-- whether the pairs of a record are written before it is taken or after that
pub data Order : Type 0 where
  WritesFirst : Order
  TakesFirst : Order

-- how many inputs a stage of several reads: the first two, whether it has them or not, or all that it has
pub data Width : Type 0 where
  Two : Width
  All : Width

-- what the table says of a stage that reads one input at a time: each by the records so far and their inputs
pub record Turning : Type 0 where
  -- its inputs, so many, in the order in which it is to read them next: it reads the first of them that hasn't ended
  pub order : ℕ → List Pair → List ℕ
  -- the pairs that the record at hand causes
  pub outs : List Pair → List Pair
  -- the pairs at the end of all
  pub last : List Pair → List Pair

-- what the table says of a stage that has a record of each input in sight, but of those that ended, and then acts
pub record Rounding : Type 0 where
  -- it ends at the first end of an input
  pub strict : Bool
  -- the pairs of a round, by what it knows
  pub outs : Known → List Pair
  -- whether the round takes the record in sight on an input
  pub takes : Known → ℕ → Bool

-- where the records that a stage took go, besides its outputs
pub data Keeping : Type 0 where
  Nothing : Keeping
  Console : Keeping
  File : List ℕ → Keeping

pub data Shape : Type 0 where
  -- a file that isn't there: it ends before its first commit
  Absent : Shape
  -- it writes these pairs, and ends
  Sources : List Pair → Shape
  -- it reads input 0, and writes the pairs of each record before it takes it or after that; by which of its outputs are connected
  Lists : Order → (List Bool → Stream) → Shape
  -- it writes each record on output 0 before it takes it, and refusals never end it
  Sinks : Keeping → Shape
  -- it looks at any input, and writes the pairs of each record, by all records so far and their inputs, before it takes it
  Firsts : Width → (List Pair → List Pair) → Shape
  -- it reads one input at a time
  Turns : Width → Turning → Shape
  -- it reads each input that has no record in sight and hasn't ended, ascending, and then acts
  Rounds : Width → Rounding → Shape
  -- GATE
  Gates : Shape
  -- DAM
  Dams : Shape
  -- ELASTIC
  Queues : Shape

-- Plans

abbrev pub writes : List Pair → List Act
writes [] = []
writes (p ∷ ps) = Writes p.0 p.1 ∷ writes ps

abbrev pub asks : Want → Plan
asks want = record { acts = []; goal = Asks want }

abbrev pub ends : ℤ → Plan
ends code = record { acts = []; goal = Ends code }

abbrev pub row : (Known → Plan) → Row
row plan = record { early = None; plan = plan; yields = true }

-- the records, without the inputs they came from
abbrev pub records_of : List Pair → Records
records_of seen = map (λ p. p.1) seen

-- Lists

abbrev pub acts_of : Outs → Records → List Act
acts_of (Pairs outs) recs = writes (outs recs)
acts_of (Endless pair) recs = Repeats (pair recs).0 (pair recs).1 ∷ []

abbrev pub in_order : Order → List Act → Act → List Act
in_order WritesFirst acts take = acts ++ take ∷ []
in_order TakesFirst acts take = take ∷ acts

-- it goes on to the next record, or stops
abbrev pub next_record : Stream → Records → Goal
next_record t recs = if t.stops recs then Ends (t.code recs) else Asks (Read 0)

-- with a record at hand
abbrev pub at_sight : Order → Stream → Records → ℕ → Plan
at_sight order t recs i =
    if t.halts recs then ends (t.code recs)
    else record { acts = in_order order (acts_of t.outs recs) (Takes i); goal = next_record t recs }

abbrev pub last_pairs : Option (Records → List Pair) → Records → List Pair
last_pairs None recs = []
last_pairs (Some last) recs = last recs

abbrev pub list_plan : Order → Stream → Known → List Event → Plan
list_plan order t k [] = record { acts = writes t.before; goal = next_record t [] }
list_plan order t k (Saw i rec ∷ told) = at_sight order t (records_of k.seen) i
list_plan order t k (SawEnd i ∷ told) = record { acts = writes (last_pairs t.last (records_of k.seen)); goal = Ends (t.code (records_of k.seen)) }
list_plan order t k (_ ∷ told) = ends (pos 0)

abbrev pub listed : Order → Stream → Row
listed order t = row (λ k. list_plan order t k k.told)

abbrev pub never : Records → Bool
never recs = false

abbrev pub zero_code : Records → ℤ
zero_code recs = pos 0

-- the pairs of each record, and nothing else
abbrev pub each_record : (Records → List Pair) → Stream
each_record outs = record { before = []; outs = Pairs outs; last = None; stops = never; halts = never; code = zero_code }

-- the record at hand
abbrev pub at_hand_of : Records → List ℕ
at_hand_of [] = []
at_hand_of (rec ∷ []) = rec
at_hand_of (rec ∷ next ∷ recs) = at_hand_of (next ∷ recs)

-- the record at hand, on output 0
abbrev pub copied : Records → List Pair
copied recs = (0, at_hand_of recs) ∷ []

-- Source and Sink

abbrev pub source : List Pair → Row
source pairs = row (λ k. record { acts = writes pairs; goal = Ends (pos 0) })

abbrev pub sink : Row
sink = record (listed WritesFirst (each_record copied)) { yields = false }

-- Any

abbrev pub first_plan : (List Pair → List Pair) → Known → List Event → Plan
first_plan outs k [] = asks Any
first_plan outs k (Saw i rec ∷ told) = record { acts = writes (outs k.seen) ++ Takes i ∷ []; goal = Asks Any }
first_plan outs k (_ ∷ told) = ends (pos 0)

-- One input at a time

-- the input is there, and hasn't ended
abbrev pub can_read : ℕ → List ℕ → ℕ → Bool
can_read inputs ended i = nat_lt i inputs && not (has ended i)

-- after some acts it reads an input, or writes its last pairs and ends
abbrev pub read_next : List Act → List Pair → Option ℕ → Plan
read_next acts last (Some i) = record { acts = acts; goal = Asks (Read i) }
read_next acts last None = record { acts = acts ++ writes last; goal = Ends (pos 0) }

abbrev pub turn_after : ℕ → Turning → Known → List Act → Plan
turn_after inputs t k acts = read_next acts (t.last k.seen) (find (can_read inputs k.ends) (t.order inputs k.seen))

abbrev pub turn_plan : ℕ → Turning → Known → List Event → Plan
turn_plan inputs t k (Saw i rec ∷ told) = turn_after inputs t k (writes (t.outs k.seen) ++ Takes i ∷ [])
turn_plan inputs t k _ = turn_after inputs t k []

-- Rounds

-- no record of the input is in sight, and it hasn't ended
abbrev pub lacks : List Pair → List ℕ → ℕ → Bool
lacks sight ended i = not (sees i sight) && not (has ended i)

abbrev pub all_inputs : ℕ → List ℕ
all_inputs inputs = range_with_len 0 inputs

-- it reads an input, or has nothing more to look for
abbrev pub look : Option ℕ → Goal
look (Some i) = Asks (Read i)
look None = Ends (pos 0)

-- it acts on what is in sight, and reads again what it took
abbrev pub act_on : ℕ → Rounding → Known → List ℕ → Plan
act_on inputs t k taken = record { acts = writes (t.outs k) ++ map Takes taken; goal = look (find (lacks (without_all taken k.sight) k.ends) (all_inputs inputs)) }

-- what it acts on: where nothing is in sight, nothing is left
abbrev pub round_of : ℕ → Rounding → Known → List Pair → Plan
round_of inputs t k [] = ends (pos 0)
round_of inputs t k (p ∷ ps) = act_on inputs t k (filter (λ i. sees i k.sight && t.takes k i) (all_inputs inputs))

abbrev pub read_or_act : ℕ → Rounding → Known → Option ℕ → Plan
read_or_act inputs t k (Some i) = asks (Read i)
read_or_act inputs t k None = round_of inputs t k k.sight

abbrev pub has_any : List ℕ → Bool
has_any [] = false
has_any (i ∷ is) = true

abbrev pub round_plan : ℕ → Rounding → Known → Plan
round_plan inputs t k =
    if t.strict && has_any k.ends then ends (pos 0)
    else read_or_act inputs t k (find (lacks k.sight k.ends) (all_inputs inputs))

-- GATE: a record of another input than 0 goes to the output of its number; a record on input 0, or its end, ends it

abbrev pub gate_pass : ℕ → List ℕ → Plan
gate_pass i rec = if i == 0 then ends (pos 0) else record { acts = Writes i rec ∷ Takes i ∷ []; goal = Asks Gate }

abbrev pub gate_plan : List Event → Plan
gate_plan [] = asks Gate
gate_plan (Saw i rec ∷ told) = gate_pass i rec
gate_plan (_ ∷ told) = ends (pos 0)

-- DAM's later strands: each waits for the first one, and where that saw a record it is as Through with the pair (0, record)

abbrev pub dam_plan : Known → List Event → Plan
dam_plan k [] = asks Prime
dam_plan k (Primed true ∷ told) = asks (Read 0)
dam_plan k (Saw i rec ∷ told) = record { acts = Writes 0 rec ∷ Takes i ∷ []; goal = Asks (Read 0) }
dam_plan k (_ ∷ told) = ends (pos 0)

-- Rows

abbrev pub reads_of : Width → Strand → ℕ
reads_of Two s = 2
reads_of All s = length s.ports.has_input

-- the row of a strand of this shape
abbrev pub row_of : Strand → Shape → Row
row_of s Absent = record { early = Some (pos 28); plan = λ k. ends (pos 28); yields = true }
row_of s (Sources pairs) = source pairs
row_of s (Lists order t) = listed order (t s.ports.has_output)
row_of s (Sinks keeping) = sink
row_of s (Firsts width outs) = row (λ k. first_plan outs k k.told)
row_of s (Turns width t) = row (λ k. turn_plan (reads_of width s) t k k.told)
row_of s (Rounds width t) = row (round_plan (reads_of width s) t)
row_of s Gates = row (λ k. gate_plan k.told)
row_of s Dams = if s.part == 0 then listed WritesFirst (each_record copied) else row (λ k. dam_plan k k.told)
row_of s Queues = listed TakesFirst (each_record copied)
