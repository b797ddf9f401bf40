-- What follows from a stage's shape.
use Rattle.std.specs.Prelude.{ℕ, Bool, true, false, ◌&&◌, List, [], ◌∷◌, is_none}
use Rattle.pipe_model.specs.Row.{Pair}
use Rattle.pipe_model.specs.Shape.{Outs, Width, Keeping, Shape}
use Rattle.pipe_model.specs.Shape.Outs.{Pairs, Endless}
use Rattle.pipe_model.specs.Shape.Order.{WritesFirst}
use Rattle.pipe_model.specs.Shape.Width.{Two, All}
use Rattle.pipe_model.specs.Shape.Keeping.{Nothing, Console, File}
use Rattle.pipe_model.specs.Shape.Shape.{Absent, Sources, Lists, Sinks, Firsts, Turns, Rounds, Gates, Dams, Queues}

-- how the order in which records come to a strand's inputs matters
pub data Meeting : Type 0 where
  -- its row says which input it looks at
  Ordered : Meeting
  -- it takes what comes first: the inputs must lead back to one strand
  Braided : Meeting
  -- no net with it is settled
  Loose : Meeting

-- how many strands a stage has: one, or two joined by a queue, or one for each of its streams
pub data Parting : Type 0 where
  Whole : Parting
  Queued : Parting
  Streamed : Parting

-- as many streams as there may be
abbrev pub any_number : ℕ
any_number = 64

abbrev pub most_of : Width → ℕ
most_of Two = 2
most_of All = any_number

-- the greatest number of inputs
abbrev pub inputs_by : Shape → ℕ
inputs_by Absent = 0
inputs_by (Sources pairs) = 0
inputs_by (Lists order t) = 1
inputs_by (Sinks keeping) = 1
inputs_by (Firsts width outs) = most_of width
inputs_by (Turns width t) = most_of width
inputs_by (Rounds width t) = most_of width
inputs_by Gates = any_number
inputs_by Dams = any_number
inputs_by Queues = 1

abbrev pub parting_by : Shape → Parting
parting_by Dams = Streamed
parting_by Queues = Queued
parting_by _ = Whole

abbrev pub meeting_by : Shape → Meeting
meeting_by (Firsts width outs) = Braided
meeting_by Gates = Loose
meeting_by _ = Ordered

abbrev pub keeping_by : Shape → Keeping
keeping_by (Sinks keeping) = keeping
keeping_by _ = Nothing

-- it is the text of standard output
abbrev pub is_shown : Keeping → Bool
is_shown Nothing = false
is_shown Console = true
is_shown (File name) = false

-- it is for a file
abbrev pub is_filed : Keeping → Bool
is_filed Nothing = false
is_filed Console = false
is_filed (File name) = true

abbrev pub has_none : List Pair → Bool
has_none [] = true
has_none (p ∷ ps) = false

-- it writes only what the record at hand causes, before it takes it
abbrev pub is_thin_by : List Bool → Shape → Bool
is_thin_by outputs (Lists WritesFirst t) = has_none (t outputs).before && is_none (t outputs).last
is_thin_by outputs (Sinks keeping) = true
is_thin_by outputs _ = false

abbrev pub are_finite : Outs → Bool
are_finite (Pairs outs) = true
are_finite (Endless pair) = false

-- it writes a finite list of pairs for a finite list of records
abbrev pub is_finite_by : List Bool → Shape → Bool
is_finite_by outputs (Lists order t) = are_finite (t outputs).outs
is_finite_by outputs _ = true

-- it issues pipelines: so far no shape does
abbrev pub issues_by : Shape → Bool
issues_by shape = false
