-- What the stages choose that keep something of the records so far.
use Rattle.std.specs.Prelude.{ℕ, ◌-◌, Bool, ◌&&◌, ◌||◌, if◌then◌else◌, List, length}
use Rattle.pipe_model.specs.declared.kind.Times.{Times}
use Rattle.pipe_model.specs.declared.kind.Times.TheVariants.{Only, All}
use Rattle.pipe_model.specs.Counts.{is_among, is_reached, earlier}
use Rattle.pipe_model.specs.SelectionRows.{is_within, is_met}
use Rattle.pipe_model.specs.Shape.{never}
use Rattle.select_stages.specs.Picks.{Choice}

-- the first records, and it may stop behind them
abbrev pub taking : Times → Bool → Choice
taking times may_stop = record { selects = λ recs. is_among times (length recs); halts = never; stops = λ recs. may_stop && is_reached times (length recs) }

-- how many of the first are still to come behind so many records
abbrev pub left_behind : Times → ℕ → Times
left_behind (Only n) k = Only (n - k)
left_behind All k = All

abbrev pub one_less : Times → Times
one_less times = left_behind times 1

-- a record between whose front and back a part is open, or an outer one
abbrev pub is_enclosed : Bool → Bool → Bool → Bool
is_enclosed outer before behind = if outer then before || behind else before && behind

-- the records of parts, with the outer ones or without
abbrev pub enclosing : List ℕ → List ℕ → Bool → Choice
enclosing first second outer = record { selects = λ recs. is_enclosed outer (is_within first second (earlier recs)) (is_within first second recs); halts = never; stops = never }

-- from the first record on that begins with the text, and it may halt there
abbrev pub meeting : List ℕ → Bool → Choice
meeting text may_halt = record { selects = is_met text; halts = λ recs. may_halt && is_met text recs; stops = never }
