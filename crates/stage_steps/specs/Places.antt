-- Where a walk of pairs stands, and what is asked for there.
use Rattle.std.specs.Prelude.{if◌then◌else◌, Bool, true, false, pos, negsuc}
use Rattle.pipe_model.specs.declared.step.Want.{Want}
use Rattle.pipe_model.specs.declared.step.Want.TheVariants.{Commit, Read, Take, Done}
use Rattle.pipe_model.specs.Shape.{Records, Stream, Order as RowOrder}
use Rattle.pipe_model.specs.Shape.Order.{WritesFirst as RowWritesFirst, TakesFirst as RowTakesFirst}
use Rattle.stage_steps.specs.declared.order.Order.{Order}
use Rattle.stage_steps.specs.declared.order.Order.TheVariants.{WritesFirst, TakesFirst}
use Rattle.stage_steps.specs.declared.place.Follow.{Follow}
use Rattle.stage_steps.specs.declared.place.Follow.TheVariants as Follows
use Rattle.stage_steps.specs.declared.place.Place.{Place}
use Rattle.stage_steps.specs.declared.place.Place.TheVariants.{Starting, Committing, Looking, Writing, Taking, Passing, Ending}

-- the stage table's word for an order
abbrev pub order_of : Order → RowOrder
order_of WritesFirst = RowWritesFirst
order_of TakesFirst = RowTakesFirst

-- what is asked for where nothing is written
abbrev pub want_at : Place → Want
want_at Starting = Commit (negsuc 0)
want_at Committing = Commit (pos 0)
want_at Looking = Read 0
want_at Taking = Take 0
want_at (Ending code) = Done code
want_at (Writing follow) = Done (pos 0)
want_at Passing = Done (pos 0)

-- the place with a record at hand
abbrev pub place_with : Order → Place
place_with WritesFirst = Writing Follows.Take
place_with TakesFirst = Taking

-- at the sight of a record
abbrev pub sight_place : Order → Stream → Records → Place
sight_place order t recs = if t.halts recs then Ending (t.code recs) else place_with order

-- it looks at the next record, or stops
abbrev pub look_place : Stream → Records → Place
look_place t recs = if t.stops recs then Ending (t.code recs) else Looking

-- when the record was taken
abbrev pub taken_place : Order → Stream → Records → Place
taken_place WritesFirst t recs = look_place t recs
taken_place TakesFirst t recs = Writing Follows.Look

-- when nothing is left to write
abbrev pub place_behind : Follow → Stream → Records → Place
place_behind Follows.Take t recs = Taking
place_behind Follows.Look t recs = look_place t recs
place_behind Follows.End t recs = Ending (t.code recs)

-- the input has ended
abbrev pub is_last : Follow → Bool
is_last Follows.End = true
is_last _ = false
