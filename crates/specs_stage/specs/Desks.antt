-- What a desk in code stands for; it serves the inside.
use Rattle.std.specs.Prelude.{ℕ, Bool, true, false, List, [], ◌∷◌, ◌++◌, ℤ, set, option_and_then}
use Rattle.std.specs.Fmt.{signed_decimal}
use Rattle.std.specs.declared.option.Option.{Option}
use Rattle.pipe_model.specs.declared.items.Amount.{Amount}
use Rattle.pipe_model.specs.declared.items.Item.{Item}
use Rattle.pipe_model.specs.declared.items.Item.TheVariants.{Read}
use Rattle.pipe_model.specs.declared.items.Origin.{Origin}
use Rattle.pipe_model.specs.declared.items.Origin.TheVariants.{Cut, Number, Text, Print}
use Rattle.pipe_model.specs.declared.items.SetOp.{SetOp}
use Rattle.pipe_model.specs.Numbers.{within_i64, in_ten_places}
use Rattle.pipe_model.specs.Ranges.{part_of}
use Rattle.pipe_model.specs.Shape.{Records}
use Rattle.pipe_model.specs.SpecsRows as rows
use Rattle.specs_stage.specs.declared.desk.Desk.{Desk}

-- with the record at hand, and those that READ brings
abbrev pub desk_of : Desk → List ℕ → Records → rows.Desk
desk_of x hand coming = record { counters = x.counters; number = x.number; hand = hand; coming = coming; output = x.output.items; pad = x.pad; written = x.written.items }

-- the number that a SET gives its counter
abbrev pub set_value : ℕ → SetOp → Amount → rows.Desk → Option ℤ
set_value k op amount d = option_and_then (λ z. within_i64 (rows.counter_after op (rows.counter k d) z)) (rows.amount_of amount d)

abbrev pub with_counter : ℕ → ℤ → rows.Desk → rows.Desk
with_counter k z d = record d { counters = set d.counters k z }

abbrev pub with_output_written : rows.Desk → rows.Desk
with_output_written d = record d { written = d.written ++ d.output ∷ [] }

-- the same but for what it wrote
abbrev pub with_written : Records → rows.Desk → rows.Desk
with_written wrote d = record d { written = wrote }

-- the bytes of an origin, by the cycle's number and the value of the counter that it names
abbrev pub origin_from : Origin → ℕ → ℤ → List ℕ → List ℕ
origin_from (Cut range) number counter hand = part_of range hand
origin_from Number number counter hand = in_ten_places number
origin_from (Text text) number counter hand = text
origin_from (Print k) number counter hand = signed_decimal counter

abbrev pub is_read : Item → Bool
is_read Read = true
is_read _ = false

-- the items before the first READ
abbrev pub before_read : List Item → List Item
before_read [] = []
before_read (Read ∷ items) = []
before_read (item ∷ items) = item ∷ before_read items
