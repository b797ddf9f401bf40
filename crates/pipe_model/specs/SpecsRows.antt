-- The row of SPECS.
use Rattle.std.specs.Prelude.{ℕ, suc, ◌-◌, ◌==◌, Bool, true, false, ◌&&◌, not, if◌then◌else◌, List, [], ◌∷◌, ◌++◌, length, drop, set, get_or, replicate, ℤ, pos, ◌+ℤ◌, ◌-ℤ◌, fold, is_none, option_map, option_and_then}
use Rattle.std.specs.Fmt.{signed_decimal}
use Rattle.std.specs.declared.option.Option.{Option}
use Rattle.std.specs.declared.option.Option.TheVariants.{Some, None}
use Rattle.pipe_model.specs.declared.items.Origin.{Origin}
use Rattle.pipe_model.specs.declared.items.Origin.TheVariants as Origins
use Rattle.pipe_model.specs.declared.items.SetOp.{SetOp}
use Rattle.pipe_model.specs.declared.items.SetOp.TheVariants.{Put, Add, Subtract}
use Rattle.pipe_model.specs.declared.items.Amount.{Amount}
use Rattle.pipe_model.specs.declared.items.Amount.TheVariants as Amounts
use Rattle.pipe_model.specs.declared.items.Item.{Item}
use Rattle.pipe_model.specs.declared.items.Item.TheVariants.{Field, Read, Write, Pad, Set}
use Rattle.pipe_model.specs.Row.{Pair}
use Rattle.pipe_model.specs.Shape.{Records, Stream, Order}
use Rattle.pipe_model.specs.Shape.Outs.{Pairs}
use Rattle.pipe_model.specs.Shape.Order.{WritesFirst, TakesFirst}
use Rattle.pipe_model.specs.Fields.{field_stripped, converted, placed}
use Rattle.pipe_model.specs.Numbers.{within_i64, in_ten_places, number_in}
use Rattle.pipe_model.specs.Counts.{all_on}
use Rattle.pipe_model.specs.Parts.{without_last, last_part, cut_every}
use Rattle.pipe_model.specs.Ranges.{part_of}

-- One run of a list of items

pub record Desk : Type 0 where
  -- #0 to #9
  pub counters : List ℤ
  -- the cycle's number
  pub number : ℕ
  -- the record at hand, and those that READ brings
  pub hand : List ℕ
  pub coming : Records
  pub output : List ℕ
  -- the byte that fills
  pub pad : ℕ
  -- what the cycle wrote
  pub written : Records

abbrev pub counter : ℕ → Desk → ℤ
counter k d = get_or d.counters k (pos 0)

-- an empty record, where there is none
abbrev pub first_of_all : Records → List ℕ
first_of_all [] = []
first_of_all (rec ∷ recs) = rec

abbrev pub origin_of : Origin → Desk → List ℕ
origin_of (Origins.Cut range) d = part_of range d.hand
origin_of Origins.Number d = in_ten_places d.number
origin_of (Origins.Text text) d = text
origin_of (Origins.Print k) d = signed_decimal (counter k d)

abbrev pub amount_of : Amount → Desk → Option ℤ
amount_of (Amounts.Whole z) d = Some z
amount_of (Amounts.Counter k) d = Some (counter k d)
amount_of (Amounts.Number range) d = number_in (part_of range d.hand)

abbrev pub counter_after : SetOp → ℤ → ℤ → ℤ
counter_after Put old value = value
counter_after Add old value = old +ℤ value
counter_after Subtract old value = old -ℤ value

-- what an item does; none is a fault
abbrev pub effect : Item → Desk → Option Desk
effect (Field origin strip convert spot align) d = option_map (λ field. record d { output = placed spot align d.pad field d.output }) (converted convert (field_stripped strip (origin_of origin d)))
effect Read d = Some (record d { hand = first_of_all d.coming; coming = drop 1 d.coming })
effect Write d = Some (record d { written = d.written ++ d.output ∷ []; output = [] })
effect (Pad byte) d = Some (record d { pad = byte })
effect (Set k op amount) d = option_map (λ z. record d { counters = set d.counters k z }) (option_and_then (λ z. within_i64 (counter_after op (counter k d) z)) (amount_of amount d))

abbrev pub run : List Item → Desk → Option Desk
run items d = fold (λ desk item. option_and_then (effect item) desk) (Some d) items

-- a field stands behind the last WRITE, or anywhere where there is none; `before` says it of the items before these
abbrev pub has_unwritten : Bool → List Item → Bool
has_unwritten before [] = before
has_unwritten before (Field origin strip convert spot align ∷ items) = has_unwritten true items
has_unwritten before (Write ∷ items) = has_unwritten false items
has_unwritten before (item ∷ items) = has_unwritten before items

-- Cycles

abbrev pub at_first : Desk
at_first = record { counters = replicate 10 (pos 0); number = 0; hand = []; coming = []; output = []; pad = 32; written = [] }

-- the next cycle begins, over its records
abbrev pub begun : Desk → Records → Desk
begun d recs = record { counters = d.counters; number = suc d.number; hand = first_of_all recs; coming = drop 1 recs; output = []; pad = 32; written = [] }

-- at the list's end the output is written, where a field was put into it behind the last WRITE
abbrev pub closed : List Item → Desk → Desk
closed items d = if has_unwritten false items then record d { written = d.written ++ d.output ∷ [] } else d

-- one more cycle; none is a fault in it or before it
abbrev pub cycle : List Item → Option Desk → Records → Option Desk
cycle items desk recs = option_map (closed items) (option_and_then (λ d. run items (begun d recs)) desk)

-- the number of READs
abbrev pub reads : List Item → ℕ
reads [] = 0
reads (Read ∷ items) = suc (reads items)
reads (item ∷ items) = reads items

-- the records of each cycle, the last of which lacks a record at least
abbrev pub groups : List Item → Records → List Records
groups items recs = cut_every (suc (reads items)) recs

-- the records of a cycle that waits for more of them, if any
abbrev pub waiting : List Item → Records → Records
waiting items recs = last_part (groups items recs)

abbrev pub waits : List Item → Records → Bool
waits items recs = not (length (waiting items recs) == 0)

-- after the cycles that have all their records
abbrev pub after_cycles : List Item → Records → Option Desk
after_cycles items recs = fold (cycle items) (Some at_first) (without_last (groups items recs))

-- the items before the READ that finds no record, where a cycle has n of them
abbrev pub reached : ℕ → List Item → List Item
reached n [] = []
reached n (Read ∷ items) = if n == 1 then [] else Read ∷ reached (n - 1) items
reached n (item ∷ items) = item ∷ reached n items

-- after all that runs before the next record comes
abbrev pub so_far : List Item → Records → Option Desk
so_far items recs = if waits items recs then cycle (reached (length (waiting items recs)) items) (after_cycles items recs) (waiting items recs) else after_cycles items recs

-- at the end of input: a cycle that waits has empty records for those that lack
abbrev pub after_input : List Item → Records → Option Desk
after_input items recs = if waits items recs then cycle items (after_cycles items recs) (waiting items recs) else after_cycles items recs

-- the EOF list runs once more, with an empty record at hand
abbrev pub after_all : List Item → Option (List Item) → Records → Option Desk
after_all items None recs = after_input items recs
after_all items (Some eof) recs = cycle eof (after_input items recs) []

-- of a faulty cycle nothing is written
abbrev pub written_by : Option Desk → Records
written_by None = []
written_by (Some d) = d.written

-- the pairs of a cycle come with the last of its records
abbrev pub cycle_pairs : List Item → Records → List Pair
cycle_pairs items recs = if waits items recs then [] else all_on 0 (written_by (after_cycles items recs))

-- at the end, those of a cycle that waits
abbrev pub waiting_pairs : List Item → Records → List Pair
waiting_pairs items recs = if waits items recs then all_on 0 (written_by (after_input items recs)) else []

-- and those of the EOF list
abbrev pub eof_pairs : List Item → Option (List Item) → Records → List Pair
eof_pairs items None recs = []
eof_pairs items (Some eof) recs = all_on 0 (written_by (after_all items (Some eof) recs))

-- without READ it has no pairs at the end where there is no EOF list, whatever that holds
abbrev pub specs_last : List Item → Option (List Item) → Option (Records → List Pair)
specs_last items eof = if reads items == 0 && is_none eof then None else Some (λ recs. waiting_pairs items recs ++ eof_pairs items eof recs)

-- a fault ends it: without READ at the sight of the record, with READ after that was taken
abbrev pub specs : List Item → Option (List Item) → Stream
specs items eof = record {
  before = [];
  outs = Pairs (cycle_pairs items);
  last = specs_last items eof;
  stops = λ recs. not (reads items == 0) && is_none (so_far items recs);
  halts = λ recs. reads items == 0 && is_none (so_far items recs);
  code = λ recs. if is_none (after_all items eof recs) then pos 8 else pos 0;
}

abbrev pub specs_order : List Item → Order
specs_order items = if reads items == 0 then WritesFirst else TakesFirst
