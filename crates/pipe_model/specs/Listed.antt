-- What a strand puts and takes by itself, where its whole lists of records alone decide it: as functions on these lists.
use Rattle.std.specs.Prelude.{◌≡◌, ℕ, Bool, true, false, ◌&&◌, ◌||◌, not, if◌then◌else◌, List, [], ◌∷◌, ◌++◌, ℤ, pos, filter, find, flat_map}
use Rattle.std.specs.List.{list_any, list_all}
use Rattle.std.specs.declared.option.Option.TheVariants.{None}
use Rattle.pipe_model.specs.declared.net.Strand.{Strand}
use Rattle.pipe_model.specs.declared.range.Range.{Range}
use Rattle.pipe_model.specs.declared.keys.SortKey.{SortKey}
use Rattle.pipe_model.specs.Event.{Event, records_on, taken_from, code_of}
use Rattle.pipe_model.specs.Row.{Pair}
use Rattle.pipe_model.specs.Shape.{Records, Outs, Stream, Shape, last_pairs, all_inputs}
use Rattle.pipe_model.specs.Shape.Outs.{Pairs, Endless}
use Rattle.pipe_model.specs.Shape.Shape.{Absent, Sources, Lists, Sinks, Queues}
use Rattle.pipe_model.specs.Form.{are_finite}
use Rattle.pipe_model.specs.Members.{flag_at}
use Rattle.pipe_model.specs.Ranges.{part_of}
use Rattle.pipe_model.specs.Keys.{is_less}
use Rattle.pipe_model.specs.Inputs.{records_from}
use Rattle.pipe_model.specs.Counts.{all_on}
use Rattle.pipe_model.specs.JoiningRows.{agree, looked_up, first_of_key, unmatched}
use Rattle.pipe_model.specs.OrderRows.{sorted}
use Rattle.pipe_model.specs.Alone.{Given}

-- One list of records

-- the pairs of the record at hand, where their list has an end
abbrev pub pairs_at : Outs → Records → List Pair
pairs_at (Pairs outs) recs = outs recs
pairs_at (Endless pair) recs = []

-- the pairs that the records behind some others cause, and those at the end of input
abbrev pub pairs_after : Stream → Records → Records → List Pair
pairs_after t recs [] = last_pairs t.last recs
pairs_after t recs (rec ∷ rest) =
    if t.halts (recs ++ rec ∷ []) then []
    else pairs_at t.outs (recs ++ rec ∷ []) ++ (if t.stops (recs ++ rec ∷ []) then [] else pairs_after t (recs ++ rec ∷ []) rest)

-- all pairs
abbrev pub pairs_of : Stream → Records → List Pair
pairs_of t recs = t.before ++ (if t.stops [] then [] else pairs_after t [] recs)

-- the records behind some others that it takes
abbrev pub taken_after : Stream → Records → Records → Records
taken_after t recs [] = []
taken_after t recs (rec ∷ rest) =
    if t.halts (recs ++ rec ∷ []) then []
    else rec ∷ (if t.stops (recs ++ rec ∷ []) then [] else taken_after t (recs ++ rec ∷ []) rest)

-- all records that it takes
abbrev pub taken_of : Stream → Records → Records
taken_of t recs = if t.stops [] then [] else taken_after t [] recs

-- the code with which it ends, behind some records
abbrev pub code_after : Stream → Records → Records → ℤ
code_after t recs [] = t.code recs
code_after t recs (rec ∷ rest) =
    if t.halts (recs ++ rec ∷ []) || t.stops (recs ++ rec ∷ []) then t.code (recs ++ rec ∷ [])
    else code_after t (recs ++ rec ∷ []) rest

abbrev pub ending_of : Stream → Records → ℤ
ending_of t recs = if t.stops [] then t.code [] else code_after t [] recs

-- What a history did

-- it put these pairs, each on its output, but those to outputs that aren't connected
pub record Puts (s : Strand) (h : List Event) (pairs : List Pair) : Type 0 where
  pub connected : (o : ℕ) → flag_at s.ports.has_output o ≡ true → records_on o h ≡ records_from o pairs
  pub others : (o : ℕ) → flag_at s.ports.has_output o ≡ false → records_on o h ≡ []

-- and took these records of input 0, and ended with this code
pub record Does (s : Strand) (h : List Event) (pairs : List Pair) (records : Records) (code : ℤ) : Type 0 where
  pub puts : Puts s h pairs
  pub taken : taken_from 0 h ≡ records
  pub ended : code_of h ≡ code

-- what a strand of the shape does by itself, where one list of records decides it and each of them causes a finite list of pairs
abbrev pub IsListed : Strand → Shape → Given → List Event → Type 0
IsListed s Absent g h = Does s h [] [] (pos 28)
IsListed s (Sources pairs) g h = Does s h pairs [] (pos 0)
IsListed s (Lists order t) g h = are_finite (t s.ports.has_output).outs ≡ true →
    Does s h (pairs_of (t s.ports.has_output) (g.inputs 0)) (taken_of (t s.ports.has_output) (g.inputs 0)) (ending_of (t s.ports.has_output) (g.inputs 0))
IsListed s (Sinks keeping) g h = Does s h (all_on 0 (g.inputs 0)) (g.inputs 0) (pos 0)
IsListed s Queues g h = Does s h (all_on 0 (g.inputs 0)) (g.inputs 0) (pos 0)
IsListed s _ g h = Unit {0}

-- its outputs take all
abbrev pub IsUnlimited : Given → Type 0
IsUnlimited g = (o : ℕ) → g.limits o ≡ None

-- FANIN: its inputs one after another
abbrev pub fan_in_pairs : (ℕ → Records) → ℕ → List Pair
fan_in_pairs inputs n = all_on 0 (flat_map inputs (all_inputs n))

-- LOOKUP: each detail with the first master of its key, or else alone; and behind them the masters that no detail matched
abbrev pub lookup_pairs : Range → Range → Records → Records → List Pair
lookup_pairs of_detail of_master details masters =
    flat_map (λ detail. looked_up detail (find (λ master. agree of_master of_detail master detail) masters)) details
    ++ all_on 2 (unmatched of_master of_detail (first_of_key of_master masters) details)

-- Records in order

-- none has a lesser key than one before it
abbrev pub are_sorted : Range → Records → Bool
are_sorted range [] = true
are_sorted range (rec ∷ recs) = list_all (λ later. not (is_less (part_of range later) (part_of range rec))) recs && are_sorted range recs

-- no two have one key
abbrev pub are_distinct : Range → Records → Bool
are_distinct range [] = true
are_distinct range (rec ∷ recs) = not (list_any (agree range range rec) recs) && are_distinct range recs

-- the key of a range, from the least on
abbrev pub ascending : Range → SortKey
ascending range = record { range = range; descending = false }

-- MERGE, where each input is sorted: what SORT makes of its inputs one after another
abbrev pub merge_pairs : Range → (ℕ → Records) → ℕ → List Pair
merge_pairs range inputs n = all_on 0 (sorted (ascending range ∷ []) (flat_map inputs (all_inputs n)))

-- a master before its details, if it has any
abbrev pub headed : List ℕ → Records → Records
headed master [] = []
headed master (detail ∷ details) = master ∷ detail ∷ details

-- COLLATE, where both inputs are sorted and no two masters have one key: each master with details, and they behind it; the masters without; the details without
abbrev pub collate_pairs : Range → Range → Records → Records → List Pair
collate_pairs of_master of_detail masters details =
    all_on 0 (flat_map (λ master. headed master (filter (agree of_master of_detail master) details)) masters)
    ++ (all_on 1 (unmatched of_master of_detail masters details)
    ++ all_on 2 (filter (λ detail. not (list_any (λ master. agree of_master of_detail master detail) masters)) details))
