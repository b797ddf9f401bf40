-- The rows of LOOKUP, COLLATE and MERGE.
use Rattle.std.specs.Prelude.{ℕ, ◌==◌, nat_lt, Bool, false, ◌&&◌, ◌||◌, not, if◌then◌else◌, List, [], ◌∷◌, ◌++◌, length, filter, find}
use Rattle.std.specs.List.{list_any, list_all}
use Rattle.std.specs.declared.option.Option.{Option}
use Rattle.std.specs.declared.option.Option.TheVariants.{Some, None}
use Rattle.pipe_model.specs.declared.range.Range.{Range}
use Rattle.pipe_model.specs.Event.{Event}
use Rattle.pipe_model.specs.Event.Event.{Saw, SawEnd}
use Rattle.pipe_model.specs.Ranges.{part_of}
use Rattle.pipe_model.specs.Keys.{is_less, is_same}
use Rattle.pipe_model.specs.Row.{Pair}
use Rattle.pipe_model.specs.Shape.{Records, Turning, Rounding, records_of}
use Rattle.pipe_model.specs.Counts.{all_on}
use Rattle.pipe_model.specs.Inputs.{records_from, at_hand_causes}

-- a master and a detail have one key: the part of each that its range names
abbrev pub agree : Range → Range → List ℕ → List ℕ → Bool
agree of_master of_detail master detail = is_same (part_of of_master master) (part_of of_detail detail)

-- LOOKUP: details come on input 0, masters on input 1

-- of masters with one key the first
abbrev pub first_of_key : Range → Records → Records
first_of_key range [] = []
first_of_key range (master ∷ masters) = master ∷ filter (λ later. not (agree range range master later)) (first_of_key range masters)

-- a detail, and the master with its key
abbrev pub looked_up : List ℕ → Option (List ℕ) → List Pair
looked_up detail None = all_on 1 (detail ∷ [])
looked_up detail (Some master) = all_on 0 (detail ∷ master ∷ [])

-- of some masters those that no detail matched
abbrev pub unmatched : Range → Range → Records → Records → Records
unmatched of_master of_detail masters details = filter (λ master. not (list_any (agree of_master of_detail master) details)) masters

-- it reads the masters to their end, and then the details
abbrev pub looking_up : Range → Range → Turning
looking_up of_detail of_master = record {
  order = λ inputs seen. 1 ∷ 0 ∷ [];
  outs = λ seen. at_hand_causes (λ i rec. if i == 1 then [] else looked_up rec (find (λ master. agree of_master of_detail master rec) (records_from 1 seen))) seen;
  last = λ seen. all_on 2 (unmatched of_master of_detail (first_of_key of_master (records_from 1 seen)) (records_from 0 seen));
}

-- COLLATE: masters come on input 0, details on input 1

-- the detail in sight when a master was seen, by what was told before: the last one, unless the details had ended
abbrev pub detail_then : List Event → Records
detail_then [] = []
detail_then (Saw i rec ∷ told) = if i == 1 then rec ∷ [] else detail_then told
detail_then (SawEnd i ∷ told) = if i == 1 then [] else detail_then told
detail_then (_ ∷ told) = detail_then told

-- the details that were or are in sight together with the master in sight, the latest first
abbrev pub beside_master : List Event → Records
beside_master [] = []
beside_master (Saw i rec ∷ told) = if i == 0 then detail_then told else rec ∷ beside_master told
beside_master (_ ∷ told) = beside_master told

-- those of them that have its key
abbrev pub matches : Range → Range → Records → List Event → Records
matches of_master of_detail masters told = filter (λ detail. list_any (λ master. agree of_master of_detail master detail) masters) (beside_master told)

-- what a turn is about
pub data Turn : Type 0 where
  -- the keys are equal
  Match : Turn
  -- the master's key is less, or no detail is in sight
  Master : Turn
  -- the detail's key is less, or no master is in sight
  Detail : Turn

-- by the master and the detail in sight
abbrev pub turn_of : Range → Range → Records → Records → Turn
turn_of of_master of_detail [] details = Detail
turn_of of_master of_detail (master ∷ _) [] = Master
turn_of of_master of_detail (master ∷ _) (detail ∷ _) =
    if agree of_master of_detail master detail then Match
    else if is_less (part_of of_master master) (part_of of_detail detail) then Master
    else Detail

-- the pairs of a turn, by the master and the detail in sight, and how many details have matched the master so far
abbrev pub collated : Turn → Records → Records → ℕ → List Pair
collated Match master detail n = all_on 0 (if n == 1 then master ++ detail else detail)
collated Master master detail n = all_on 1 (if n == 0 then master else [])
collated Detail master detail n = all_on 2 detail

-- the input whose record a turn takes
abbrev pub taken_in : Turn → ℕ
taken_in Match = 1
taken_in Master = 0
taken_in Detail = 1

abbrev pub turn_in : Range → Range → List Pair → Turn
turn_in of_master of_detail sight = turn_of of_master of_detail (records_from 0 sight) (records_from 1 sight)

abbrev pub collating : Range → Range → Rounding
collating of_master of_detail = record {
  strict = false;
  outs = λ k. collated (turn_in of_master of_detail k.sight) (records_from 0 k.sight) (records_from 1 k.sight)
      (length (matches of_master of_detail (records_from 0 k.sight) k.told));
  takes = λ k i. i == taken_in (turn_in of_master of_detail k.sight);
}

-- MERGE

-- of two records in sight the one goes first: its key is less, or it is the same and its input's number is
abbrev pub goes_first : Range → Pair → Pair → Bool
goes_first range p q = is_less (part_of range p.1) (part_of range q.1) || (agree range range p.1 q.1 && nat_lt p.0 q.0)

-- none of the records in sight goes before this one
abbrev pub is_least : Range → List Pair → Pair → Bool
is_least range sight p = list_all (λ q. not (goes_first range q p)) sight

abbrev pub merging : Range → Rounding
merging range = record {
  strict = false;
  outs = λ k. all_on 0 (records_of (filter (is_least range k.sight) k.sight));
  takes = λ k i. list_any (λ p. p.0 == i && is_least range k.sight p) k.sight;
}
