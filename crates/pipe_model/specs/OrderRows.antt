-- The rows of UNIQUE, SORT and COUNT.
use Rattle.std.specs.Prelude.{ℕ, Bool, true, false, if◌then◌else◌, List, [], ◌∷◌, ◌++◌, length, map, flat_map, sum_by, decimal}
use Rattle.std.specs.List.{join_with_byte}
use Rattle.std.specs.declared.option.Option.TheVariants.{Some}
use Rattle.pipe_model.specs.declared.range.Range.{Range}
use Rattle.pipe_model.specs.declared.kind.Keep.{Keep}
use Rattle.pipe_model.specs.declared.kind.Keep.TheVariants.{First, Last, Singles, Multiple}
use Rattle.pipe_model.specs.declared.keys.SortKey.{SortKey}
use Rattle.pipe_model.specs.declared.keys.Total.{Total}
use Rattle.pipe_model.specs.declared.keys.Total.TheVariants.{Lines, Words, Bytes}
use Rattle.pipe_model.specs.Row.{Pair}
use Rattle.pipe_model.specs.Shape.{Records, Stream, Order, each_record}
use Rattle.pipe_model.specs.Shape.Order.{WritesFirst, TakesFirst}
use Rattle.pipe_model.specs.Keys.{is_less, is_same}
use Rattle.pipe_model.specs.Numbers.{in_ten_places}
use Rattle.pipe_model.specs.Counts.{all_on}
use Rattle.pipe_model.specs.Parts.{without_last, last_alone, grown, only_last}
use Rattle.pipe_model.specs.Ranges.{part_of, words_from}

-- UNIQUE

-- a record before the runs of those behind it: in the first of them where its key is the same, else a run of its own
abbrev pub onto_runs : Range → List ℕ → List Records → List Records
onto_runs range rec ((next ∷ run) ∷ runs) = if is_same (part_of range rec) (part_of range next) then (rec ∷ next ∷ run) ∷ runs else (rec ∷ []) ∷ (next ∷ run) ∷ runs
onto_runs range rec runs = (rec ∷ []) ∷ runs

-- the runs, which are adjacent records of equal key
abbrev pub runs_of : Range → Records → List Records
runs_of range [] = []
runs_of range (rec ∷ recs) = onto_runs range rec (runs_of range recs)

-- the record that is kept of a run of n records: with COUNT, their number stands before it
abbrev pub counted : Bool → ℕ → List ℕ → List ℕ
counted true n rec = in_ten_places n ++ rec
counted false n rec = rec

-- the pairs of a run
abbrev pub run_pairs : Bool → Keep → Records → List Pair
run_pairs count First (rec ∷ run) = (0, rec) ∷ all_on 1 run
run_pairs count Last run = all_on 1 (without_last run) ++ all_on 0 (map (counted count (length run)) (last_alone run))
run_pairs count Singles (rec ∷ []) = (0, rec) ∷ []
run_pairs count Singles run = all_on 1 run
run_pairs count Multiple (rec ∷ []) = (1, rec) ∷ []
run_pairs count Multiple run = all_on 0 run
run_pairs count keep [] = []

-- the pair of each record, where nothing follows the last one
abbrev pub unique_pairs : Bool → Range → Keep → Records → List Pair
unique_pairs count range keep recs = flat_map (run_pairs count keep) (runs_of range recs)

-- FIRST writes the record's pair at once; else it is written when the next record was taken, or at the end
abbrev pub unique : Bool → Range → Keep → Stream
unique count range First = each_record (λ recs. last_alone (unique_pairs count range First recs))
unique count range keep = record (each_record (grown (λ recs. without_last (unique_pairs count range keep recs)))) { last = Some (λ recs. last_alone (unique_pairs count range keep recs)) }

abbrev pub unique_order : Keep → Order
unique_order First = WritesFirst
unique_order keep = TakesFirst

-- SORT

-- the first record goes before the second, by the keys in turn
abbrev pub goes_before : List SortKey → List ℕ → List ℕ → Bool
goes_before [] rec other = false
goes_before (key ∷ keys) rec other = let a = part_of key.range rec in let b = part_of key.range other in
    if is_same a b then goes_before keys rec other else if key.descending then is_less b a else is_less a b

-- the record, put before the first that isn't to go before it
abbrev pub inserted : List SortKey → List ℕ → Records → Records
inserted keys rec [] = rec ∷ []
inserted keys rec (other ∷ recs) = if goes_before keys other rec then other ∷ inserted keys rec recs else rec ∷ other ∷ recs

-- in order, those of equal keys as they came
abbrev pub sorted : List SortKey → Records → Records
sorted keys [] = []
sorted keys (rec ∷ recs) = inserted keys rec (sorted keys recs)

abbrev pub sort : List SortKey → Stream
sort keys = only_last (λ recs. all_on 0 (sorted keys recs))

-- COUNT

abbrev pub total_of : Records → Total → ℕ
total_of recs Lines = length recs
total_of recs Words = sum_by (λ rec. length (words_from 0 rec)) recs
total_of recs Bytes = sum_by length recs

-- the totals in decimal, one blank between
abbrev pub totals_line : List Total → Records → List ℕ
totals_line totals recs = join_with_byte 32 (map (λ total. decimal (total_of recs total)) totals)

abbrev pub count : List Total → Stream
count totals = only_last (λ recs. (0, totals_line totals recs) ∷ [])
