-- The run at hand, record by record, and the pair of each record by its place in its run.
use Rattle.std.specs.Prelude.{◌≡◌, ℕ, ◌+◌, ◌<◌, ◌==◌, nat_lt, Bool, true, ◌&&◌, if◌then◌else◌, List, [], fold}
use Rattle.pipe_model.specs.declared.range.Range.{Range}
use Rattle.pipe_model.specs.declared.kind.Keep.{Keep}
use Rattle.pipe_model.specs.declared.kind.Keep.TheVariants.{First, Last, Singles, Multiple}
use Rattle.pipe_model.specs.Keys.{is_same}
use Rattle.pipe_model.specs.OrderRows.{counted}
use Rattle.pipe_model.specs.Ranges.{part_of}
use Rattle.pipe_model.specs.Row.{Pair}
use Rattle.pipe_model.specs.Shape.{Records}
use Rattle.unique_sort.specs.declared.run.Run.{Run}

-- how many records a run has so far, and the last of them; no record before the first one
abbrev pub RunSoFar : Type 0
RunSoFar = ℕ × List ℕ

-- one more record belongs to the run
abbrev pub goes_on : Range → RunSoFar → List ℕ → Bool
goes_on range run rec = nat_lt 0 run.0 && is_same (part_of range run.1) (part_of range rec)

-- the run with one more record, or the next one, which begins with it
abbrev pub run_with : Range → RunSoFar → List ℕ → RunSoFar
run_with range run rec = (if goes_on range run rec then run.0 + 1 else 1, rec)

-- the last run of some records
abbrev pub last_run : Range → Records → RunSoFar
last_run range recs = fold (run_with range) (0, []) recs

-- the value has as many records, and their key where there are some
abbrev pub IsRunOf : Run → RunSoFar → Type 0
IsRunOf run so_far = (run.count ≡ so_far.0) × (0 < so_far.0 → run.key.items ≡ part_of run.range so_far.1)

-- the output of the k-th record of a run, which ends with it or doesn't
abbrev pub output_in : Keep → ℕ → Bool → ℕ
output_in First k ends = if k == 1 then 0 else 1
output_in Last k ends = if ends then 0 else 1
output_in Singles k ends = if ends && k == 1 then 0 else 1
output_in Multiple k ends = if ends && k == 1 then 1 else 0

-- what is written of it: with COUNT, the number of the records of its run before the last one
abbrev pub written_in : Bool → Keep → ℕ → Bool → List ℕ → List ℕ
written_in count Last k true rec = counted count k rec
written_in count keep k ends rec = rec

abbrev pub pair_in : Bool → Keep → ℕ → Bool → List ℕ → Pair
pair_in count keep k ends rec = (output_in keep k ends, written_in count keep k ends rec)
