-- What COUNT stands for.
use Rattle.std.specs.Prelude.{◌≡◌, ◌≤◌, ◌*◌, ◌+◌, ◌-◌, ◌^◌, min, ℕ, Bool, true, false, List, [], ◌∷◌, length, map, decimal}
use Rattle.std.specs.List.{All, join_with_byte}
use Rattle.std.specs.declared.option.Option.{Option}
use Rattle.std.specs.declared.option.Option.TheVariants.{Some, None}
use Rattle.pipe_model.specs.declared.keys.Total.{Total}
use Rattle.pipe_model.specs.declared.keys.Total.TheVariants.{Lines, Words, Bytes}
use Rattle.pipe_model.specs.OrderRows.{total_of, count}
use Rattle.pipe_model.specs.Ranges.{words_from}
use Rattle.pipe_model.specs.Row.{Act}
use Rattle.pipe_model.specs.Row.Act.{Writes}
use Rattle.pipe_model.specs.Shape.{Records, Stream}
use Rattle.unique_sort.specs.declared.count.Counts.{Counts}
use Rattle.unique_sort.specs.declared.count.Tally.{Tally}

-- what one record adds to a total
abbrev pub added_by : List ℕ → Total → ℕ
added_by rec Lines = 1
added_by rec Words = length (words_from 0 rec)
added_by rec Bytes = length rec

-- a tally with one more record; one that is full, which no records make it, stays so
abbrev pub tally_with : List ℕ → Tally → Tally
tally_with rec tally = record tally { sum = min (tally.sum + added_by rec tally.total) (2 ^ 128 - 1) }

-- a tally before the first record
abbrev pub fresh_tally : Total → Tally
fresh_tally total = record { total = total; sum = 0 }

-- the sums in decimal, one blank between
abbrev pub sums_line : List Tally → List ℕ
sums_line tallies = join_with_byte 32 (map (λ tally. decimal tally.sum) tallies)

-- the tally has what its total is of these records, which is far from full
abbrev pub IsTally : Records → Tally → Type 0
IsTally recs tally = (tally.sum ≡ total_of recs tally.total) × (tally.sum ≤ length recs * 2 ^ 64)

-- up to the end of input it counts
abbrev pub IsCounting : Bool → Counts → Records → Type 0
IsCounting false x recs = All (IsTally recs) x.tallies.items
IsCounting true x recs = Unit {0}

-- the act that is left, where the record of the totals is due
abbrev pub due_act : Bool → List ℕ → List Act
due_act false new = []
due_act true new = Writes 0 new ∷ []

abbrev pub CountsStand : Counts → Bool → Stream → Records → List Act → Type 0
CountsStand x over t recs acts = (t ≡ count (map (λ tally. tally.total) x.tallies.items)) × IsCounting over x recs × (acts ≡ due_act x.due x.new)

-- COUNT looks at records
abbrev pub counts_look : Counts → Bool
counts_look x = true

-- the record of the totals, where it was given
abbrev pub line_given : Bool → List ℕ → Option (List ℕ)
line_given true new = None
line_given false new = Some new

abbrev pub counts_made : Counts → Option (List ℕ)
counts_made x = line_given x.due x.new

abbrev pub due_count : Bool → ℕ
due_count false = 0
due_count true = 1
