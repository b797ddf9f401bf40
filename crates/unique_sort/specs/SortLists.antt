-- What SORT stands for.
use Rattle.std.specs.Prelude.{◌≡◌, Bool, true, false, List, [], reverse}
use Rattle.std.specs.List.{All}
use Rattle.pipe_model.specs.Counts.{all_on}
use Rattle.pipe_model.specs.OrderRows.{sort}
use Rattle.pipe_model.specs.Row.{Act}
use Rattle.pipe_model.specs.Shape.{Records, Stream, writes}
use Rattle.unique_sort.specs.declared.sort.Sorts.{Sorts}
use Rattle.unique_sort.specs.Fronts.{IsKeyed, recs_in}

-- up to the end of input it holds the records as they came, and then those that are left to give, the last of them first
abbrev pub IsSorting : Bool → Sorts → Records → List Act → Type 0
IsSorting false x recs acts = (recs_in x.records.items ≡ recs) × All (IsKeyed x.keys) x.records.items × (acts ≡ [])
IsSorting true x recs acts = acts ≡ writes (all_on 0 (recs_in (reverse x.records.items)))

abbrev pub SortsStand : Sorts → Bool → Stream → Records → List Act → Type 0
SortsStand x over t recs acts = (t ≡ sort x.keys) × (x.is_over ≡ over) × IsSorting over x recs acts

-- SORT looks at records
abbrev pub sorts_look : Sorts → Bool
sorts_look x = true
