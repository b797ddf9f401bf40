-- The runs of a list of records: adjacent ones of one key.
use Rattle.std.specs.Prelude.{◌≡◌, ℕ, Bool, true, false, List, [], ◌∷◌, flat_map}
use Rattle.std.specs.List.{list_all}
use Rattle.pipe_model.specs.declared.range.Range.{Range}
use Rattle.pipe_model.specs.Shape.{Records}
use Rattle.pipe_model.specs.Ranges.{part_of}
use Rattle.pipe_model.specs.Keys.{is_same}

-- the records have the same part by the range
abbrev pub have_one_key : Range → List ℕ → List ℕ → Bool
have_one_key range rec other = is_same (part_of range rec) (part_of range other)

-- there are records in it, and all have the key of the first
abbrev pub IsOfOneKey : Range → Records → Type 0
IsOfOneKey range [] = ⊥
IsOfOneKey range (rec ∷ run) = list_all (have_one_key range rec) run ≡ true

-- the next run begins with another key
abbrev pub EndsThere : Range → Records → List Records → Type 0
EndsThere range (rec ∷ run) ((next ∷ others) ∷ runs) = have_one_key range rec next ≡ false
EndsThere range run runs = Unit {0}

-- each is of one key, and the next one of another
abbrev pub AreKeyRuns : Range → List Records → Type 0
AreKeyRuns range [] = Unit {0}
AreKeyRuns range (run ∷ runs) = IsOfOneKey range run × EndsThere range run runs × AreKeyRuns range runs

-- all records of some runs, one after another
abbrev pub all_of : List Records → Records
all_of runs = flat_map (λ run. run) runs
