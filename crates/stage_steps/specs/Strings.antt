-- Where a string stands in a record.
use Rattle.std.specs.Prelude.{◌≡◌, ◌<◌, ◌≤◌, ℕ, true, List, length, drop}
use Rattle.std.specs.declared.option.Option.{Option}
use Rattle.std.specs.declared.option.Option.TheVariants.{Some, None}
use Rattle.pipe_model.specs.Search.{begins}

-- the rest of the record from this place on begins with the string
abbrev pub StandsAt : List ℕ → List ℕ → ℕ → Type 0
StandsAt string rec k = (k ≤ length rec) × (begins string (drop k rec) ≡ true)

-- the first place where the string stands, or none where it stands nowhere
abbrev pub IsFirstPlace : List ℕ → List ℕ → Option ℕ → Type 0
IsFirstPlace string rec None = (k : ℕ) → ¬ StandsAt string rec k
IsFirstPlace string rec (Some k) = StandsAt string rec k × ((j : ℕ) → j < k → ¬ StandsAt string rec j)
