-- Members of lists of numbers and of truth values.
use Rattle.std.specs.Prelude.{ℕ, Bool, false, ◌==◌, List, slice_get, unwrap_or}
use Rattle.std.specs.List.{list_any}

-- the number stands in the list
abbrev pub has : List ℕ → ℕ → Bool
has xs x = list_any (λ y. y == x) xs

-- the truth value at a place, which is false behind the end
abbrev pub flag_at : List Bool → ℕ → Bool
flag_at flags k = unwrap_or (slice_get flags k) false
