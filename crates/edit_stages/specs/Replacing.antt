-- Occurrences of a string that are replaced one after another.
use Rattle.std.specs.Prelude.{◌≡◌, ℕ, ◌+◌, ◌-◌, ◌<◌, ◌≤◌, List, ◌++◌, length, take, drop}
use Rattle.std.specs.declared.option.Option.{Option}
use Rattle.std.specs.declared.option.Option.TheVariants.{Some, None}
use Rattle.pipe_model.specs.EditingRows.{replaced}

-- the next of so many occurrences in a text, where one is left to be replaced
abbrev pub IsNext : List ℕ → ℕ → List ℕ → Option ℕ → Type 0
IsNext string left text None = (put : List ℕ) → replaced string put left 0 text ≡ text
IsNext string left text (Some place) = (0 < left) × (place + length string ≤ length text)
    × ((put : List ℕ) → replaced string put left 0 text ≡ take place text ++ (put ++ replaced string put (left - 1) 0 (drop (place + length string) text)))
