-- The longest runs of bytes that aren't in a set.
use Rattle.std.specs.Prelude.{◌≡◌, ℕ, ◌+◌, ◌<◌, ◌≤◌, List, [], ◌∷◌, length, take, drop}
use Rattle.std.specs.declared.option.Option.{Option}
use Rattle.std.specs.declared.option.Option.TheVariants.{Some, None}
use Rattle.pipe_model.specs.EditingRows.{runs}

-- the first run, behind so many bytes and so long, and the others are those of what stands behind it; or there is none
abbrev pub IsFirstRun : List ℕ → List ℕ → Option (ℕ × ℕ) → Type 0
IsFirstRun set text None = runs set text ≡ []
IsFirstRun set text (Some run) = (runs set text ≡ take run.1 (drop run.0 text) ∷ runs set (drop (run.0 + run.1) text)) × (0 < run.1) × (run.0 + run.1 ≤ length text)
