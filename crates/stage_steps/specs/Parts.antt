-- What stands behind the first fields or words of a record.
use Rattle.std.specs.Prelude.{◌≡◌, ◌≤◌, ◌⊎◌, ◌-◌, ◌==◌, ℕ, List, [], length, drop}
use Rattle.std.specs.List.{slice_split}
use Rattle.pipe_model.specs.Ranges.{words_from}

-- the fields behind the first ones are those of the rest, or there are none
abbrev pub AreBehind : ℕ → List ℕ → List ℕ → Type 0
AreBehind count rec rest = (drop count (slice_split (λ b. b == 9) rec) ≡ slice_split (λ b. b == 9) rest) ⊎ ((drop count (slice_split (λ b. b == 9) rec) ≡ []) × (rest ≡ []))

-- the words behind the first ones are those of the rest
pub record WordsBehind (count : ℕ) (rec rest : List ℕ) : Type 0 where
  pub words : drop count (words_from 0 rec) ≡ words_from (length rec - length rest) rest
  pub rest_is : rest ≡ drop (length rec - length rest) rec
  pub within : length rest ≤ length rec
