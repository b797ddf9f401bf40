-- What FBLOCK, BLOCK and DEBLOCK cut from the bytes of all records, one after another.
use Rattle.std.specs.Prelude.{◌≡◌, ◌<◌, ◌+◌, ◌*◌, ℕ, false, List, [], ◌∷◌, ◌++◌, length, drop, map}
use Rattle.std.specs.List.{All, concat}
use Rattle.pipe_model.specs.Shape.{Records}
use Rattle.pipe_model.specs.Search.{begins, holds}
use Rattle.pipe_model.specs.BlockRows.{sf_begins}

-- blocks of n bytes each, and behind them a rest of fewer
pub record AreBlocks (n : ℕ) (bytes : List ℕ) (blocks : Records) (rest : List ℕ) : Type 0 where
  pub full : All (λ block. length block ≡ n) blocks
  pub fewer : length rest < n
  pub whole : concat blocks ++ rest ≡ bytes

-- in the part and the string behind it, the string stands nowhere further to the front
abbrev pub IsFree : List ℕ → List ℕ → Type 0
IsFree string part = (k : ℕ) → k < length part → begins string (drop k (part ++ string)) ≡ false

-- parts that each end before the first occurrence of the string, which is dropped, and behind them a rest in which it doesn't stand
pub record ArePartsAt (string bytes : List ℕ) (parts : Records) (rest : List ℕ) : Type 0 where
  pub each : All (IsFree string) parts
  pub none : holds string rest ≡ false
  pub whole : concat (map (λ part. part ++ string) parts) ++ rest ≡ bytes

-- records, each behind two bytes that give its length with them, the higher first; and behind them a rest that no whole record begins
abbrev pub AreMeasured : List ℕ → Records → List ℕ → Type 0
AreMeasured bytes [] rest = (bytes ≡ rest) × (sf_begins rest ≡ false)
AreMeasured bytes (rec ∷ recs) rest =
    (high low : ℕ) × (behind : List ℕ) × (bytes ≡ high ∷ low ∷ rec ++ behind) × (256 * high + low ≡ length rec + 2) × AreMeasured behind recs rest
