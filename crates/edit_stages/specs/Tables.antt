-- Tables that hold something for each byte.
use Rattle.std.specs.Prelude.{◌≡◌, ◌<◌, ℕ, List, length, get_or}

-- what the function says of each byte
pub record IsTable {X : Type 0} (f : ℕ → X) (table : List X) : Type 0 where
  pub whole : length table ≡ 256
  pub says : (b : ℕ) (d : X) → b < 256 → get_or table b d ≡ f b
