-- The flags of all strands one after another, 64 for each: whether a place has a link.
use Rattle.std.specs.Prelude.{◌≡◌, ℕ, ◌+◌, ◌*◌, ◌<◌, Bool, false, List, length, get_or}

-- the flags tell which places of so many strands are linked
pub record AreFlags (flags : List Bool) (strands : ℕ) (is_linked : ℕ → ℕ → Bool) : Type 0 where
  pub size : length flags ≡ 64 * strands
  pub told : (strand place : ℕ) → strand < strands → place < 64 → get_or flags (64 * strand + place) false ≡ is_linked strand place
