-- How a pool knows its empty places.
use Rattle.std.specs.Prelude.{◌≡◌, ℕ, ◌+◌, ◌≤◌, ◌==◌, zero, suc, List, [], ◌∷◌, Option, Some, None, is_some, length, count_by}
use Rattle.record_pool.specs.PoolState.{Held}

-- 1 for an empty place
abbrev pub vacancy : Option Held → ℕ
vacancy None = 1
vacancy (Some held) = 0

-- 1 where there is such a place and it is empty, else 0
abbrev pub vacancy_at : List (Option Held) → ℕ → ℕ
vacancy_at [] p = 0
vacancy_at (place ∷ rest) zero = vacancy place
vacancy_at (place ∷ rest) (suc p) = vacancy_at rest p

-- how often a number is among these
abbrev pub times : ℕ → List ℕ → ℕ
times p list = count_by (λ q. q == p) list

-- each empty place is listed once and no other number is; and there is room to list all places
pub record IsKept (places : List (Option Held)) (free : List ℕ) (capacity : ℕ) : Type 0 where
  pub vacant : (p : ℕ) → times p free ≡ vacancy_at places p
  pub apart : length free + count_by is_some places ≡ length places
  pub room : length places ≤ capacity
