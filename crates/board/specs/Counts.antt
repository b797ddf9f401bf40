-- How often a place stands in a list, and the numbers that all passes of a board have together. It serves the inside.
use Rattle.std.specs.Prelude.{ℕ, zero, suc, ◌+◌, ◌-◌, List, ◌==◌, count_by}
use Rattle.std.specs.List.{range_with_len}

-- how often the place stands in the list
abbrev pub times : ℕ → List ℕ → ℕ
times p l = count_by (λ q. q == p) l

-- the places of a journal of so many entries: 1, 2 and so on
abbrev pub places : ℕ → List ℕ
places n = range_with_len 1 n

-- those of the entries after the first m, where it has n
abbrev pub places_after : ℕ → ℕ → List ℕ
places_after m n = range_with_len (m + 1) (n - m)

-- 0 of 0, and 1 of every other number
abbrev pub signum : ℕ → ℕ
signum zero = 0
signum (suc n) = 1

-- the shares of all passes together
abbrev pub all_shares : ℕ
all_shares = 4294967296

-- the tries that all passes have together at the start
abbrev pub all_tries : ℕ
all_tries = 9223372036854775808
