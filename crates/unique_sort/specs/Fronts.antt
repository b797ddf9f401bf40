-- The fronts of keys as numbers, which go as the keys do.
use Rattle.std.specs.Prelude.{◌≡◌, ℕ, zero, suc, ◌+◌, ◌-◌, ◌*◌, ◌^◌, ◌%◌, ◌==◌, nat_lt, Bool, not, ◌&&◌, if◌then◌else◌, List, [], ◌∷◌, map}
use Rattle.pipe_model.specs.declared.keys.SortKey.{SortKey}
use Rattle.pipe_model.specs.OrderRows.{goes_before}
use Rattle.pipe_model.specs.Ranges.{part_of}
use Rattle.pipe_model.specs.Shape.{Records}
use Rattle.unique_sort.specs.declared.keyed.Keyed.{Keyed}

-- the first digit of a key, and what is behind it: nothing behind the end or an FF
abbrev pub digit : List ℕ → ℕ
digit [] = 0
digit (b ∷ key) = if nat_lt b 255 then b else 255

abbrev pub behind_digit : List ℕ → List ℕ
behind_digit [] = []
behind_digit (b ∷ key) = if nat_lt b 255 then key else []

-- so many digits behind those of n
abbrev pub front_on : ℕ → ℕ → List ℕ → ℕ
front_on zero n key = n
front_on (suc k) n key = front_on k (n * 256 + digit key) (behind_digit key)

-- the length of a key that ends within so many digits, and one more than these where it goes on or has an FF among them
abbrev pub reach : ℕ → List ℕ → ℕ
reach k [] = 0
reach zero (b ∷ key) = 1
reach (suc k) (b ∷ key) = if nat_lt b 255 then suc (reach k key) else suc (suc k)

-- seven digits, and as an eighth how far they reach
abbrev pub front : List ℕ → ℕ
front key = front_on 7 0 key * 256 + reach 7 key

-- that of the first key, the other way round where it descends
abbrev pub front_of : List SortKey → List ℕ → ℕ
front_of [] rec = 0
front_of (key ∷ keys) rec = let n = front (part_of key.range rec) in if key.descending then 2 ^ 64 - 1 - n else n

-- a front that has the whole key
abbrev pub is_whole : ℕ → Bool
is_whole n = let last = n % 256 in not (last == 8) && not (last == 247)

-- the keys by which records are still to be compared whose fronts are the same
abbrev pub keys_left : List SortKey → ℕ → List SortKey
keys_left [] n = []
keys_left (key ∷ keys) n = if is_whole n then keys else key ∷ keys

abbrev pub keyed_by : List SortKey → List ℕ → Keyed
keyed_by keys rec = record { front = front_of keys rec; rec = rec }

-- the record goes with the front of its first key
abbrev pub IsKeyed : List SortKey → Keyed → Type 0
IsKeyed keys keyed = keyed.front ≡ front_of keys keyed.rec

abbrev pub recs_in : List Keyed → Records
recs_in all = map (λ keyed. keyed.rec) all

-- the first goes before the second: by their fronts, and where these are the same by the keys that are left
abbrev pub keyed_before : List SortKey → Keyed → Keyed → Bool
keyed_before keys keyed other = if keyed.front == other.front then goes_before (keys_left keys keyed.front) keyed.rec other.rec else nat_lt keyed.front other.front
