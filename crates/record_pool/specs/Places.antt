-- What a pool has at a place, and what a change of one record makes of it.
use Rattle.std.specs.Prelude.{◌≡◌, ◌≢◌, ℕ, ◌+◌, ◌-◌, zero, suc, nat_lt, List, [], ◌∷◌, Option, Some, None, IsSome, slice_index_or, if◌then◌else◌}
use Rattle.std.specs.Option.{option_map, option_map_or}
use Rattle.record_pool.specs.PoolState.{Held, PoolState}

-- what is at a place: past the last place nothing
abbrev pub place_at : List (Option Held) → ℕ → Option Held
place_at places p = slice_index_or places p None

-- what the pool has at the place of a grip
abbrev pub record_at : PoolState → ℕ → Option Held
record_at pool grip = place_at pool.records grip

-- the grip holds a record of the pool
abbrev pub IsHeld : PoolState → ℕ → Type 0
IsHeld pool grip = IsSome (record_at pool grip)

-- the bytes of a record at a place
abbrev pub bytes_of : Option Held → List ℕ
bytes_of place = option_map_or (λ (held : Held). held.bytes) place []

-- the bytes of the record that the grip holds
abbrev pub bytes_at : PoolState → ℕ → List ℕ
bytes_at pool grip = bytes_of (record_at pool grip)

-- the number of holders of the record at a place
abbrev pub holders_of : Option Held → ℕ
holders_of place = option_map_or (λ (held : Held). held.holders) place 0

-- the number of holders of the record that the grip holds
abbrev pub holders_at : PoolState → ℕ → ℕ
holders_at pool grip = holders_of (record_at pool grip)

-- a list of places, where only this one is changed: behind the last place others are empty
abbrev pub with_place : List (Option Held) → ℕ → Option Held → List (Option Held)
with_place [] zero now = now ∷ []
with_place [] (suc p) now = None ∷ with_place [] p now
with_place (place ∷ rest) zero now = now ∷ rest
with_place (place ∷ rest) (suc p) now = place ∷ with_place rest p now

-- the pool, where only what is at this place is changed
abbrev pub with_record : PoolState → ℕ → Option Held → PoolState
with_record pool grip now = record pool { records = with_place pool.records grip now }

-- what is at all other places is as before
abbrev pub OthersStay : PoolState → PoolState → ℕ → Type 0
OthersStay before after grip = (other : ℕ) → other ≢ grip → record_at after other ≡ record_at before other

-- a record of these bytes with one holder
abbrev pub fresh : List ℕ → Held
fresh bytes = record { bytes = bytes; holders = 1 }

-- one of these bytes with so many
abbrev pub refilled : List ℕ → ℕ → Held
refilled bytes holders = record { bytes = bytes; holders = holders }

-- a place after one holder more
abbrev pub one_more : Option Held → Option Held
one_more place = option_map (λ (held : Held). record held { holders = held.holders + 1 }) place

-- a place after one holder less: with the last one the record goes
abbrev pub one_less : Option Held → Option Held
one_less None = None
one_less (Some held) = if nat_lt 1 held.holders then Some (record held { holders = held.holders - 1 }) else None

-- the pool after the record was shared
abbrev pub shared : PoolState → ℕ → PoolState
shared pool grip = with_record pool grip (one_more (record_at pool grip))

-- the pool after a hold was given back
abbrev pub given : PoolState → ℕ → PoolState
given pool grip = with_record pool grip (one_less (record_at pool grip))
