-- How much of a pool is in use.
use Rattle.std.specs.Prelude.{ℕ, ◌+◌, ◌/◌, List, Option, Some, None, length, max}
use Rattle.std.specs.List.{sum_by}
use Rattle.record_pool.specs.PoolState.{Held, PoolState}

-- the blocks of 256 bytes of a record of so many bytes, at least one
abbrev pub blocks_of : ℕ → ℕ
blocks_of n = max 1 ((n + 255) / 256)

-- the blocks of what is at a place
abbrev pub blocks_at : Option Held → ℕ
blocks_at None = 0
blocks_at (Some held) = blocks_of (length held.bytes)

-- the blocks of all places
abbrev pub blocks_of_all : List (Option Held) → ℕ
blocks_of_all places = sum_by blocks_at places

-- the blocks of all records and nodes of the pool: a node has one
abbrev pub blocks_in : PoolState → ℕ
blocks_in pool = blocks_of_all pool.records + pool.nodes
