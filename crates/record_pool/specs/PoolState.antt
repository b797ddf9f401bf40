-- What a pool stands for. Above this crate it is taken as a whole, by the words of Places and Blocks.
use Rattle.std.specs.Prelude.{ℕ, ◌+◌, ◌-◌, List, [], Option}

-- the bytes of a record and the number of its holders
pub record Held : Type 0 where
  pub bytes : List ℕ
  pub holders : ℕ

-- the records by their places, each of which is empty or holds one, and how many places in queues are reserved or filled
pub record PoolState : Type 0 where
  pub records : List (Option Held)
  pub nodes : ℕ

-- a pool with no record and no node
abbrev pub empty_pool : PoolState
empty_pool = record { records = []; nodes = 0 }

-- the pool with one node more, and with one less
abbrev pub with_node : PoolState → PoolState
with_node pool = record pool { nodes = pool.nodes + 1 }

abbrev pub without_node : PoolState → PoolState
without_node pool = record pool { nodes = pool.nodes - 1 }
