-- What the calls of a connector are where it is a queue.
use Rattle.std.proofs.Common.{◌≡◌, ℕ, ◌+◌, ◌-◌, ◌<◌, List, [], ◌∷◌, drop, length, ap, refl, subst, arith}
use Rattle.std.specs.Prelude.{Some, None, IsSome, slice_get}
use Rattle.record_pool.specs.PoolState.{PoolState, without_node}
use Rattle.record_pool.specs.Queues.{QueueState, without_place, popped}
use Rattle.connectors.specs.WireState.{WireState, IsHeldIn, given_in, CanTake, CanEmpty, emptied, at_hand, hand_of}

-- the record at hand of a queue is the oldest
pub oldest_at_hand : (wire : WireState) (waiting : List ℕ) → wire.queue ≡ Some waiting → at_hand wire ≡ slice_get waiting 0
oldest_at_hand wire waiting is = ap (hand_of wire) is

pub may_take : (pool : PoolState) (wire : WireState) (waiting : List ℕ) → wire.queue ≡ Some waiting → CanTake pool wire wire.queue → IsHeldIn pool (slice_get waiting 0) × (0 < pool.nodes)
may_take pool wire waiting is can = subst (CanTake pool wire) is can

-- the place of what left a queue is given back
pub popped_whole : (queue : QueueState) → without_place (popped queue) ≡ record queue { waiting = drop 1 queue.waiting }
popped_whole queue = let same : queue.reserved + 1 - 1 ≡ queue.reserved = omega arith in
    ap (λ (n : ℕ). record queue { waiting = drop 1 queue.waiting; reserved = n }) same

-- the first of what waits may be given back, and then the rest
pub first_held : (waiting : List ℕ) (pool : PoolState) → IsSome (slice_get waiting 0) → CanEmpty waiting pool → IsHeldIn pool (slice_get waiting 0)
first_held [] pool some can = cc
first_held (grip ∷ more) pool some can = can.0

pub first_counted : (waiting : List ℕ) (pool : PoolState) → IsSome (slice_get waiting 0) → CanEmpty waiting pool → 0 < pool.nodes
first_counted [] pool some can = cc
first_counted (grip ∷ more) pool some can = can.1

pub rest_can : (waiting : List ℕ) (pool : PoolState) → IsSome (slice_get waiting 0) → CanEmpty waiting pool → CanEmpty (drop 1 waiting) (without_node (given_in pool (slice_get waiting 0)))
rest_can [] pool some can = cc
rest_can (grip ∷ more) pool some can = can.2

pub emptied_first : (waiting : List ℕ) (pool : PoolState) → IsSome (slice_get waiting 0) → emptied (drop 1 waiting) (without_node (given_in pool (slice_get waiting 0))) ≡ emptied waiting pool
emptied_first [] pool some = cc
emptied_first (grip ∷ more) pool some = refl

pub emptied_none : (waiting : List ℕ) (pool : PoolState) → slice_get waiting 0 ≡ None → emptied waiting pool ≡ pool
emptied_none [] pool none = refl
emptied_none (grip ∷ more) pool none = cc

pub drop_shorter : (waiting : List ℕ) → IsSome (slice_get waiting 0) → length (drop 1 waiting) < length waiting
drop_shorter [] some = cc
drop_shorter (grip ∷ more) some = omega arith
