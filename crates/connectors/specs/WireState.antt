-- What a connector stands for, and what each call makes of it.
use Rattle.std.specs.Prelude.{◌≡◌, ◌⊎◌, ◌<◌, ℕ, ◌+◌, ◌-◌, ◌^◌, ◌==◌, List, [], ◌∷◌, ◌++◌, length, drop, slice_get, Option, Some, None, IsSome, is_some, Bool, true, false, not, ◌&&◌, if◌then◌else◌}
use Rattle.std.specs.Option.{option_map}
use Rattle.record_pool.specs.PoolState.{PoolState, with_node, without_node}
use Rattle.record_pool.specs.Places.{IsHeld, given}

-- the place of the record that is offered, how many were put and taken, which ends are closed, and of a queue the places of the records that were put and
-- not taken, the oldest first, and whether a place is reserved for one more
pub record WireState : Type 0 where
  pub offer : Option ℕ
  pub puts : ℕ
  pub tooks : ℕ
  pub out_closed : Bool
  pub in_closed : Bool
  pub queue : Option (List ℕ)
  pub reserved : Bool

-- a record is offered at a rendezvous, and was neither taken nor refused
abbrev pub waits : WireState → Bool
waits wire = not (is_some wire.queue) && ((wire.puts == wire.tooks) && (is_some wire.offer && not wire.in_closed))

-- a record was taken at a rendezvous and isn't put yet, and the consumer takes more
abbrev pub is_due : WireState → Bool
is_due wire = not (is_some wire.queue) && (not (wire.puts == wire.tooks) && not wire.in_closed)

-- of a rendezvous as many records were taken as were put, or one more, whose offer still stands; of a queue as many more were put as wait
abbrev pub IsPaced : Option ℕ → ℕ → ℕ → Option (List ℕ) → Type 0
IsPaced offer puts tooks None = (tooks ≡ puts) ⊎ ((tooks ≡ puts + 1) × IsSome offer)
IsPaced offer puts tooks (Some waiting) = puts ≡ tooks + length waiting

-- the record that the consumer may see: of a rendezvous the one offered, until it is taken, and of a queue the oldest
abbrev pub hand_of : WireState → Option (List ℕ) → Option ℕ
hand_of wire None = if wire.puts == wire.tooks then wire.offer else None
hand_of wire (Some waiting) = slice_get waiting 0

abbrev pub at_hand : WireState → Option ℕ
at_hand wire = hand_of wire wire.queue

-- a connector that nothing was written to, a queue or a rendezvous
abbrev pub new_wire : Bool → WireState
new_wire queue = record { offer = None; puts = 0; tooks = 0; out_closed = false; in_closed = false; queue = if queue then Some [] else None; reserved = false }

-- a queue with a place reserved for what will be offered
abbrev pub with_room : WireState → WireState
with_room wire = record wire { reserved = is_some wire.queue }

-- after an offer
abbrev pub offered : WireState → ℕ → WireState
offered wire grip = record wire { offer = Some grip }

-- the records that wait, with what was offered behind them
abbrev pub lined_up : Option (List ℕ) → Option ℕ → Option (List ℕ)
lined_up None offer = None
lined_up (Some waiting) None = Some waiting
lined_up (Some waiting) (Some grip) = Some (waiting ++ grip ∷ [])

-- after the record at hand was taken
abbrev pub taken : WireState → WireState
taken wire = record wire { tooks = wire.tooks + 1; queue = option_map (drop 1) wire.queue }

-- after the record that was offered was put: of a rendezvous it was taken before, and in a queue it waits
abbrev pub settled : WireState → WireState
settled wire = record wire { offer = None; puts = wire.puts + 1; queue = lined_up wire.queue wire.offer; reserved = false }

-- after the record that was taken was put, and the next one is offered by the same grip
abbrev pub offered_again : WireState → WireState
offered_again wire = record wire { puts = wire.puts + 1 }

-- and taken
abbrev pub taken_again : WireState → WireState
taken_again wire = record wire { puts = wire.puts + 1; tooks = wire.tooks + 1 }

-- after the offer was withdrawn
abbrev pub cleared : WireState → WireState
cleared wire = record wire { offer = None }

-- the record of the offer, if there is one, is held in the pool
abbrev pub IsHeldIn : PoolState → Option ℕ → Type 0
IsHeldIn pool None = Unit {0}
IsHeldIn pool (Some grip) = IsHeld pool grip

-- the pool after the offer, if there is one, was given back
abbrev pub given_in : PoolState → Option ℕ → PoolState
given_in pool None = pool
given_in pool (Some grip) = given pool grip

-- the pool after a place was reserved in the queue, if there is one
abbrev pub noded_in : PoolState → Option (List ℕ) → PoolState
noded_in pool None = pool
noded_in pool (Some waiting) = with_node pool

-- the pool after the record at hand was taken: of a queue its hold and its place are given back
abbrev pub pool_taken : PoolState → WireState → Option (List ℕ) → PoolState
pool_taken pool wire None = pool
pool_taken pool wire (Some waiting) = without_node (given_in pool (slice_get waiting 0))

-- and after the record that was offered was put: of a rendezvous its hold is given back
abbrev pub pool_settled : PoolState → WireState → Option (List ℕ) → PoolState
pool_settled pool wire None = given_in pool wire.offer
pool_settled pool wire (Some waiting) = pool

-- what a take asks of the pool: the record at hand is held, and the place of a queue is counted
abbrev pub CanTake : PoolState → WireState → Option (List ℕ) → Type 0
CanTake pool wire None = Unit {0}
CanTake pool wire (Some waiting) = IsHeldIn pool (slice_get waiting 0) × (0 < pool.nodes)

-- what it takes to put: of a rendezvous the record was taken, and of a queue one is offered and a place reserved
abbrev pub CanSettle : PoolState → WireState → Option (List ℕ) → Type 0
CanSettle pool wire None = (wire.tooks ≡ wire.puts + 1) × IsHeldIn pool wire.offer
CanSettle pool wire (Some waiting) = IsSome wire.offer × (wire.reserved ≡ true) × (wire.puts < 2 ^ 64 - 1)

-- a pool after a reserved place was given back, if there is one
abbrev pub unreserved : PoolState → Bool → PoolState
unreserved pool false = pool
unreserved pool true = without_node pool

abbrev pub CanUnreserve : PoolState → Bool → Type 0
CanUnreserve pool false = Unit {0}
CanUnreserve pool true = 0 < pool.nodes

-- a pool after all that waits in a queue was given back, each with its place
abbrev pub emptied : List ℕ → PoolState → PoolState
emptied [] pool = pool
emptied (grip ∷ more) pool = emptied more (without_node (given pool grip))

abbrev pub CanEmpty : List ℕ → PoolState → Type 0
CanEmpty [] pool = Unit {0}
CanEmpty (grip ∷ more) pool = IsHeld pool grip × (0 < pool.nodes) × CanEmpty more (without_node (given pool grip))

-- what waits
abbrev pub waiting_in : Option (List ℕ) → List ℕ
waiting_in None = []
waiting_in (Some waiting) = waiting

-- a pool after the end of a connector: its offer, the place that is reserved and all that waits were given back
abbrev pub drained : PoolState → WireState → PoolState
drained pool wire = emptied (waiting_in wire.queue) (unreserved (given_in pool wire.offer) wire.reserved)

pub record CanDrain (pool : PoolState) (wire : WireState) : Type 0 where
  pub offer : IsHeldIn pool wire.offer
  pub reserved : CanUnreserve (given_in pool wire.offer) wire.reserved
  pub waiting : CanEmpty (waiting_in wire.queue) (unreserved (given_in pool wire.offer) wire.reserved)
