-- What the desk holds is held in the pool, by no more holders than a record can count.
use Rattle.std.proofs.Common.{◌≡◌, ℕ, ◌+◌, ◌≤◌, ◌<◌, Bool, true, false, cond, ◌==◌, List, [], ◌∷◌, length, refl, ◌∙◌, ap, arith, Option, Some, None, slice_get}
use Rattle.std.specs.Prelude.{IsSome, count_by}
use Rattle.std.specs.List.{sum_by}
use Rattle.std.proofs.lemmas.List.Sums.{count_by-le-length, sum_by-le-sum_by}
use Rattle.pipe_model.proofs.Numbers.{test_same}
use Rattle.record_pool.specs.PoolState.{PoolState}
use Rattle.record_pool.specs.Places.{holders_at}
use Rattle.connectors.specs.WireState.{WireState, IsHeldIn, CanTake, at_hand, hand_of, waiting_in, given_in}
use Rattle.run_desk.specs.Telling.{joined, through, sight_through}
use Rattle.run_desk.specs.Holding.{holds, offer_holds, queue_holds, waiting_of, IsPooled}
use Rattle.run_desk.specs.Turns.{list_changed_behind, hand_on, no_sight, CanForget}
use Rattle.run_desk.proofs.Counts.{one, places_in, count_unseen, count_some, count_first, sum_some}
use Rattle.run_desk.proofs.Pooled.{held_by, pooled_given}

-- a record has no more holders than there are wires, sights and records that wait
pub few_holders : (wires : List WireState) (sights : List (Option ℕ)) (pool : PoolState) → IsPooled wires sights pool → (grip : ℕ) → holders_at pool grip ≤ length wires + length sights + waiting_of wires
few_holders wires sights pool pooled grip =
    omega (arith, pooled.counted grip, count_by-le-length (offer_holds grip) wires, count_by-le-length (holds grip) sights, queued)
  where
    queued : sum_by (queue_holds grip) wires ≤ waiting_of wires
    queued = sum_by-le-sum_by (queue_holds grip) (λ (wire : WireState). length (waiting_in wire.queue)) wires (λ wire. count_by-le-length (λ held. held == grip) (waiting_in wire.queue))

-- the record of an offer is held
pub offers_held : (wires : List WireState) (sights : List (Option ℕ)) (pool : PoolState) → IsPooled wires sights pool → (k : ℕ) (wire : WireState) → slice_get wires k ≡ Some wire → IsHeldIn pool wire.offer
offers_held wires sights pool pooled k wire at = by_offer wire.offer refl
  where
    by_offer : (x : Option ℕ) → wire.offer ≡ x → IsHeldIn pool x
    by_offer None is = tt
    by_offer (Some grip) is =
        let some : 0 < count_by (offer_holds grip) wires = count_some (offer_holds grip) wires k wire at (ap (holds grip) is ∙ test_same grip) in
        held_by wires sights pool pooled grip (omega (arith, some))

-- and so is the one that has waited longest in a queue
pub oldest_held : (wires : List WireState) (sights : List (Option ℕ)) (pool : PoolState) → IsPooled wires sights pool → (k : ℕ) (wire : WireState) (waiting : List ℕ) → slice_get wires k ≡ Some wire →
    wire.queue ≡ Some waiting → IsHeldIn pool (slice_get waiting 0)
oldest_held wires sights pool pooled k wire [] at is = tt
oldest_held wires sights pool pooled k wire (grip ∷ more) at is =
    let here : queue_holds grip wire ≡ count_by (λ held. held == grip) (grip ∷ more) = ap (λ q. count_by (λ held. held == grip) (waiting_in q)) is in
    let some : 0 < sum_by (queue_holds grip) wires =
    sum_some (queue_holds grip) wires k wire at (omega (arith, here, count_first (λ held. held == grip) grip more, ap one (test_same grip))) in
    held_by wires sights pool pooled grip (omega (arith, some))

-- whose place is counted
pub oldest_counted : (wires : List WireState) (sights : List (Option ℕ)) (pool : PoolState) → IsPooled wires sights pool → (k : ℕ) (wire : WireState) (waiting : List ℕ) → slice_get wires k ≡ Some wire →
    wire.queue ≡ Some waiting → IsSome (slice_get waiting 0) → 0 < pool.nodes
oldest_counted wires sights pool pooled k wire [] at is some = cc
oldest_counted wires sights pool pooled k wire (grip ∷ more) at is some =
    let here : length (waiting_in wire.queue) ≡ length (grip ∷ more) = ap (λ q. length (waiting_in q)) is in
    omega (arith, pooled.nodes, sum_some places_in wires k wire at (omega (arith, here)))

-- so what is at hand may be taken
pub hand_taken : (wires : List WireState) (sights : List (Option ℕ)) (pool : PoolState) → IsPooled wires sights pool → (k : ℕ) (wire : WireState) → slice_get wires k ≡ Some wire → IsSome (at_hand wire) →
    CanTake pool wire wire.queue
hand_taken wires sights pool pooled k wire at hand = by_queue wire.queue refl hand
  where
    by_queue : (q : Option (List ℕ)) → wire.queue ≡ q → IsSome (hand_of wire q) → CanTake pool wire q
    by_queue None is shown = tt
    by_queue (Some waiting) is shown = (oldest_held wires sights pool pooled k wire waiting at is, oldest_counted wires sights pool pooled k wire waiting at is shown)

-- the record at hand is held
pub hands_held : (wires : List WireState) (sights : List (Option ℕ)) (pool : PoolState) → IsPooled wires sights pool → (door : Option ℕ) → IsHeldIn pool (hand_on (through wires door))
hands_held wires sights pool pooled None = tt
hands_held wires sights pool pooled (Some k) = by_wire (slice_get wires k) refl
  where
    by_test : (b : Bool) (wire : WireState) → IsHeldIn pool wire.offer → IsHeldIn pool (cond b wire.offer None)
    by_test true wire held = held
    by_test false wire held = tt

    by_queue : (wire : WireState) → slice_get wires k ≡ Some wire → (q : Option (List ℕ)) → wire.queue ≡ q → IsHeldIn pool (hand_of wire q)
    by_queue wire at None is = by_test (wire.puts == wire.tooks) wire (offers_held wires sights pool pooled k wire at)
    by_queue wire at (Some waiting) is = oldest_held wires sights pool pooled k wire waiting at is

    by_wire : (x : Option WireState) → slice_get wires k ≡ x → IsHeldIn pool (hand_on x)
    by_wire None at = tt
    by_wire (Some wire) at = by_queue wire at wire.queue refl

-- and so is that of a sight
pub sights_held : (wires : List WireState) (sights : List (Option ℕ)) (pool : PoolState) → IsPooled wires sights pool → (door : Option ℕ) → IsHeldIn pool (sight_through sights door)
sights_held wires sights pool pooled None = tt
sights_held wires sights pool pooled (Some k) = by_sight (slice_get sights k) refl
  where
    by_sight : (x : Option (Option ℕ)) → slice_get sights k ≡ x → IsHeldIn pool (joined x)
    by_sight None at = tt
    by_sight (Some None) at = tt
    by_sight (Some (Some grip)) at =
        let some : 0 < count_by (holds grip) sights = count_some (holds grip) sights k (Some grip) at (test_same grip) in
        held_by wires sights pool pooled grip (omega (arith, some))

-- so all sights of a strand can be given back, one by one
pub can_forget : (wires : List WireState) (doors sights : List (Option ℕ)) (pool : PoolState) → IsPooled wires sights pool → CanForget doors sights pool
can_forget wires [] sights pool pooled = tt
can_forget wires (door ∷ doors) sights pool pooled = (
  sights_held wires sights pool pooled door,
  can_forget wires doors (list_changed_behind sights no_sight door) (given_in pool (sight_through sights door))
      (pooled_given wires wires sights (list_changed_behind sights no_sight door) pool (sight_through sights door) pooled (λ grip. omega (arith, count_unseen grip sights door)) refl),
)
