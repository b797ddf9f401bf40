-- The order that a run keeps: who holds each record of the pool, and how far each wire is.
use Rattle.std.specs.Prelude.{◌≡◌, ◌<◌, ◌+◌, ◌==◌, ◌&&◌, not, nat_lt, ℕ, Bool, true, false, if◌then◌else◌, List, length, Option, Some, None, IsSome, is_some, slice_get, count_by}
use Rattle.std.specs.List.{sum_by}
use Rattle.pipe_model.specs.declared.net.Net.{Net}
use Rattle.pipe_model.specs.Event.{has_ended, in_sight}
use Rattle.pipe_model.specs.State.{Who, State, past}
use Rattle.pipe_model.specs.Licence.{Left}
use Rattle.record_pool.specs.PoolState.{Held, PoolState}
use Rattle.record_pool.specs.Places.{record_at, holders_at, bytes_at}
use Rattle.connectors.specs.WireState.{WireState, IsPaced, at_hand, waiting_in}
use Rattle.run_desk.specs.Desk.{DeskState}
use Rattle.run_desk.specs.Standing.{DeskStands}
use Rattle.run_desk.specs.Telling as Telling

-- an offer or a sight holds the record of a grip
abbrev pub holds : ℕ → Option ℕ → Bool
holds grip None = false
holds grip (Some held) = held == grip

abbrev pub offer_holds : ℕ → WireState → Bool
offer_holds grip wire = holds grip wire.offer

-- how often a queue holds it
abbrev pub queue_holds : ℕ → WireState → ℕ
queue_holds grip wire = count_by (λ held. held == grip) (waiting_in wire.queue)

-- how many offers, places in queues and sights hold it
abbrev pub holds_of : List WireState → List (Option ℕ) → ℕ → ℕ
holds_of wires sights grip = count_by (offer_holds grip) wires + sum_by (queue_holds grip) wires + count_by (holds grip) sights

-- how many records wait in queues
abbrev pub waiting_of : List WireState → ℕ
waiting_of wires = sum_by (λ (wire : WireState). length (waiting_in wire.queue)) wires

-- the places in queues that are filled or reserved
abbrev pub nodes_of : List WireState → ℕ
nodes_of wires = sum_by (λ (wire : WireState). length (waiting_in wire.queue) + (if wire.reserved then 1 else 0)) wires

-- the pool counts for each record the offers, queues and sights that hold it, has no record that none holds, and counts the places in queues
pub record IsPooled (wires : List WireState) (sights : List (Option ℕ)) (pool : PoolState) : Type 0 where
  pub counted : (grip : ℕ) → holders_at pool grip ≡ holds_of wires sights grip
  pub alive : (grip : ℕ) (held : Held) → record_at pool grip ≡ Some held → 0 < held.holders
  pub nodes : pool.nodes ≡ nodes_of wires

-- a rendezvous has as many records taken as put, or one more, and a queue as many put as were taken and wait; a place is reserved exactly for what is offered
-- on a queue; and where a strand has seen a record and not taken it, the record is still at hand
pub record IsPacing (st : State) (d : DeskState) : Type 0 where
  pub paced : (j : ℕ) (wire : WireState) → slice_get d.wires j ≡ Some wire → IsPaced wire.offer wire.puts wire.tooks wire.queue
  pub roomy : (j : ℕ) (wire : WireState) → slice_get d.wires j ≡ Some wire → wire.reserved ≡ (is_some wire.queue && is_some wire.offer)
  pub shown : (s : Who) (i : ℕ) (wire : WireState) → has_ended (past st s) ≡ false → in_sight i (past st s) ≡ true → Telling.wire_in d s i ≡ Some wire → IsSome (at_hand wire)

-- the strands from this one on are out
abbrev pub out_from : ℕ → ℕ → Left
out_from s count = λ t. not (nat_lt t s) && nat_lt t count

-- the desk and the pool stand for the state, where these strands are out
pub record RunStands (net : Net) (st : State) (left : Left) (d : DeskState) (pool : PoolState) : Type 0 where
  pub kept : DeskStands net (bytes_at pool) st left d
  pub pooled : IsPooled d.wires d.sights pool
  pub pacing : IsPacing st d
