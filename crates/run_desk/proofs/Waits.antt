-- How many records wait in the queues of a desk after a turn, and after a strand came home.
use Rattle.std.proofs.Common.{◌≡◌, ℕ, ◌+◌, ◌≤◌, List, [], ◌∷◌, length, drop, refl, ◌∙◌, ap, arith, Option, Some, None, slice_get}
use Rattle.std.specs.Option.{option_map}
use Rattle.pipe_model.specs.declared.step.Seen.{Seen}
use Rattle.pipe_model.specs.declared.step.Seen.TheVariants.{Took, Put, Refused, Ended}
use Rattle.pipe_model.specs.declared.step.Want.{Want}
use Rattle.pipe_model.specs.declared.step.Want.TheVariants as want
use Rattle.pipe_model.proofs.Lists.{length_more}
use Rattle.record_pool.specs.PoolState.{PoolState}
use Rattle.connectors.specs.WireState.{WireState, taken, settled, cleared, lined_up, waiting_in}
use Rattle.run_desk.specs.Desk.{DeskState}
use Rattle.run_desk.specs.Telling.{inputs_of, outputs_of, in_door, out_door, through}
use Rattle.run_desk.specs.Holding.{waiting_of}
use Rattle.run_desk.specs.Turns.{list_changed_behind, in_shut, out_shut, wires_changed, desk_after_turn, offers, HasCome}
use Rattle.run_desk.proofs.Counts.{sum_still, sum_behind, same_behind, sum_all_still}

-- how many records wait on a wire
abbrev waits : WireState → ℕ
waits wire = length (waiting_in wire.queue)

-- a change that lets at most one more wait behind a door
one_more_waits : (f : WireState → WireState) → ((wire : WireState) → waits (f wire) ≤ waits wire + 1) → (wires : List WireState) (door : Option ℕ) →
    waiting_of (list_changed_behind wires f door) ≤ waiting_of wires + 1
one_more_waits f each wires door = by_wire (through wires door) refl
  where
    by_wire : (x : Option WireState) → through wires door ≡ x → waiting_of (list_changed_behind wires f door) ≤ waiting_of wires + 1
    by_wire None at = let same : waiting_of (list_changed_behind wires f door) ≡ waiting_of wires = ap waiting_of (same_behind f wires door at) in omega (arith, same)
    by_wire (Some wire) at = omega (arith, sum_behind waits f wires door wire at, each wire)

taken_waits : (wire : WireState) → waits (taken wire) ≤ waits wire + 1
taken_waits wire = by_queue wire.queue
  where
    by_queue : (q : Option (List ℕ)) → length (waiting_in (option_map (drop 1) q)) ≤ length (waiting_in q) + 1
    by_queue None = omega arith
    by_queue (Some []) = omega arith
    by_queue (Some (grip ∷ more)) = omega arith

settled_waits : (wire : WireState) → waits (settled wire) ≤ waits wire + 1
settled_waits wire = by_queue wire.queue wire.offer
  where
    by_queue : (q : Option (List ℕ)) (offer : Option ℕ) → length (waiting_in (lined_up q offer)) ≤ length (waiting_in q) + 1
    by_queue None offer = omega arith
    by_queue (Some waiting) None = omega arith
    by_queue (Some waiting) (Some grip) = omega (arith, length_more waiting grip)

-- a turn lets at most one more wait
pub waiting_made : (d : DeskState) (s : ℕ) (seen : Seen) → waiting_of (desk_after_turn d s seen).wires ≤ waiting_of d.wires + 1
waiting_made d s (Took i) = one_more_waits taken taken_waits d.wires (in_door d s i)
waiting_made d s (Put o) = one_more_waits settled settled_waits d.wires (out_door d s o)
waiting_made d s (Refused o) = omega (arith, sum_still waits cleared (λ wire. refl) d.wires (out_door d s o))
waiting_made d s (Ended code) =
    let ins = inputs_of (slice_get d.doors s) in
    let outs = outputs_of (slice_get d.doors s) in
    omega (arith, sum_all_still waits in_shut (λ wire. refl) ins (wires_changed out_shut outs d.wires), sum_all_still waits out_shut (λ wire. refl) outs d.wires)
waiting_made d s _ = omega arith

-- a strand that comes home lets none
pub waiting_home : (d new : DeskState) (pool after : PoolState) (s : ℕ) (w : Want) → HasCome d pool s w new after → waiting_of new.wires ≡ waiting_of d.wires
waiting_home d new pool after s (want.Write o out) came =
    ap (λ (z : DeskState). waiting_of z.wires) came.home ∙ sum_still waits (offers came.grip) (λ wire. refl) d.wires (out_door d s o)
waiting_home d new pool after s _ came = ap (λ (z : DeskState). waiting_of z.wires) came.0
