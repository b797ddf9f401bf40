-- The pool's holders and places stay exact through a run: at a turn, where a strand comes home, and when all is given back at the end.
use Rattle.std.proofs.Common.{◌≡◌, ℕ, ◌+◌, ◌<◌, ◌&&◌, ◌==◌, Bool, true, false, List, [], ◌∷◌, ◌++◌, length, refl, sym, ◌∙◌, ap, subst, arith, Option, Some, None, slice_get, is_some}
use Rattle.std.specs.Prelude.{IsSome, count_by}
use Rattle.std.proofs.lemmas.List.Sums.{sum_by_push}
use Rattle.pipe_model.specs.declared.step.Out.TheVariants.{Same, Fresh}
use Rattle.pipe_model.specs.declared.step.Out.{Out}
use Rattle.pipe_model.specs.declared.step.Seen.{Seen}
use Rattle.pipe_model.specs.declared.step.Seen.TheVariants.{Up, Saw, Took, Put, Refused, Ended}
use Rattle.pipe_model.specs.declared.step.Want.{Want}
use Rattle.pipe_model.specs.declared.step.Want.TheVariants as want
use Rattle.pipe_model.proofs.Lists.{at_some, length_more}
use Rattle.pipe_model.proofs.Numbers.{test_same}
use Rattle.record_pool.specs.PoolState.{Held, PoolState, without_node}
use Rattle.record_pool.specs.Places.{record_at, place_at, IsHeld, holders_of, holders_at, bytes_at, with_record, fresh, shared, given}
use Rattle.record_pool.specs.Blocks.{blocks_in}
use Rattle.record_pool.proofs.Records.{no_blocks}
use Rattle.connectors.specs.WireState.{WireState, IsHeldIn, at_hand, hand_of, taken, settled, cleared, with_room, lined_up, waiting_in, given_in, noded_in, pool_taken, pool_settled, CanSettle, unreserved, CanUnreserve, emptied, CanEmpty, drained, CanDrain}
use Rattle.run_desk.specs.Desk.{DeskState}
use Rattle.run_desk.specs.Telling.{inputs_of, outputs_of, in_door, out_door, sights_of, sight_door, through, wire_in, wire_out, sight_through}
use Rattle.run_desk.specs.Holding.{holds, queue_holds, holds_of, nodes_of, IsPooled}
use Rattle.run_desk.specs.Turns.{list_changed_behind, offer_on, hand_on, pool_after_take, pool_after_put, pool_with_room, in_shut, out_shut, wires_changed, sights_seen, pool_seen, no_sight, sights_without, pool_without, desk_after_turn, pool_after_turn, Behind, HasSight, CanTurn, offers, IsHold, CanHold, CanCome, HasCome}
use Rattle.run_desk.proofs.Counts.{one, hold, wire_holds, places_in, count_first, count_last, sum_still, sum_behind, same_behind, sum_all_still, wires_hold, holds_behind, count_oldest, count_lined, count_unseen, count_seen}
use Rattle.run_desk.proofs.Gives.{holders_held, holders_given, nodes_given, alive_given, bytes_given, holders_shared, alive_shared, bytes_shared, holders_fresh, alive_fresh}

-- what an offer, a queue or a sight holds is held in the pool
pub held_by : (wires : List WireState) (sights : List (Option ℕ)) (pool : PoolState) → IsPooled wires sights pool → (grip : ℕ) → 0 < holds_of wires sights grip → IsHeld pool grip
held_by wires sights pool pooled grip some = holders_held pool grip (omega (arith, some, pooled.counted grip))

-- a place is reserved exactly for what is offered on a queue
abbrev pub IsRoomy : WireState → Type 0
IsRoomy wire = wire.reserved ≡ (is_some wire.queue && is_some wire.offer)

abbrev pub AreRoomy : List WireState → Type 0
AreRoomy wires = (j : ℕ) (wire : WireState) → slice_get wires j ≡ Some wire → IsRoomy wire

-- Holds

-- where a hold is given back, one offer, queue or sight less holds the record
counted_given : (wires now : List WireState) (sights later : List (Option ℕ)) (pool : PoolState) (x : Option ℕ) → IsPooled wires sights pool →
    ((grip : ℕ) → holds_of now later grip + hold grip x ≡ holds_of wires sights grip) → (grip : ℕ) → holders_at (given_in pool x) grip ≡ holds_of now later grip
counted_given wires now sights later pool x pooled less grip = omega (arith, holders_given pool x grip, pooled.counted grip, less grip)

pub pooled_given : (wires now : List WireState) (sights later : List (Option ℕ)) (pool : PoolState) (x : Option ℕ) → IsPooled wires sights pool →
    ((grip : ℕ) → holds_of now later grip + hold grip x ≡ holds_of wires sights grip) → nodes_of now ≡ nodes_of wires → IsPooled now later (given_in pool x)
pooled_given wires now sights later pool x pooled less same = record {
  counted = counted_given wires now sights later pool x pooled less;
  alive = alive_given pool x pooled.alive;
  nodes = nodes_given pool x ∙ pooled.nodes ∙ sym same;
}

-- and where its place in a queue is given back, too
pub pooled_popped : (wires now : List WireState) (sights : List (Option ℕ)) (pool : PoolState) (x : Option ℕ) → IsPooled wires sights pool →
    ((grip : ℕ) → holds_of now sights grip + hold grip x ≡ holds_of wires sights grip) → nodes_of now + 1 ≡ nodes_of wires → IsPooled now sights (without_node (given_in pool x))
pooled_popped wires now sights pool x pooled less fewer = record {
  counted = counted_given wires now sights sights pool x pooled less;
  alive = alive_given pool x pooled.alive;
  nodes = omega (arith, nodes_given pool x, pooled.nodes, fewer);
}

-- what is shared has one more hold
pub pooled_shared : (wires now : List WireState) (sights later : List (Option ℕ)) (pool : PoolState) (g : ℕ) → IsPooled wires sights pool → IsHeld pool g →
    ((grip : ℕ) → holds_of now later grip ≡ hold grip (Some g) + holds_of wires sights grip) → nodes_of now ≡ nodes_of wires → IsPooled now later (shared pool g)
pooled_shared wires now sights later pool g pooled held more same = record {
  counted = λ grip. holders_shared pool g grip held ∙ ap (λ n. hold grip (Some g) + n) (pooled.counted grip) ∙ sym (more grip);
  alive = alive_shared pool g pooled.alive;
  nodes = pooled.nodes ∙ sym same;
}

-- and what is new its first
pub pooled_fresh : (wires now : List WireState) (sights later : List (Option ℕ)) (pool : PoolState) (bytes : List ℕ) (g : ℕ) → IsPooled wires sights pool → record_at pool g ≡ None →
    ((grip : ℕ) → holds_of now later grip ≡ hold grip (Some g) + holds_of wires sights grip) → nodes_of now ≡ nodes_of wires → IsPooled now later (with_record pool g (Some (fresh bytes)))
pooled_fresh wires now sights later pool bytes g pooled free more same = record {
  counted = λ grip. holders_fresh pool bytes g grip free ∙ ap (λ n. hold grip (Some g) + n) (pooled.counted grip) ∙ sym (more grip);
  alive = alive_fresh pool bytes g pooled.alive;
  nodes = pooled.nodes ∙ sym same;
}

-- wires that hold the same and have as many places are as good
pub pooled_still : (wires now : List WireState) (sights : List (Option ℕ)) (pool : PoolState) → IsPooled wires sights pool →
    ((grip : ℕ) → holds_of now sights grip ≡ holds_of wires sights grip) → nodes_of now ≡ nodes_of wires → IsPooled now sights pool
pooled_still wires now sights pool pooled same places = record {
  counted = λ grip. pooled.counted grip ∙ sym (same grip);
  alive = pooled.alive;
  nodes = pooled.nodes ∙ sym places;
}

-- A turn

-- a look at a record shares it, and gives back the one that was seen before
look_at : (wires : List WireState) (sights : List (Option ℕ)) (pool : PoolState) (g k : ℕ) (sight : Option ℕ) → IsPooled wires sights pool → IsHeld pool g → slice_get sights k ≡ Some sight →
    IsPooled wires (list_changed_behind sights (λ old. Some g) (Some k)) (given_in (shared pool g) (sight_through sights (Some k)))
look_at wires sights pool g k sight pooled held at =
    let shares : IsPooled wires (Some g ∷ sights) (shared pool g) =
    pooled_shared wires wires sights (Some g ∷ sights) pool g pooled held (λ grip. omega (arith, count_first (holds grip) (Some g) sights)) refl in
    pooled_given wires wires (Some g ∷ sights) (list_changed_behind sights (λ old. Some g) (Some k)) (shared pool g) (sight_through sights (Some k)) shares
    (λ grip. omega (arith, count_first (holds grip) (Some g) sights, count_seen grip g sights k sight at)) refl

pooled_look : (wires : List WireState) (sights : List (Option ℕ)) (pool : PoolState) (door hand : Option ℕ) → IsPooled wires sights pool →
    ((grip : ℕ) → hand ≡ Some grip → HasSight sights door) → ((grip : ℕ) → hand ≡ Some grip → IsHeld pool grip) → IsPooled wires (sights_seen sights door hand) (pool_seen pool (sight_through sights door) hand)
pooled_look wires sights pool door None pooled there held = pooled
pooled_look wires sights pool door (Some g) pooled there held =
    let place = there g refl in
    let sight = at_some sights place.0 place.2 in
    subst (λ x. IsPooled wires (list_changed_behind sights (λ old. Some g) x) (given_in (shared pool g) (sight_through sights x))) (sym place.1) (look_at wires sights pool g place.0 sight.0 pooled (held g refl) sight.1)

-- where no wire is behind a door, nothing changes
pooled_nowhere : (f : WireState → WireState) (wires : List WireState) (sights : List (Option ℕ)) (pool : PoolState) (door : Option ℕ) → IsPooled wires sights pool → through wires door ≡ None →
    IsPooled (list_changed_behind wires f door) sights pool
pooled_nowhere f wires sights pool door pooled at = subst (λ z. IsPooled z sights pool) (sym (same_behind f wires door at)) pooled

-- the record that is taken from a queue is given back, with its place
taken_holds : (grip : ℕ) (wire : WireState) → wire_holds grip (taken wire) + hold grip (slice_get (waiting_in wire.queue) 0) ≡ wire_holds grip wire
taken_holds grip wire = omega (arith, count_oldest grip wire.queue)

taken_places : (wire : WireState) (waiting : List ℕ) → wire.queue ≡ Some waiting → IsSome (slice_get waiting 0) → places_in (taken wire) + 1 ≡ places_in wire
taken_places wire [] is some = cc
taken_places wire (grip ∷ more) is some =
    let now : length (waiting_in (taken wire).queue) ≡ length more = rw is refl in
    let before : length (waiting_in wire.queue) ≡ length (grip ∷ more) = rw is refl in
    omega (arith, now, before)

pooled_take : (wires : List WireState) (sights : List (Option ℕ)) (pool : PoolState) (door : Option ℕ) → IsPooled wires sights pool → Behind (λ wire. IsSome (at_hand wire)) wires door →
    IsPooled (list_changed_behind wires taken door) sights (pool_after_take pool (through wires door))
pooled_take wires sights pool door pooled hand = by_wire (through wires door) refl
  where
    by_queue : (wire : WireState) → through wires door ≡ Some wire → (q : Option (List ℕ)) → wire.queue ≡ q → IsSome (hand_of wire q) → IsPooled (list_changed_behind wires taken door) sights (pool_taken pool wire q)
    by_queue wire at None is some =
        let none : (grip : ℕ) → hold grip (slice_get (waiting_in wire.queue) 0) ≡ 0 = λ grip. ap (λ q. hold grip (slice_get (waiting_in q) 0)) is in
        let places : places_in (taken wire) ≡ places_in wire = rw is refl in
        pooled_still wires (list_changed_behind wires taken door) sights pool pooled (λ grip. omega (arith, holds_behind taken wires sights door wire at grip, taken_holds grip wire, none grip))
        (omega (arith, sum_behind places_in taken wires door wire at, places))
    by_queue wire at (Some waiting) is some =
        let first : (grip : ℕ) → hold grip (slice_get (waiting_in wire.queue) 0) ≡ hold grip (slice_get waiting 0) = λ grip. ap (λ q. hold grip (slice_get (waiting_in q) 0)) is in
        pooled_popped wires (list_changed_behind wires taken door) sights pool (slice_get waiting 0) pooled
        (λ grip. omega (arith, holds_behind taken wires sights door wire at grip, taken_holds grip wire, first grip))
        (omega (arith, sum_behind places_in taken wires door wire at, taken_places wire waiting is some))

    by_wire : (x : Option WireState) → through wires door ≡ x → IsPooled (list_changed_behind wires taken door) sights (pool_after_take pool x)
    by_wire None at = pooled_nowhere taken wires sights pool door pooled at
    by_wire (Some wire) at = by_queue wire at wire.queue refl (hand wire at)

-- one that is put is given back at a rendezvous, and in a queue it is held as it was offered
settled_places : (wire : WireState) (waiting : List ℕ) (offer : Option ℕ) → wire.queue ≡ Some waiting → wire.offer ≡ offer → IsSome offer → wire.reserved ≡ true → places_in (settled wire) ≡ places_in wire
settled_places wire waiting None is offers_it some kept = cc
settled_places wire waiting (Some grip) is offers_it some kept =
    let now : length (waiting_in (settled wire).queue) ≡ length (waiting ++ grip ∷ []) = ap (λ q. length (waiting_in (lined_up q wire.offer))) is ∙ ap (λ x. length (waiting_in (lined_up (Some waiting) x))) offers_it in
    let before : length (waiting_in wire.queue) ≡ length waiting = ap (λ q. length (waiting_in q)) is in
    omega (arith, now, before, length_more waiting grip, ap one kept)

pooled_put : (wires : List WireState) (sights : List (Option ℕ)) (pool : PoolState) (door : Option ℕ) → IsPooled wires sights pool → Behind (λ wire. CanSettle pool wire wire.queue) wires door →
    Behind IsRoomy wires door → IsPooled (list_changed_behind wires settled door) sights (pool_after_put pool (through wires door))
pooled_put wires sights pool door pooled can roomy = by_wire (through wires door) refl
  where
    by_queue : (wire : WireState) → through wires door ≡ Some wire → (q : Option (List ℕ)) → wire.queue ≡ q → CanSettle pool wire q → IsPooled (list_changed_behind wires settled door) sights (pool_settled pool wire q)
    by_queue wire at None is may =
        let now : (grip : ℕ) → queue_holds grip (settled wire) ≡ 0 = λ grip. ap (λ q. count_by (λ held. held == grip) (waiting_in (lined_up q wire.offer))) is in
        let before : (grip : ℕ) → queue_holds grip wire ≡ 0 = λ grip. ap (λ q. count_by (λ held. held == grip) (waiting_in q)) is in
        let free : wire.reserved ≡ false = roomy wire at ∙ ap (λ q. is_some q && is_some wire.offer) is in
        let none_then : length (waiting_in (settled wire).queue) ≡ 0 = ap (λ q. length (waiting_in (lined_up q wire.offer))) is in
        let none_now : length (waiting_in wire.queue) ≡ 0 = ap (λ q. length (waiting_in q)) is in
        pooled_given wires (list_changed_behind wires settled door) sights sights pool wire.offer pooled
        (λ grip. omega (arith, holds_behind settled wires sights door wire at grip, now grip, before grip))
        (omega (arith, sum_behind places_in settled wires door wire at, none_then, none_now, ap one free))
    by_queue wire at (Some waiting) is may =
        let now : (grip : ℕ) → queue_holds grip (settled wire) ≡ hold grip wire.offer + count_by (λ held. held == grip) waiting =
        λ grip. ap (λ q. count_by (λ held. held == grip) (waiting_in (lined_up q wire.offer))) is ∙ count_lined grip waiting wire.offer in
        let before : (grip : ℕ) → queue_holds grip wire ≡ count_by (λ held. held == grip) waiting = λ grip. ap (λ q. count_by (λ held. held == grip) (waiting_in q)) is in
        pooled_still wires (list_changed_behind wires settled door) sights pool pooled (λ grip. omega (arith, holds_behind settled wires sights door wire at grip, now grip, before grip))
        (omega (arith, sum_behind places_in settled wires door wire at, settled_places wire waiting wire.offer is refl may.0 may.1))

    by_wire : (x : Option WireState) → through wires door ≡ x → IsPooled (list_changed_behind wires settled door) sights (pool_after_put pool x)
    by_wire None at = pooled_nowhere settled wires sights pool door pooled at
    by_wire (Some wire) at = by_queue wire at wire.queue refl (can wire at)

-- an offer that goes is given back
pooled_cleared : (wires : List WireState) (sights : List (Option ℕ)) (pool : PoolState) (door : Option ℕ) → IsPooled wires sights pool →
    IsPooled (list_changed_behind wires cleared door) sights (given_in pool (offer_on (through wires door)))
pooled_cleared wires sights pool door pooled = by_wire (through wires door) refl
  where
    by_wire : (x : Option WireState) → through wires door ≡ x → IsPooled (list_changed_behind wires cleared door) sights (given_in pool (offer_on x))
    by_wire None at = pooled_nowhere cleared wires sights pool door pooled at
    by_wire (Some wire) at = pooled_given wires (list_changed_behind wires cleared door) sights sights pool wire.offer pooled (λ grip. omega (arith, holds_behind cleared wires sights door wire at grip))
        (sum_still places_in cleared (λ w. refl) wires door)

-- what no wire shows of a change
holds_still : (f : WireState → WireState) → ((grip : ℕ) (wire : WireState) → wire_holds grip (f wire) ≡ wire_holds grip wire) → (doors : List (Option ℕ)) (wires : List WireState) (sights : List (Option ℕ)) (grip : ℕ) →
    holds_of (wires_changed f doors wires) sights grip ≡ holds_of wires sights grip
holds_still f same doors wires sights grip = omega (arith, wires_hold grip (wires_changed f doors wires), wires_hold grip wires, sum_all_still (wire_holds grip) f (same grip) doors wires)

-- sights are given back one by one
pooled_without : (wires : List WireState) (doors sights : List (Option ℕ)) (pool : PoolState) → IsPooled wires sights pool → IsPooled wires (sights_without doors sights) (pool_without doors sights pool)
pooled_without wires [] sights pool pooled = pooled
pooled_without wires (door ∷ doors) sights pool pooled = pooled_without wires doors (list_changed_behind sights no_sight door) (given_in pool (sight_through sights door))
    (pooled_given wires wires sights (list_changed_behind sights no_sight door) pool (sight_through sights door) pooled (λ grip. omega (arith, count_unseen grip sights door)) refl)

-- after a turn the pool counts what the desk holds then
pub pooled_made : (d : DeskState) (pool : PoolState) (s : ℕ) (seen : Seen) → IsPooled d.wires d.sights pool → AreRoomy d.wires → CanTurn d pool s seen →
    IsPooled (desk_after_turn d s seen).wires (desk_after_turn d s seen).sights (pool_after_turn d pool s seen)
pooled_made d pool s (Up level code) pooled roomy can = pooled
pooled_made d pool s (Saw i) pooled roomy can = pooled_look d.wires d.sights pool (sight_door d s i) (hand_on (wire_in d s i)) pooled can.0 can.1
pooled_made d pool s (Took i) pooled roomy can = pooled_take d.wires d.sights pool (in_door d s i) pooled can.0
pooled_made d pool s (Put o) pooled roomy can = pooled_put d.wires d.sights pool (out_door d s o) pooled can (by_door (out_door d s o))
  where
    by_door : (door : Option ℕ) → Behind IsRoomy d.wires door
    by_door None wire at = cc
    by_door (Some j) wire at = roomy j wire at
pooled_made d pool s (Refused o) pooled roomy can = pooled_cleared d.wires d.sights pool (out_door d s o) pooled
pooled_made d pool s (Ended code) pooled roomy can =
    let ins = inputs_of (slice_get d.doors s) in
    let outs = outputs_of (slice_get d.doors s) in
    let own = sights_of (slice_get d.doors s) in
    let later = sights_without own d.sights in
    pooled_still d.wires (wires_changed in_shut ins (wires_changed out_shut outs d.wires)) later (pool_without own d.sights pool) (pooled_without d.wires own d.sights pool pooled)
    (λ grip. holds_still in_shut (λ g wire. refl) ins (wires_changed out_shut outs d.wires) later grip ∙ holds_still out_shut (λ g wire. refl) outs d.wires later grip)
    (sum_all_still places_in in_shut (λ wire. refl) ins (wires_changed out_shut outs d.wires) ∙ sum_all_still places_in out_shut (λ wire. refl) outs d.wires)
pooled_made d pool s _ pooled roomy can = pooled

-- what is still held then was held, with the same bytes
bytes_without : (doors sights : List (Option ℕ)) (pool : PoolState) (grip : ℕ) → IsHeld (pool_without doors sights pool) grip →
    IsHeld pool grip × (bytes_at (pool_without doors sights pool) grip ≡ bytes_at pool grip)
bytes_without [] sights pool grip held = (held, refl)
bytes_without (door ∷ doors) sights pool grip held =
    let rest = bytes_without doors (list_changed_behind sights no_sight door) (given_in pool (sight_through sights door)) grip held in
    let here = bytes_given pool (sight_through sights door) grip rest.0 in
    (here.0, rest.1 ∙ here.1)

bytes_seen : (pool : PoolState) (before hand : Option ℕ) (grip : ℕ) → IsHeld (pool_seen pool before hand) grip → bytes_at (pool_seen pool before hand) grip ≡ bytes_at pool grip
bytes_seen pool before None grip held = refl
bytes_seen pool before (Some g) grip held =
    let rest = bytes_given (shared pool g) before grip held in
    rest.1 ∙ (bytes_shared pool g grip rest.0).1

bytes_taken : (pool : PoolState) (x : Option WireState) (grip : ℕ) → IsHeld (pool_after_take pool x) grip → bytes_at (pool_after_take pool x) grip ≡ bytes_at pool grip
bytes_taken pool None grip held = refl
bytes_taken pool (Some wire) grip held = by_queue wire.queue held
  where
    by_queue : (q : Option (List ℕ)) → IsHeld (pool_taken pool wire q) grip → bytes_at (pool_taken pool wire q) grip ≡ bytes_at pool grip
    by_queue None held = refl
    by_queue (Some waiting) held = (bytes_given pool (slice_get waiting 0) grip held).1

bytes_put : (pool : PoolState) (x : Option WireState) (grip : ℕ) → IsHeld (pool_after_put pool x) grip → bytes_at (pool_after_put pool x) grip ≡ bytes_at pool grip
bytes_put pool None grip held = refl
bytes_put pool (Some wire) grip held = by_queue wire.queue held
  where
    by_queue : (q : Option (List ℕ)) → IsHeld (pool_settled pool wire q) grip → bytes_at (pool_settled pool wire q) grip ≡ bytes_at pool grip
    by_queue None held = (bytes_given pool wire.offer grip held).1
    by_queue (Some waiting) held = refl

-- after a turn what is held was held, with the same bytes
pub bytes_moved : (d : DeskState) (pool : PoolState) (s : ℕ) (seen : Seen) (grip : ℕ) → IsHeld (pool_after_turn d pool s seen) grip → bytes_at (pool_after_turn d pool s seen) grip ≡ bytes_at pool grip
bytes_moved d pool s (Saw i) grip held = bytes_seen pool (sight_through d.sights (sight_door d s i)) (hand_on (wire_in d s i)) grip held
bytes_moved d pool s (Took i) grip held = bytes_taken pool (wire_in d s i) grip held
bytes_moved d pool s (Put o) grip held = bytes_put pool (wire_out d s o) grip held
bytes_moved d pool s (Refused o) grip held = (bytes_given pool (offer_on (wire_out d s o)) grip held).1
bytes_moved d pool s (Ended code) grip held = (bytes_without (sights_of (slice_get d.doors s)) d.sights pool grip held).1
bytes_moved d pool s _ grip held = refl

-- what the desk holds after a turn has the bytes that it had
pub texts_made : (d : DeskState) (pool : PoolState) (s : ℕ) (seen : Seen) → IsPooled d.wires d.sights pool → AreRoomy d.wires → CanTurn d pool s seen →
    (grip : ℕ) → 0 < holds_of (desk_after_turn d s seen).wires (desk_after_turn d s seen).sights grip → bytes_at (pool_after_turn d pool s seen) grip ≡ bytes_at pool grip
texts_made d pool s seen pooled roomy can grip some =
    bytes_moved d pool s seen grip (held_by (desk_after_turn d s seen).wires (desk_after_turn d s seen).sights (pool_after_turn d pool s seen) (pooled_made d pool s seen pooled roomy can) grip some)

-- Coming home

-- a place that is reserved leaves the records as they were
pub room_records : (pool : PoolState) (x : Option WireState) → (pool_with_room pool x).records ≡ pool.records
room_records pool None = refl
room_records pool (Some wire) = by_queue wire.queue
  where
    by_queue : (q : Option (List ℕ)) → (noded_in pool q).records ≡ pool.records
    by_queue None = refl
    by_queue (Some waiting) = refl

-- so what could be held still can
pub can_hold_still : (d : DeskState) (pool : PoolState) (x : Option WireState) (s : ℕ) (out : Out) → CanHold d pool s out → CanHold d (pool_with_room pool x) s out
can_hold_still d pool x s (Fresh bytes) can = tt
can_hold_still d pool x s (Same i) can = (
  can.0,
  can.1,
  subst (λ (places : List (Option Held)). IsSome (place_at places can.0)) (sym (room_records pool x)) can.2,
  subst (λ (places : List (Option Held)). holders_of (place_at places can.0) < 4294967295) (sym (room_records pool x)) can.3,
)

-- the place is counted
pooled_room : (wires : List WireState) (sights : List (Option ℕ)) (pool : PoolState) (door : Option ℕ) → IsPooled wires sights pool → Behind (λ wire. wire.reserved ≡ false) wires door →
    IsPooled (list_changed_behind wires with_room door) sights (pool_with_room pool (through wires door))
pooled_room wires sights pool door pooled free = by_wire (through wires door) refl
  where
    by_queue : (wire : WireState) → through wires door ≡ Some wire → (q : Option (List ℕ)) → wire.queue ≡ q → IsPooled (list_changed_behind wires with_room door) sights (noded_in pool q)
    by_queue wire at None is =
        pooled_still wires (list_changed_behind wires with_room door) sights pool pooled (λ grip. omega (arith, holds_behind with_room wires sights door wire at grip))
        (omega (arith, sum_behind places_in with_room wires door wire at, ap (λ q. one (is_some q)) is, ap one (free wire at)))
    by_queue wire at (Some waiting) is = record {
      counted = let same : (grip : ℕ) → holders_at pool grip ≡ holds_of (list_changed_behind wires with_room door) sights grip =
          λ grip. omega (arith, pooled.counted grip, holds_behind with_room wires sights door wire at grip) in same;
      alive = pooled.alive;
      nodes = omega (arith, pooled.nodes, sum_behind places_in with_room wires door wire at, ap (λ q. one (is_some q)) is, ap one (free wire at));
    }

    by_wire : (x : Option WireState) → through wires door ≡ x → IsPooled (list_changed_behind wires with_room door) sights (pool_with_room pool x)
    by_wire None at = pooled_nowhere with_room wires sights pool door pooled at
    by_wire (Some wire) at = by_queue wire at wire.queue refl

-- an offer where there was none is one hold more
offered_more : (g : ℕ) (wires : List WireState) (sights : List (Option ℕ)) (door : Option ℕ) → IsSome (through wires door) → Behind (λ wire. wire.offer ≡ None) wires door →
    ((grip : ℕ) → holds_of (list_changed_behind wires (offers g) door) sights grip ≡ hold grip (Some g) + holds_of (list_changed_behind wires with_room door) sights grip)
    × (nodes_of (list_changed_behind wires (offers g) door) ≡ nodes_of (list_changed_behind wires with_room door))
offered_more g wires sights door there free = by_wire (through wires door) refl there
  where
    by_wire : (x : Option WireState) → through wires door ≡ x → IsSome x →
        ((grip : ℕ) → holds_of (list_changed_behind wires (offers g) door) sights grip ≡ hold grip (Some g) + holds_of (list_changed_behind wires with_room door) sights grip)
        × (nodes_of (list_changed_behind wires (offers g) door) ≡ nodes_of (list_changed_behind wires with_room door))
    by_wire None at some = cc
    by_wire (Some wire) at some = (
      λ grip. omega (arith, holds_behind (offers g) wires sights door wire at grip, holds_behind with_room wires sights door wire at grip, ap (hold grip) (free wire at)),
      omega (arith, sum_behind places_in (offers g) wires door wire at, sum_behind places_in with_room wires door wire at),
    )

-- the record that is offered
pooled_hold : (wires now : List WireState) (sights : List (Option ℕ)) (d : DeskState) (pool after : PoolState) (s : ℕ) (out : Out) (grip : ℕ) → IsPooled wires sights pool →
    CanHold d pool s out → IsHold d pool s out grip after → ((other : ℕ) → holds_of now sights other ≡ hold other (Some grip) + holds_of wires sights other) → nodes_of now ≡ nodes_of wires → IsPooled now sights after
pooled_hold wires now sights d pool after s (Fresh bytes) grip pooled can is more same =
    subst (λ (z : PoolState). IsPooled now sights z) (sym is.1) (pooled_fresh wires now sights sights pool bytes grip pooled is.0 more same)
pooled_hold wires now sights d pool after s (Same i) grip pooled can is more same =
    let both : Some can.0 ≡ Some grip = sym can.1 ∙ is.0 in
    let it : can.0 ≡ grip = cc in
    subst (λ (z : PoolState). IsPooled now sights z) (sym is.1) (pooled_shared wires now sights sights pool grip pooled (subst (IsHeld pool) it can.2) more same)

-- after a strand came home the pool counts what the desk holds then
pub pooled_home : (d new : DeskState) (pool after : PoolState) (s : ℕ) (w : Want) → IsPooled d.wires d.sights pool → CanCome d pool s w → HasCome d pool s w new after → IsPooled new.wires new.sights after
pooled_home d new pool after s (want.Write o out) pooled can has =
    let door = out_door d s o in
    let more = offered_more has.grip d.wires d.sights door can.0.0 can.0.1 in
    subst (λ (z : DeskState). IsPooled z.wires z.sights after) (sym has.home)
    (pooled_hold (list_changed_behind d.wires with_room door) (list_changed_behind d.wires (offers has.grip) door) d.sights d (pool_with_room pool (wire_out d s o)) after s out has.grip
    (pooled_room d.wires d.sights pool door pooled can.0.3) (can_hold_still d pool (wire_out d s o) s out can.1) has.hold more.0 more.1)
pooled_home d new pool after s _ pooled can has =
    subst (λ (z : DeskState). IsPooled z.wires z.sights after) (sym has.0) (subst (λ (z : PoolState). IsPooled d.wires d.sights z) (sym has.1) pooled)

-- The end of a run

-- the last wire counts for itself
holds_last : (wires : List WireState) (wire : WireState) (sights : List (Option ℕ)) (grip : ℕ) → holds_of (wires ++ wire ∷ []) sights grip ≡ holds_of wires sights grip + wire_holds grip wire
holds_last wires wire sights grip = omega (arith, wires_hold grip (wires ++ wire ∷ []), wires_hold grip wires, sum_by_push (wire_holds grip) wires wire)

places_last : (wires : List WireState) (wire : WireState) → nodes_of (wires ++ wire ∷ []) ≡ nodes_of wires + places_in wire
places_last wires wire = sum_by_push places_in wires wire

-- a queue with these records and nothing else
abbrev only : WireState → List ℕ → WireState
only wire waiting = record wire { offer = None; queue = Some waiting; reserved = false }

-- all that waits in the last one can be given back, and then the pool counts the rest
emptied_last : (wires : List WireState) (wire : WireState) (sights : List (Option ℕ)) (waiting : List ℕ) (pool : PoolState) → IsPooled (wires ++ only wire waiting ∷ []) sights pool →
    CanEmpty waiting pool × IsPooled wires sights (emptied waiting pool)
emptied_last wires wire sights [] pool pooled = (tt, pooled_still (wires ++ only wire [] ∷ []) wires sights pool pooled (λ grip. omega (arith, holds_last wires (only wire []) sights grip)) (omega (arith, places_last wires (only wire []))))
emptied_last wires wire sights (grip ∷ more) pool pooled =
    let first : (other : ℕ) → wire_holds other (only wire (grip ∷ more)) ≡ hold other (Some grip) + wire_holds other (only wire more) = λ other. omega (arith, count_first (λ held. held == other) grip more) in
    let held : 0 < holds_of (wires ++ only wire (grip ∷ more) ∷ []) sights grip = omega (arith, holds_last wires (only wire (grip ∷ more)) sights grip, first grip, ap one (test_same grip)) in
    let rest = emptied_last wires wire sights more (without_node (given pool grip))
    (pooled_popped (wires ++ only wire (grip ∷ more) ∷ []) (wires ++ only wire more ∷ []) sights pool (Some grip) pooled
    (λ other. omega (arith, holds_last wires (only wire (grip ∷ more)) sights other, holds_last wires (only wire more) sights other, first other))
    (omega (arith, places_last wires (only wire (grip ∷ more)), places_last wires (only wire more)))) in
    let counted : 0 < pool.nodes = omega (arith, pooled.nodes, places_last wires (only wire (grip ∷ more))) in
    ((held_by (wires ++ only wire (grip ∷ more) ∷ []) sights pool pooled grip held, counted, rest.0), rest.1)

-- so the last one can be drained, and then the pool counts the rest
pub pooled_last_wire : (wires : List WireState) (wire : WireState) (sights : List (Option ℕ)) (pool : PoolState) → IsPooled (wires ++ wire ∷ []) sights pool → CanDrain pool wire × IsPooled wires sights (drained pool wire)
pooled_last_wire wires wire sights pool pooled =
    let room = unreserved_last wire.reserved refl in
    let rest = emptied_last wires wire sights (waiting_in wire.queue) (unreserved gone wire.reserved) room.1 in
    (record { offer = held wire.offer refl; reserved = room.0; waiting = rest.0 }, rest.1)
  where
    gone : PoolState
    gone = given_in pool wire.offer

    held : (x : Option ℕ) → wire.offer ≡ x → IsHeldIn pool x
    held None is = tt
    held (Some grip) is = held_by (wires ++ wire ∷ []) sights pool pooled grip (omega (arith, holds_last wires wire sights grip, ap (hold grip) is, ap one (test_same grip)))

    unreserved_last : (b : Bool) → wire.reserved ≡ b → CanUnreserve gone b × IsPooled (wires ++ only wire (waiting_in wire.queue) ∷ []) sights (unreserved gone b)
    unreserved_last false is = (
      tt,
      pooled_given (wires ++ wire ∷ []) (wires ++ only wire (waiting_in wire.queue) ∷ []) sights sights pool wire.offer pooled
          (λ grip. omega (arith, holds_last wires wire sights grip, holds_last wires (only wire (waiting_in wire.queue)) sights grip))
          (omega (arith, places_last wires wire, places_last wires (only wire (waiting_in wire.queue)), ap one is)),
    )
    unreserved_last true is = (
      omega (arith, nodes_given pool wire.offer, pooled.nodes, places_last wires wire, ap one is),
      pooled_popped (wires ++ wire ∷ []) (wires ++ only wire (waiting_in wire.queue) ∷ []) sights pool wire.offer pooled
          (λ grip. omega (arith, holds_last wires wire sights grip, holds_last wires (only wire (waiting_in wire.queue)) sights grip))
          (omega (arith, places_last wires wire, places_last wires (only wire (waiting_in wire.queue)), ap one is)),
    )

-- a sight from the end of the list
pub pooled_last_sight : (wires : List WireState) (sights : List (Option ℕ)) (sight : Option ℕ) (pool : PoolState) → IsPooled wires (sights ++ sight ∷ []) pool → IsPooled wires sights (given_in pool sight)
pooled_last_sight wires sights sight pool pooled = pooled_given wires wires (sights ++ sight ∷ []) sights pool sight pooled (λ grip. omega (arith, count_last (holds grip) sights sight)) refl

-- a pool that nobody holds anything of is empty
pub none_held : (pool : PoolState) → IsPooled [] [] pool → blocks_in pool ≡ 0
none_held pool pooled = no_blocks pool (λ grip. by_place grip (record_at pool grip) refl) pooled.nodes
  where
    by_place : (grip : ℕ) (place : Option Held) → record_at pool grip ≡ place → record_at pool grip ≡ None
    by_place grip None at = at
    by_place grip (Some held) at =
        let some : 0 < held.holders = pooled.alive grip held at in
        let none : holders_at pool grip ≡ 0 = pooled.counted grip in
        let here : holders_at pool grip ≡ held.holders = ap holders_of at in
        absurd (omega (arith, some, none, here))
