-- What was seen is what is written.
use Rattle.std.proofs.Common.{rules, ◌≡◌, ◌<◌, ℕ, List, length, refl, sym, ◌∙◌, ap, subst, Option, Some, slice_get, slice_set}
use Rattle.std.proofs.lemmas.Option.{slice_get_read}
use Rattle.record_pool.specs.PoolState.{PoolState}
use Rattle.record_pool.specs.Places.{shared}
use Rattle.connectors.specs.WireState.{WireState, offered, given_in}
use Rattle.run_desk.specs.declared.seat.Seat.{Seat}
use Rattle.run_desk.specs.Desk.{DeskState}
use Rattle.run_desk.specs.Telling.{joined, in_door, out_door, sight_door, sight_through, through, wire_in}
use Rattle.run_desk.specs.Turns.{list_changed_at, hand_on}
use Rattle.run_desk.proofs.Passes.{some_shown, sight_within, wire_within, desk_passing, passed_on}
use Rattle.run_desk.proofs.desk.Desk.pass_on.Goals as goal
use Rattle.run_desk.proofs.desk.Desk.pass_on.Goals.{in-Some-replace, in_default-replace}

pub returns : goal.returns
returns c =
    let i = c.self.inside in
    let d = c.args.self.now in
    let s = c.args.strand in
    let n = c.in-Some.n in
    let link = c.args.link in
    let grip = c.in-Some-at_hand.grip.now in
    let sight : sight_door d s c.args.i ≡ Some n = search rules in
    let j = c.args.from in
    let door = c.requires.from in
    let below : j < length i.wires.items = subst (λ (z : DeskState). j < length z.wires) (sym c.self.view_is) (wire_within d.wires (in_door d s c.args.i) j door (some_shown (wire_in d s c.args.i) c.requires.shows)) in
    let at : slice_get i.wires.items j ≡ Some c.index.result.now = slice_get_read i.wires.items (length i.wires.items) j c.index.result.now refl below c.index.ensures in
    let hand : hand_on (wire_in d s c.args.i) ≡ Some grip =
    ap (λ z. hand_on (through d.wires z)) door ∙ ap hand_on (subst (λ (z : DeskState). slice_get z.wires j ≡ Some c.index.result.now) c.self.view_is at) ∙ sym c.in-Some-at_hand.ensures in
    let there : n < length d.sights = sight_within d.sights (sight_door d s c.args.i) n sight (c.requires.can.0 grip hand) in
    let sight_below : n < length i.sights.items = subst (λ (z : DeskState). n < length z.sights) (sym c.self.view_is) there in
    let sight_there = slice_get_read i.sights.items (length i.sights.items) n c.index_mut.result.now refl sight_below c.index_mut.ensures.value in
    let wire_below = subst (λ (z : DeskState). link < length z.wires) (sym c.self.view_is) (wire_within d.wires (out_door d s c.args.o) link c.requires.door c.requires.home.0.0) in
    let wire_there = slice_get_read i.wires.items (length i.wires.items) link c.index_mut-2.result.now refl wire_below c.index_mut-2.ensures.value in
    let D : List Seat → List WireState → List (Option ℕ) → DeskState = λ seats wires sights. record { seats = seats; wires = wires; sights = sights; doors = i.doors.items; unit = i.unit } in
    let seats = c.change_and_ask.ensures in
    let wires = ap (slice_set i.wires.items link) (c.offer.ensures ∙ ap (offered c.index_mut-2.result.now) c.share-offer.ensures.same)
    ∙ sym (ap (list_changed_at i.wires.items link (λ wire. offered wire grip)) wire_there) in
    let sights = ap (slice_set i.sights.items n) (c.replace.ensures.after ∙ ap Some c.share-hold.ensures.same) ∙ sym (ap (list_changed_at i.sights.items n (λ x. Some grip)) sight_there) in
    let before = c.replace.ensures.value ∙ sym (ap joined sight_there) ∙ ap (λ (z : DeskState). sight_through z.sights (Some n)) c.self.view_is in
    let given : c.match-replace.pool ≡ given_in c.share-hold.new.self c.replace.result = elim c.match-replace.branch [
      | in-Some-replace w ↦ w.pool-is ∙ (w.give.ensures.given ∙ ap (given_in c.share-hold.new.self) (sym w.in-Some-replace.is))
      | in_default-replace w ↦ w.pool-is ∙ ap (given_in c.share-hold.new.self) (sym w.in_default-replace.is)
    ] in
    let given_back = given ∙ ap (λ p. given_in p c.replace.result) c.share-hold.ensures.shared ∙ ap (given_in (shared c.args.pool.now grip)) before in
    let after = c.share-offer.ensures.shared ∙ ap (λ (p : PoolState). shared p grip) given_back in
    let now : DeskState = D c.change_and_ask.new.seats.items (slice_set i.wires.items link c.offer.new.self) (slice_set i.sights.items n c.replace.new.self) in
    let new : now ≡ desk_passing d s c.args.i c.args.o n link grip =
    subst (λ (z : DeskState). now ≡ desk_passing z s c.args.i c.args.o n link grip) c.self.view_is (λ t. D (seats t) (wires t) (sights t)) in
    passed_on d c.args.pool.now s c.args.i n grip sight hand c.args.o link _ c.share-offer.new.self there c.requires.door c.requires.rendezvous c.requires.home.0.3 new after
