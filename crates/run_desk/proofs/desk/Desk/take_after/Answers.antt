-- The two events are made in one.
use Rattle.std.proofs.Common.{◌≡◌, ℕ, List, sym, ◌∙◌, ap, subst, Option, Some}
use Rattle.connectors.specs.WireState.{WireState, settled}
use Rattle.run_desk.specs.declared.seat.Ask.TheVariants.{Read}
use Rattle.run_desk.specs.declared.seat.Seat.{Seat}
use Rattle.run_desk.specs.Desk.{DeskState}
use Rattle.run_desk.specs.Telling.{in_door, sight_door, through}
use Rattle.run_desk.specs.Turns.{list_changed_behind, hand_on, sights_seen, seat_after, asking, rest_after_turn}
use Rattle.run_desk.specs.Passing.{desk_passed, IsBy}
use Rattle.run_desk.specs.contracts.desk.Desk.{the_view}
use Rattle.run_desk.proofs.Passes.{told_put, told_saw, passed_behind}
use Rattle.run_desk.proofs.desk.Desk.take_after.Goals as goal
use Rattle.run_desk.proofs.desk.Desk.take_after.Goals.{in-Some, in-None}

pub returns-clause-desk : goal.returns-clause-desk
returns-clause-desk c =
    let i = c.self.inside in
    let j = c.match-put.self-inside in
    let s = c.args.strand in
    let k = c.args.i in
    let from = c.args.from in
    let D : List Seat → List WireState → List (Option ℕ) → DeskState = λ seats wires sights. record { seats = seats; wires = wires; sights = sights; doors = i.doors.items; unit = i.unit } in
    let d : DeskState = D i.seats.items i.wires.items i.sights.items in
    let by : IsBy d s c.args.seen k c.args.put = subst (λ (z : DeskState). IsBy z s c.args.seen k c.args.put) (sym c.self.view_is) c.requires.by in
    let door : in_door d s k ≡ Some from = ap (λ (z : DeskState). in_door z s k) c.self.view_is ∙ c.requires.from in
    let told : the_view j ≡ rest_after_turn d s c.args.seen = elim c.match-put.branch [
      | in-Some w ↦ ap the_view w.self-inside-is
          ∙ ap (λ (wires : List WireState). D i.seats.items wires i.sights.items) (w.settle_at.ensures.wires ∙ ap (list_changed_behind i.wires.items settled) w.in-Some.is)
          ∙ told_put d s c.args.seen k w.in-Some.field-0 c.args.put w.in-Some.is by
      | in-None w ↦ ap the_view w.self-inside-is
          ∙ ap (D i.seats.items i.wires.items)
          (w.see_at.ensures.sights
          ∙ ap (λ z. sights_seen i.sights.items z (hand_on (through w.deref.result.now (Some from)))) (w.sight_door-sight.ensures ∙ ap (λ (z : DeskState). sight_door z s k) (sym c.self.view_is))
          ∙ ap (λ (wires : List WireState). sights_seen i.sights.items (sight_door d s k) (hand_on (through wires (Some from)))) w.deref.ensures.value)
          ∙ told_saw d s c.args.seen k from c.args.put w.in-None.is by door
    ] in
    let E : List Seat → List WireState → DeskState = λ seats wires. record { seats = seats; wires = wires; sights = j.sights.items; doors = j.doors.items; unit = j.unit } in
    ap (λ (seats : List Seat). E seats c.take_at.new.wires.items) c.change_and_ask.ensures
    ∙ ap (E (list_changed_behind (list_changed_behind j.seats.items (seat_after c.args.seen) (Some s)) (asking (Read k)) (Some s))) c.take_at.ensures.wires
    ∙ passed_behind d (the_view j) s k from c.args.seen told door
    ∙ ap (λ (z : DeskState). desk_passed z s c.args.seen k) c.self.view_is
