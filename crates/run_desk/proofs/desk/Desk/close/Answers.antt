-- The ends of the wires are closed, as many as there were, and the sights given back.
use Rattle.std.proofs.Common.{◌≡◌, ◌<◌, ℕ, List, length, arith, refl, sym, ◌∙◌, ap, subst, Option, slice_get}
use Rattle.std.proofs.lemmas.Option.{slice_get_read}
use Rattle.connectors.specs.WireState.{WireState}
use Rattle.run_desk.specs.Desk.{DoorsState, DeskState}
use Rattle.run_desk.specs.Telling.{inputs_of, outputs_of, numbered, sights_of, IsJoined}
use Rattle.run_desk.specs.Turns.{wires_changed, out_shut, in_shut, sights_without, pool_without, desk_without_ends}
use Rattle.run_desk.proofs.Lists.{all_changed_length}
use Rattle.run_desk.proofs.desk.Desk.close.Goals as goal

pub invariant_of-self : goal.invariant_of-self
invariant_of-self c =
    let i = c.self.inside in
    let outs = ap length c.close_outs.ensures ∙ all_changed_length out_shut c.outputs.result.now i.wires.items in
    let ins = ap length c.close_ins.ensures ∙ all_changed_length in_shut c.inputs.result.now c.close_outs.new.wires.items in
    subst (λ n. IsJoined (length i.seats.items) n i.doors.items) (sym (ins ∙ outs)) c.self.invariant

pub returns-clause-desk : goal.returns-clause-desk
returns-clause-desk c =
    let i = c.self.inside in
    let s = c.args.strand in
    let seat : s < length i.seats.items = subst (λ (d : DeskState). s < length d.seats) (sym c.self.view_is) c.requires.strand in
    let at = slice_get_read i.doors.items (length i.doors.items) s c.index-doors.result.now refl (omega (arith, seat, c.self.invariant.count)) c.index-doors.ensures in
    let outs = c.close_outs.ensures ∙ ap (λ z. wires_changed out_shut z i.wires.items) (c.outputs.ensures ∙ ap outputs_of (sym at)) in
    let ins = c.close_ins.ensures ∙ ap (λ z. wires_changed in_shut z c.close_outs.new.wires.items) (c.inputs.ensures ∙ ap inputs_of (sym at))
    ∙ ap (wires_changed in_shut (inputs_of (slice_get i.doors.items s))) outs in
    let numbers = ap (numbered c.doors.inside.first_sight) c.inputs-2.ensures ∙ ap (λ (z : DoorsState). numbered z.first_sight c.index-doors.result.now.inputs) c.doors.view_is ∙ ap sights_of (sym at) in
    let sights = c.forget.ensures.sights ∙ ap (λ z. sights_without z i.sights.items) numbers in
    let D : List WireState → List (Option ℕ) → DeskState = λ w z. record { seats = i.seats.items; wires = w; sights = z; doors = i.doors.items; unit = i.unit } in
    subst (λ (d : DeskState). D c.close_ins.new.wires.items c.forget.new.sights.items ≡ desk_without_ends d s) c.self.view_is
    (ap (λ w. D w c.forget.new.sights.items) ins ∙ ap (D (wires_changed in_shut (inputs_of (slice_get i.doors.items s)) (wires_changed out_shut (outputs_of (slice_get i.doors.items s)) i.wires.items))) sights)

pub returns-clause-pool : goal.returns-clause-pool
returns-clause-pool c =
    let i = c.self.inside in
    let s = c.args.strand in
    let seat : s < length i.seats.items = subst (λ (d : DeskState). s < length d.seats) (sym c.self.view_is) c.requires.strand in
    let at = slice_get_read i.doors.items (length i.doors.items) s c.index-doors.result.now refl (omega (arith, seat, c.self.invariant.count)) c.index-doors.ensures in
    let numbers = ap (numbered c.doors.inside.first_sight) c.inputs-2.ensures ∙ ap (λ (z : DoorsState). numbered z.first_sight c.index-doors.result.now.inputs) c.doors.view_is ∙ ap sights_of (sym at) in
    subst (λ (d : DeskState). c.forget.new.pool ≡ pool_without (sights_of (slice_get d.doors s)) d.sights c.args.pool.now) c.self.view_is
    (c.forget.ensures.pool ∙ ap (λ z. pool_without z i.sights.items c.args.pool.now) numbers)
