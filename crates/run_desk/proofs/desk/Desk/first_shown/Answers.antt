-- The doors lead to wires that are there.
use Rattle.std.proofs.Common.{◌<◌, List, length, arith, refl, sym, subst, Option, slice_get}
use Rattle.std.proofs.lemmas.Option.{slice_get_read}
use Rattle.connectors.specs.WireState.{WireState}
use Rattle.run_desk.specs.Desk.{DeskState, DoorsState}
use Rattle.run_desk.specs.Telling.{inputs_of, IsFirstShown, LeadBelow}
use Rattle.run_desk.proofs.desk.Desk.first_shown.Goals as goal

pub first_shown-requires : goal.first_shown-requires
first_shown-requires c =
    let i = c.self.inside in
    let s = c.args.strand in
    let seat : s < length i.seats.items = subst (λ (d : DeskState). s < length d.seats) (sym c.self.view_is) c.requires in
    let at = slice_get_read i.doors.items (length i.doors.items) s c.index.result.now refl (omega (arith, seat, c.self.invariant.count)) c.index.ensures in
    subst (λ (wires : List WireState). LeadBelow (length wires) c.index.result.now.inputs) (sym c.deref.ensures.value)
    (subst (λ (o : Option DoorsState). LeadBelow (length i.wires.items) (inputs_of o)) at (c.self.invariant.ins s))

pub returns : goal.returns
returns c =
    let i = c.self.inside in
    let s = c.args.strand in
    let seat : s < length i.seats.items = subst (λ (d : DeskState). s < length d.seats) (sym c.self.view_is) c.requires in
    let at = slice_get_read i.doors.items (length i.doors.items) s c.index.result.now refl (omega (arith, seat, c.self.invariant.count)) c.index.ensures in
    subst (λ (d : DeskState). IsFirstShown d.wires (inputs_of (slice_get d.doors s)) c.first_shown.result) c.self.view_is
    (subst (λ (o : Option DoorsState). IsFirstShown i.wires.items (inputs_of o) c.first_shown.result) (sym at)
    (subst (λ (wires : List WireState). IsFirstShown wires c.index.result.now.inputs c.first_shown.result) c.deref.ensures.value c.first_shown.ensures))
