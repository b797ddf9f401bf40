-- The doors lead to wires that are there.
use Rattle.std.proofs.Common.{◌<◌, length, arith, refl, sym, ◌∙◌, ap, subst}
use Rattle.std.proofs.lemmas.Option.{slice_get_read}
use Rattle.run_desk.specs.Desk.{DeskState}
use Rattle.run_desk.specs.Telling.{inputs_of, LeadBelow}
use Rattle.run_desk.proofs.desk.Desk.inputs.Goals as goal

pub returns-clause-there : goal.returns-clause-there
returns-clause-there c =
    let i = c.self.inside in
    let s = c.args.strand in
    let seat : s < length i.seats.items = subst (λ (d : DeskState). s < length d.seats) (sym c.self.view_is) c.requires in
    let at = slice_get_read i.doors.items (length i.doors.items) s c.index.result.now refl (omega (arith, seat, c.self.invariant.count)) c.index.ensures in
    let doors = c.inputs.ensures ∙ ap inputs_of (sym at) in
    subst (λ (d : DeskState). LeadBelow (length d.wires) c.inputs.result.now) c.self.view_is (subst (LeadBelow (length i.wires.items)) (sym doors) (c.self.invariant.ins s))
