use Rattle.std.proofs.Common.{◌∙◌, ap, arith, is_some, sym, None}
use Rattle.spec_scanner.specs.declared.piece.PieceKind.TheVariants.{Stage}
use Rattle.spec_scanner.specs.declared.fault.SpecFaultKind.TheVariants.{LabelTwice}
use Rattle.spec_scanner.specs.Faults.{fault}
use Rattle.spec_scanner.specs.Labels.{define, number_of}
use Rattle.spec_scanner.specs.Pieces.{named_piece}
use Rattle.spec_scanner.proofs.Adds.{defined_again, pieces_noted, with_fault}
use Rattle.spec_scanner.proofs.Loads.{labels_in_load}
use Rattle.spec_scanner.proofs.labelled.define.Goals as goal

pub returns-then-is_some : goal.returns-then-is_some
returns-then-is_some c =
    let labels = c.args.findings.now.labels in
    let name = c.args.name.items in
    pieces_noted c.args.findings.now c.note.new.self (fault LabelTwice c.args.place) (c.note.ensures ∙ ap (with_fault c.args.findings.now) c.at.ensures)
    (define labels name c.args.place c.args.items.now (number_of labels name)) (named_piece Stage None c.args.place c.args.items.now)
    (defined_again labels name c.args.place c.args.items.now (number_of labels name) (ap is_some (ap (number_of labels) (sym c.deref.ensures.value) ∙ sym c.number_of.ensures.number) ∙ sym c.is_some.ensures ∙ c.if-is_some.true))
    c.named_piece.result c.named_piece.ensures

pub overflow_cast-number : goal.overflow_cast-number
overflow_cast-number c = omega (arith, labels_in_load c.args.findings.now.labels)
