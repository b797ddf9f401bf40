use Rattle.std.proofs.Common.{◌∙◌, ap, arith, sym, None}
use Rattle.spec_scanner.specs.declared.fault.SpecFaultKind.TheVariants.{UnknownLabel}
use Rattle.spec_scanner.specs.Faults.{fault}
use Rattle.spec_scanner.specs.Labels.{number_of, refer}
use Rattle.spec_scanner.specs.Pieces.{reference_piece}
use Rattle.spec_scanner.proofs.Adds.{piece_noted, with_fault}
use Rattle.spec_scanner.proofs.Loads.{labels_in_load, uses_in_load}
use Rattle.spec_scanner.proofs.labelled.refer.Goals as goal

pub returns-in_default : goal.returns-in_default
returns-in_default c =
    let labels = c.args.findings.now.labels in
    let name = c.args.name.now in
    piece_noted c.args.findings.now c.note.new.self (fault UnknownLabel c.args.place) (c.note.ensures ∙ ap (with_fault c.args.findings.now) c.at.ensures)
    (refer labels name c.args.place c.args.end (number_of labels name)) (reference_piece None 0 c.args.place c.args.end)
    (ap (refer labels name c.args.place c.args.end) (sym c.number_of.ensures.number ∙ c.in_default.is))
    c.reference_piece.result c.reference_piece.ensures

pub use_of-uses-requires-clause-few : goal.use_of-uses-requires-clause-few
use_of-uses-requires-clause-few c = omega (arith, uses_in_load c.args.findings.now.labels c.in-Some.number)

pub overflow_cast-number : goal.overflow_cast-number
overflow_cast-number c = omega (arith, labels_in_load c.args.findings.now.labels, c.in-Some.ensures.within)
