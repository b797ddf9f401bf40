use Rattle.std.proofs.Common.{◌∙◌, ap, sym, None}
use Rattle.spec_scanner.specs.declared.piece.PieceKind.TheVariants.{Stage}
use Rattle.spec_scanner.specs.declared.fault.SpecFaultKind.TheVariants.{BadLabel}
use Rattle.spec_scanner.specs.Faults.{fault}
use Rattle.spec_scanner.specs.Labels.{bad_label}
use Rattle.spec_scanner.specs.Pieces.{named_piece, reference_piece}
use Rattle.spec_scanner.proofs.Adds.{bad_alone, bad_named, piece_noted, pieces_noted, with_fault}
use Rattle.spec_scanner.proofs.labelled.bad_label.Goals as goal

pub returns-then-is_empty : goal.returns-then-is_empty
returns-then-is_empty c =
    piece_noted c.args.findings.now c.note.new.self (fault BadLabel c.args.place) (c.note.ensures ∙ ap (with_fault c.args.findings.now) c.at.ensures)
    (bad_label c.args.findings.now.labels c.args.place c.args.end c.args.items.now) (reference_piece None 0 c.args.place c.args.end)
    (bad_alone c.args.findings.now.labels c.args.place c.args.end c.args.items.now (sym c.is_empty.ensures ∙ c.if-is_empty.true))
    c.reference_piece.result c.reference_piece.ensures

pub returns : goal.returns
returns c =
    pieces_noted c.args.findings.now c.note.new.self (fault BadLabel c.args.place) (c.note.ensures ∙ ap (with_fault c.args.findings.now) c.at.ensures)
    (bad_label c.args.findings.now.labels c.args.place c.args.end c.args.items.now) (named_piece Stage None c.args.place c.args.items.now)
    (bad_named c.args.findings.now.labels c.args.place c.args.end c.args.items.now (sym c.is_empty.ensures ∙ c.if-is_empty.false))
    c.named_piece.result c.named_piece.ensures
