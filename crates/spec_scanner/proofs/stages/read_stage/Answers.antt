use Rattle.std.proofs.Common.{◌∙◌, ap, arith, sym}
use Rattle.spec_scanner.specs.Additions.{load}
use Rattle.spec_scanner.proofs.Adds.{empty_noted, with_fault}
use Rattle.spec_scanner.proofs.Loads.{some_text_load}
use Rattle.spec_scanner.proofs.stages.read_stage.Goals as goal

pub returns-then-is_empty-clause-read : goal.returns-then-is_empty-clause-read
returns-then-is_empty-clause-read c =
    empty_noted c.args.findings.now c.note.new.self c.args.closed c.args.pieces.now.items c.args.items.now (sym c.is_empty.ensures ∙ c.if-is_empty.true) (c.note.ensures ∙ ap (with_fault c.args.findings.now) c.at.ensures)

pub returns-clause-few : goal.returns-clause-few
returns-clause-few c =
    let some = sym c.is_empty.ensures ∙ c.if-is_empty.false in
    omega (arith, some_text_load c.args.findings.now.labels c.args.items.now some, ap load c.in_ok-piece.ensures.labels_are)
