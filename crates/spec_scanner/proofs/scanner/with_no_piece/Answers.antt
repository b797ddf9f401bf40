use Rattle.std.proofs.Common.{◌∙◌, ap, sym}
use Rattle.spec_scanner.specs.declared.fault.SpecFaultKind.TheVariants.{NoPiece}
use Rattle.spec_scanner.specs.Faults.{fault, least}
use Rattle.spec_scanner.proofs.Leasts.{least_same}
use Rattle.spec_scanner.proofs.Scans.{no_piece_at_all, noted_least, some_piece}
use Rattle.spec_scanner.proofs.scanner.with_no_piece.Goals as goal

pub returns-then-has_piece : goal.returns-then-has_piece
returns-then-has_piece c = λ faults so.
    least_same c.args.found faults _ so (some_piece c.args.pipelines.now c.args.size (sym c.has_piece.ensures ∙ c.if-has_piece.true))

pub returns-else-has_piece : goal.returns-else-has_piece
returns-else-has_piece c = λ faults so.
    noted_least c.args.found (fault NoPiece c.args.size) c.least.result faults _ (c.least.ensures ∙ ap (least c.args.found) c.at.ensures) (no_piece_at_all c.args.pipelines.now c.args.size (sym c.has_piece.ensures ∙ c.if-has_piece.false)) so
