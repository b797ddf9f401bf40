use Rattle.std.proofs.Common.{◌∙◌, ◌-◌, ap, sym}
use Rattle.spec_scanner.specs.declared.fault.SpecFaultKind.TheVariants.{LoneEscape}
use Rattle.spec_scanner.specs.Faults.{fault, least}
use Rattle.spec_scanner.proofs.Scans.{noted_least, one_escaped}
use Rattle.spec_scanner.proofs.scanner.with_escaped.Goals as goal

pub returns-then-is_cut_short : goal.returns-then-is_cut_short
returns-then-is_cut_short c = λ tail faults some so.
    noted_least c.args.found (fault LoneEscape (c.args.size - 1)) c.least.result faults _ (c.least.ensures ∙ ap (least c.args.found) c.at.ensures ∙ ap (λ place. least c.args.found (fault LoneEscape place)) c.saturating_sub-place.ensures)
    (one_escaped tail c.args.size (sym c.if-is_cut_short.true ∙ some)) so
