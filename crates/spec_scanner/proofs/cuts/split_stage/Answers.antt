use Rattle.std.proofs.Common.{◌∙◌, sym}
use Rattle.spec_scanner.specs.Stretches.{is_separator}
use Rattle.spec_scanner.proofs.Cutting.{cut_when, whole_when}
use Rattle.spec_scanner.proofs.cuts.split_stage.Goals as goal

pub returns-in_err-at : goal.returns-in_err-at
returns-in_err-at c = rw c.from_residual.ensures (whole_when is_separator c.args.items.now (sym c.first_separator.ensures ∙ c.in_err-at.was))

pub returns : goal.returns
returns c = cut_when is_separator c.args.items.now c.in_ok-at.at _ (sym c.first_separator.ensures ∙ c.in_ok-at.was)
