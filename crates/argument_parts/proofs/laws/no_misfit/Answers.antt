use Rattle.argument_parts.proofs.OneRanges.{no_range_misfit}
use Rattle.argument_parts.proofs.laws.no_misfit.Goals as goal

pub returns : goal.returns
returns c = no_range_misfit
