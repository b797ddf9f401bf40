use Rattle.spec_scanner.proofs.OneRefusals.{refusals_same}
use Rattle.spec_scanner.proofs.laws.one_refusal_of.Goals as goal

pub returns : goal.returns
returns c = refusals_same
