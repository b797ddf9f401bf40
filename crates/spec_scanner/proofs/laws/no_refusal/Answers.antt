use Rattle.spec_scanner.proofs.OneReadings.{reads_unrefused}
use Rattle.spec_scanner.proofs.laws.no_refusal.Goals as goal

pub returns : goal.returns
returns c = reads_unrefused
