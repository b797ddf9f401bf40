use Rattle.spec_scanner.proofs.OneReadings.{reads_one}
use Rattle.spec_scanner.proofs.laws.one_reading_of.Goals as goal

pub returns : goal.returns
returns c = reads_one
