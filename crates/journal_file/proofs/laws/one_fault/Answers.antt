use Rattle.journal_file.proofs.OneFronts.{faults_same}
use Rattle.journal_file.proofs.laws.one_fault.Goals as goal

pub returns : goal.returns
returns c = faults_same
