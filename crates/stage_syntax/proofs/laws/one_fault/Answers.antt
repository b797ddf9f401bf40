use Rattle.stage_syntax.proofs.OneKinds.{faults_same}
use Rattle.stage_syntax.proofs.laws.one_fault.Goals as goal

pub returns : goal.returns
returns c = faults_same
