use Rattle.stage_syntax.proofs.OneKinds.{kind_faultless, kind_known}
use Rattle.stage_syntax.proofs.laws.no_kind_fault.Goals as goal

pub returns-clause-unknown : goal.returns-clause-unknown
returns-clause-unknown c = kind_known

pub returns-clause-argument : goal.returns-clause-argument
returns-clause-argument c = kind_faultless
