use Rattle.stage_syntax.proofs.OneKinds.{kinds_same}
use Rattle.stage_syntax.proofs.laws.one_kind.Goals as goal

pub returns : goal.returns
returns c = kinds_same
