use Rattle.stage_syntax.proofs.EachKind.{each_kind}
use Rattle.stage_syntax.proofs.laws.each_kind.Goals as goal

pub returns : goal.returns
returns c = each_kind
