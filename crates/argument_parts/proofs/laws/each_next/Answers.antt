use Rattle.argument_parts.proofs.EachPart.{each_next}
use Rattle.argument_parts.proofs.laws.each_next.Goals as goal

pub returns : goal.returns
returns c = each_next
