use Rattle.argument_parts.proofs.EachPart.{each_part}
use Rattle.argument_parts.proofs.laws.each_part.Goals as goal

pub returns : goal.returns
returns c = each_part
