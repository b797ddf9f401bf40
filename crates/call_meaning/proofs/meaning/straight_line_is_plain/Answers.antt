use Rattle.call_meaning.proofs.LinePlain.{line_plain}
use Rattle.call_meaning.proofs.meaning.straight_line_is_plain.Goals as goal

pub returns : goal.returns
returns c = line_plain
