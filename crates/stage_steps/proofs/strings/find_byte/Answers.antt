use Rattle.stage_steps.proofs.Searching.{one_byte}
use Rattle.stage_steps.proofs.strings.find_byte.Goals as goal

pub returns : goal.returns
returns c = one_byte c.args.part.now c.args.text.now c.requires c.place_of.result c.place_of.ensures
