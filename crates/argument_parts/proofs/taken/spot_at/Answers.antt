use Rattle.argument_parts.proofs.TakenParts.{no_spot_part}
use Rattle.argument_parts.proofs.taken.spot_at.Goals as goal

pub returns-in-None-clause-read : goal.returns-in-None-clause-read
returns-in-None-clause-read c = no_spot_part c.args.text.now (rw c.in-None.is at c.in_ok-spelled.ensures.read)
