use Rattle.argument_parts.proofs.TakenParts.{no_counter_part}
use Rattle.argument_parts.proofs.taken.counter_at.Goals as goal

pub returns-in-None-clause-read : goal.returns-in-None-clause-read
returns-in-None-clause-read c = no_counter_part c.args.text.now c.in-None.ensures.read
