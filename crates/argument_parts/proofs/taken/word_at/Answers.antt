use Rattle.argument_parts.proofs.TakenParts.{no_word_part}
use Rattle.argument_parts.proofs.taken.word_at.Goals as goal

pub returns-in-None-clause-read : goal.returns-in-None-clause-read
returns-in-None-clause-read c = no_word_part c.args.text.now c.args.key c.in-None.ensures.read
