use Rattle.argument_parts.proofs.SpotFronts.{no_spot}
use Rattle.argument_parts.proofs.spots.spot.Goals as goal

pub returns-in-None-clause-read : goal.returns-in-None-clause-read
returns-in-None-clause-read c =
    no_spot c.args.text.now _ _ c.first_word.ensures (rw c.in_default.is at c.in_ok-spot.ensures.read) (rw c.in-None.is at c.in_ok-spot-2.ensures.read)
