-- Who is woken second is so beside the first.
use Rattle.core_machine.proofs.showing.begin.Goals as goal

pub returns-clause-writes : goal.returns-clause-writes
returns-clause-writes g c = c.wake-2.ensures.others c.args.pair.strand c.wake.ensures.here
