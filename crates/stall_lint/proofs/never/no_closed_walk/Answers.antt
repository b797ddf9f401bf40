use Rattle.stall_lint.proofs.NoRounds.{no_round}
use Rattle.stall_lint.proofs.never.no_closed_walk.Goals as goal

pub returns : goal.returns
returns c walk closed = no_round c.args.net.now c.requires.formed c.requires.acyclic c.requires.rooted walk closed.0
