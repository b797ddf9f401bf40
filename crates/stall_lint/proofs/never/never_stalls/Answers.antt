use Rattle.stall_lint.proofs.Ends.{never_stalls}
use Rattle.stall_lint.proofs.never.never_stalls.Goals as goal

pub returns : goal.returns
returns c = never_stalls c.args.net.now c.requires.formed c.requires.settled c.requires.issues c.requires.undammed c.requires.unclosed
