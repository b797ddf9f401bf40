use Rattle.confluence_laws.proofs.Onwards.{onward_ends}
use Rattle.confluence_laws.proofs.run.onward.Goals as goal

pub returns : goal.returns
returns c = onward_ends c.args.net.now c.requires.formed c.requires.onward c.args.dispatch.now c.requires.legal c.requires.complete
