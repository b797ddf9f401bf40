use Rattle.net_graph.proofs.UnfiledGraphs.{graph_unfiled}
use Rattle.call_meaning.proofs.nets.net_of.Goals as goal

pub returns-in-Ok-build-clause-unfiled : goal.returns-in-Ok-build-clause-unfiled
returns-in-Ok-build-clause-unfiled c = graph_unfiled c.in-Ok.scanned c.in-Ok-build.net c.in-Ok-build.ensures.read
