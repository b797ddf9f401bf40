use Rattle.net_graph.proofs.StraightGraphs.{straight_graph}
use Rattle.net_graph.proofs.laws.straight_net.Goals as goal

pub returns : goal.returns
returns c = straight_graph
