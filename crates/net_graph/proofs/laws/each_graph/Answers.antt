use Rattle.net_graph.proofs.EachGraph.{each_graph}
use Rattle.net_graph.proofs.laws.each_graph.Goals as goal

pub returns : goal.returns
returns c = each_graph
