use Rattle.net_graph.proofs.EachGraph.{each_net}
use Rattle.net_graph.proofs.laws.each_net.Goals as goal

pub returns : goal.returns
returns c = each_net
