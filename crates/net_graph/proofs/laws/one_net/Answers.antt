use Rattle.net_graph.proofs.OneNets.{nets_same}
use Rattle.net_graph.proofs.laws.one_net.Goals as goal

pub returns : goal.returns
returns c = nets_same
