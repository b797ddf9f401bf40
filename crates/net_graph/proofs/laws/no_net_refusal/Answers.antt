use Rattle.net_graph.proofs.OneNets.{net_unrefused}
use Rattle.net_graph.proofs.laws.no_net_refusal.Goals as goal

pub returns : goal.returns
returns c = net_unrefused
