use Rattle.net_graph.proofs.OneNets.{refusals_same}
use Rattle.net_graph.proofs.laws.one_net_refusal.Goals as goal

pub returns : goal.returns
returns c = refusals_same
