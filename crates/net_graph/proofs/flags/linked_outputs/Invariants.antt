use Rattle.std.proofs.Common.{take}
use Rattle.net_graph.specs.Flags.{AreFlags}
use Rattle.net_graph.specs.Nets.{is_linked_out}
use Rattle.net_graph.proofs.flags.linked_outputs.Given as goal

abbrev pub invariant-loop-link : goal.invariant-loop-link
invariant-loop-link l = AreFlags l.flags.items l.strands (is_linked_out (take l.link-index l.links))
