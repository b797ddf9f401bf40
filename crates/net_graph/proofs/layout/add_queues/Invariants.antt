use Rattle.std.proofs.Common.{◌≡◌, ◌++◌, List, drop}
use Rattle.net_graph.specs.Nets.{StageSize, queues_from}
use Rattle.net_graph.specs.Partings.{AreParts}
use Rattle.net_graph.proofs.layout.add_queues.Given as goal

abbrev pub invariant-loop-part : goal.invariant-loop-part
invariant-loop-part l = (sizes : List StageSize) → AreParts l.parts sizes → l.links.items ++ queues_from sizes l.part-index (drop l.part-index sizes) ≡ l.initial.links.items ++ queues_from sizes 0 sizes
