use Rattle.std.proofs.Common.{◌≡◌, ◌++◌, List, map, take}
use Rattle.net_graph.specs.Nets.{StageSize, link_of}
use Rattle.net_graph.specs.Partings.{AreParts}
use Rattle.net_graph.proofs.layout.add_links.Given as goal

abbrev pub invariant-loop-join : goal.invariant-loop-join
invariant-loop-join l = (sizes : List StageSize) → AreParts l.parts sizes → l.links.items ≡ l.initial.links.items ++ map (link_of sizes) (take l.join-index l.joins)
