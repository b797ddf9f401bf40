use Rattle.std.proofs.Common.{◌≡◌, ◌++◌, drop}
use Rattle.net_graph.specs.Joins.{counted_past, links_by_all}
use Rattle.net_graph.proofs.joins.joins_of.Given as goal

abbrev pub invariant-loop-pieces : goal.invariant-loop-pieces
invariant-loop-pieces l = record {
  count : counted_past l.before (drop l.pieces-index l.pipelines) ≡ counted_past 0 l.pipelines;
  same : l.links.items ++ links_by_all l.table l.before (drop l.pieces-index l.pipelines) ≡ links_by_all l.table 0 l.pipelines;
}
