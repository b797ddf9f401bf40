use Rattle.std.proofs.Common.{◌≡◌, ◌++◌, None, drop}
use Rattle.net_graph.specs.Joins.{links_by}
use Rattle.net_graph.specs.Nets.{counted_all}
use Rattle.net_graph.proofs.joins.join_pipeline.Given as goal

abbrev pub invariant-loop-piece : goal.invariant-loop-piece
invariant-loop-piece l = record {
  count : counted_all l.after (drop l.piece-index l.pieces) ≡ counted_all l.fn.before l.pieces;
  same : l.links.items ++ links_by l.table l.previous l.after (drop l.piece-index l.pieces) ≡ l.initial.links.items ++ links_by l.table None l.fn.before l.pieces;
}
