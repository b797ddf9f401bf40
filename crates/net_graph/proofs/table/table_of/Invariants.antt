use Rattle.std.proofs.Common.{◌≡◌, drop, []}
use Rattle.net_graph.specs.Joins.{counted_past}
use Rattle.net_graph.specs.Numbered.{pieces_of}
use Rattle.net_graph.specs.Outcomes.{tabled}
use Rattle.net_graph.proofs.table.table_of.Given as goal

abbrev pub invariant-loop-pieces : goal.invariant-loop-pieces
invariant-loop-pieces l = record {
  count : counted_past l.before (drop l.pieces-index l.pipelines) ≡ counted_past 0 l.pipelines;
  same : tabled l.table.items l.before (pieces_of (drop l.pieces-index l.pipelines)) ≡ tabled [] 0 (pieces_of l.pipelines);
}
