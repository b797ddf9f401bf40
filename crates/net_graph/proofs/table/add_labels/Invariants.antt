use Rattle.std.proofs.Common.{◌≡◌, drop}
use Rattle.net_graph.specs.Nets.{counted_all}
use Rattle.net_graph.specs.Outcomes.{tabled}
use Rattle.net_graph.proofs.table.add_labels.Given as goal

abbrev pub invariant-loop-piece : goal.invariant-loop-piece
invariant-loop-piece l = record {
  count : counted_all l.after (drop l.piece-index l.pieces) ≡ counted_all l.fn.before l.pieces;
  same : tabled l.table.items l.after (drop l.piece-index l.pieces) ≡ tabled l.initial.table.items l.fn.before l.pieces;
}
