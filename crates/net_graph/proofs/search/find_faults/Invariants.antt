use Rattle.std.proofs.Common.{◌≡◌, ◌≤◌, ◌+◌, length, drop}
use Rattle.net_graph.proofs.Searched.{start}
use Rattle.net_graph.specs.Searches.{after_all}
use Rattle.net_graph.specs.Stands.{stages_of, stands_of}
use Rattle.net_graph.proofs.search.find_faults.Given as goal

abbrev pub invariant-loop-pieces : goal.invariant-loop-pieces
invariant-loop-pieces l = record {
  within : l.search.stages + length (stages_of (stands_of (drop l.pieces-index l.pipelines))) ≤ length l.outcomes;
  same : after_all l.table l.outcomes l.search (stands_of (drop l.pieces-index l.pipelines)) ≡ after_all l.table l.outcomes start (stands_of l.pipelines);
}
