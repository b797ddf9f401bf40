use Rattle.std.proofs.Common.{◌≡◌, ◌≤◌, ◌+◌, nat_eq, length, drop, true}
use Rattle.net_graph.specs.Searches.{after_all}
use Rattle.net_graph.specs.Stands.{stages_of, stands_in}
use Rattle.net_graph.proofs.search.after_all.Given as goal

abbrev pub invariant-loop-k : goal.invariant-loop-k
invariant-loop-k l = record {
  within : l.search.stages + length (stages_of (stands_in (nat_eq l.k 0) (drop l.k l.pieces))) ≤ length l.outcomes;
  same : after_all l.table l.outcomes l.search (stands_in (nat_eq l.k 0) (drop l.k l.pieces)) ≡ after_all l.table l.outcomes l.fn.search (stands_in true l.pieces);
}
