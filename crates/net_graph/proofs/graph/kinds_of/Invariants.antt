use Rattle.std.proofs.Common.{◌≡◌, ◌++◌, length}
use Rattle.net_graph.specs.Kept.{kinds_in}
use Rattle.net_graph.proofs.graph.kinds_of.Given as goal

abbrev pub invariant-loop-outcome : goal.invariant-loop-outcome
invariant-loop-outcome l = record {
  next : (goal.iterator-loop-outcome).can_next l.outcome-iterator;
  finite : (goal.iterator-loop-outcome).is_finite l.outcome-iterator;
  size : l.outcome-iterator.rest.len ≡ length l.outcome-iterator.rest.items;
  same : l.kinds.items ++ kinds_in l.outcome-iterator.rest.items ≡ kinds_in l.fn.outcomes.items;
}
