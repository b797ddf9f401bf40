use Rattle.std.proofs.Common.{◌≡◌, ◌+◌, ◌++◌, length, drop}
use Rattle.std.specs.Prelude.{sum_by}
use Rattle.net_graph.specs.Nets.{width_of}
use Rattle.net_graph.specs.Partings.{sizes_by}
use Rattle.net_graph.specs.Strands.{strands_by}
use Rattle.net_graph.proofs.strands.strands_of.Given as goal

abbrev pub invariant-loop-kind : goal.invariant-loop-kind
invariant-loop-kind l = record {
  next : (goal.iterator-loop-kind).can_next l.kind-iterator;
  finite : (goal.iterator-loop-kind).is_finite l.kind-iterator;
  size : l.kind-iterator.rest.len ≡ length l.kind-iterator.rest.items;
  stages : l.stage + length l.kind-iterator.rest.items ≡ length l.later;
  strands : length l.strands.items + sum_by width_of (sizes_by (drop l.stage l.later) l.kind-iterator.rest.items) ≡ sum_by width_of (sizes_by l.later l.fn.kinds.items);
  same : l.strands.items ++ strands_by l.inputs l.outputs l.stage (length l.strands.items) (sizes_by (drop l.stage l.later) l.kind-iterator.rest.items)
      ≡ strands_by l.inputs l.outputs 0 0 (sizes_by l.later l.fn.kinds.items);
}
