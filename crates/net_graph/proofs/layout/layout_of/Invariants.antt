use Rattle.std.proofs.Common.{◌≡◌, ℕ, Some, length, slice_get}
use Rattle.net_graph.specs.declared.layout.Parts.{Parts}
use Rattle.net_graph.specs.Nets.{first_number}
use Rattle.net_graph.specs.Partings.{AreOfStage, sizes_by}
use Rattle.net_graph.proofs.layout.layout_of.Given as goal

abbrev pub invariant-loop-stage : goal.invariant-loop-stage
invariant-loop-stage l = record {
  size : length l.parts.items ≡ l.stage;
  count : l.strands ≡ first_number (sizes_by l.later l.kinds) l.stage;
  each : (stage : ℕ) (part : Parts) → slice_get l.parts.items stage ≡ Some part → AreOfStage (sizes_by l.later l.kinds) stage part;
}
