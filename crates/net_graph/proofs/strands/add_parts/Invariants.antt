use Rattle.std.proofs.Common.{◌≡◌, ◌++◌, length, map}
use Rattle.std.specs.List.{range_with_len}
use Rattle.net_graph.specs.Strands.{part_by}
use Rattle.net_graph.proofs.strands.add_parts.Given as goal

abbrev pub invariant-loop-part : goal.invariant-loop-part
invariant-loop-part l = l.strands.items ≡ l.initial.strands.items ++ map (part_by l.inputs l.outputs l.fn.stage (length l.initial.strands.items) l.kind) (range_with_len 0 l.part)
