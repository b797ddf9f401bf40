use Rattle.std.proofs.Common.{◌≡◌, ◌++◌, drop}
use Rattle.net_graph.specs.Numbered.{pieces_of}
use Rattle.net_graph.specs.Uses.{later_by}
use Rattle.net_graph.proofs.uses.later_of.Given as goal

abbrev pub invariant-loop-pieces : goal.invariant-loop-pieces
invariant-loop-pieces l = l.later.items ++ later_by l.uses (pieces_of (drop l.pieces-index l.pipelines)) ≡ later_by l.uses (pieces_of l.pipelines)
