use Rattle.std.proofs.Common.{◌≡◌, [], drop}
use Rattle.net_graph.specs.Numbered.{AreNumbered, pieces_of}
use Rattle.net_graph.specs.Uses.{uses_past}
use Rattle.net_graph.proofs.uses.uses_of.Given as goal

abbrev pub invariant-loop-pieces : goal.invariant-loop-pieces
invariant-loop-pieces l = record {
  numbered : AreNumbered l.uses.items (pieces_of (drop l.pieces-index l.pipelines));
  same : uses_past l.uses.items (pieces_of (drop l.pieces-index l.pipelines)) ≡ uses_past [] (pieces_of l.pipelines);
}
