use Rattle.std.proofs.Common.{◌≡◌, drop}
use Rattle.net_graph.specs.Numbered.{AreNumbered}
use Rattle.net_graph.specs.Uses.{uses_past}
use Rattle.net_graph.proofs.uses.use_pieces.Given as goal

abbrev pub invariant-loop-piece : goal.invariant-loop-piece
invariant-loop-piece l = record {
  numbered : AreNumbered l.uses.items (drop l.piece-index l.pieces);
  same : uses_past l.uses.items (drop l.piece-index l.pieces) ≡ uses_past l.initial.uses.items l.pieces;
}
