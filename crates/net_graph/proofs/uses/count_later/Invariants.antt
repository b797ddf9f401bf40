use Rattle.std.proofs.Common.{◌≡◌, ◌++◌, drop}
use Rattle.net_graph.specs.Uses.{later_by}
use Rattle.net_graph.proofs.uses.count_later.Given as goal

abbrev pub invariant-loop-piece : goal.invariant-loop-piece
invariant-loop-piece l = l.later.items ++ later_by l.uses (drop l.piece-index l.pieces) ≡ l.initial.later.items ++ later_by l.uses l.pieces
