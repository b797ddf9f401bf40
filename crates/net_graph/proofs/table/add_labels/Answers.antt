use Rattle.std.proofs.Common.{drop, arith}
use Rattle.net_graph.proofs.Joined.{count_least}
use Rattle.net_graph.proofs.table.add_labels.Goals as goal

pub counted-after-requires : goal.counted-after-requires
counted-after-requires c = omega (arith, count_least c.loop-piece.after (drop c.loop-piece.piece-index c.args.pieces.now), c.loop-piece.invariant.count, c.requires)
