use Rattle.std.proofs.Common.{◌+◌, drop, ap, arith}
use Rattle.net_graph.proofs.Joined.{left_at, past_least}
use Rattle.net_graph.specs.Joins.{counted_past}
use Rattle.net_graph.specs.Nets.{counted_all}
use Rattle.net_graph.proofs.joins.joins_of.Goals as goal

pub join_pipeline-requires-clause-few : goal.join_pipeline-requires-clause-few
join_pipeline-requires-clause-few c =
    let on = ap (counted_past c.loop-pieces.before) (left_at c.args.pipelines.now c.loop-pieces.pieces-index c.pieces-item.result c.pieces-item.is c.loop-pieces-test.true) in
    let least = past_least (counted_all c.loop-pieces.before c.pieces-item.result) (drop (c.loop-pieces.pieces-index + 1) c.args.pipelines.now) in
    rw c.as_slice.ensures (omega (arith, on, least, c.loop-pieces.invariant.count, c.requires.few))
