use Rattle.std.proofs.Common.{◌+◌, ◌∙◌, drop, ap, arith, sym}
use Rattle.net_graph.specs.Joins.{counted_past}
use Rattle.net_graph.specs.Nets.{counted_all}
use Rattle.net_graph.proofs.Joined.{left_at, past_least}
use Rattle.net_graph.proofs.Tables.{tabled_past}
use Rattle.net_graph.proofs.Usages.{pieces_past}
use Rattle.net_graph.proofs.table.table_of.Goals as goal

pub add_labels-requires : goal.add_labels-requires
add_labels-requires c =
    let on = ap (counted_past c.loop-pieces.before) (left_at c.args.pipelines.now c.loop-pieces.pieces-index c.pieces-item.result c.pieces-item.is c.loop-pieces-test.true) in
    let least = past_least (counted_all c.loop-pieces.before c.pieces-item.result) (drop (c.loop-pieces.pieces-index + 1) c.args.pipelines.now) in
    rw c.as_slice.ensures (omega (arith, on, least, c.loop-pieces.invariant.count, c.requires))

pub loop-pieces-preserved : goal.loop-pieces-preserved
loop-pieces-preserved c =
    let on = left_at c.args.pipelines.now c.loop-pieces.pieces-index c.pieces-item.result c.pieces-item.is c.loop-pieces-test.true in
    let pieces = pieces_past c.args.pipelines.now c.loop-pieces.pieces-index c.pieces-item.result c.pieces-item.is c.loop-pieces-test.true in
    record {
      count = rw (c.in_ok-before.ensures.count, c.as_slice.ensures) (sym (ap (counted_past c.loop-pieces.before) on) ∙ c.loop-pieces.invariant.count);
      same = tabled_past c.loop-pieces.table.items c.add_labels.new.table.items c.loop-pieces.before c.in_ok-before.before c.as_slice.result.now c.pieces-item.result _ _
          c.as_slice.ensures pieces c.in_ok-before.ensures.table c.in_ok-before.ensures.count ∙ c.loop-pieces.invariant.same;
    }
