use Rattle.std.proofs.Common.{◌∙◌}
use Rattle.net_graph.proofs.Usages.{later_past, pieces_past}
use Rattle.net_graph.proofs.uses.later_of.Goals as goal

pub loop-pieces-preserved : goal.loop-pieces-preserved
loop-pieces-preserved c =
    let on = pieces_past c.args.pipelines.now c.loop-pieces.pieces-index c.pieces-item.result c.pieces-item.is c.loop-pieces-test.true in
    later_past c.args.uses.now c.loop-pieces.later.items c.count_later.new.later.items c.as_slice.result.now c.pieces-item.result _ _ c.as_slice.ensures on c.in_ok-count_later.ensures
    ∙ c.loop-pieces.invariant
