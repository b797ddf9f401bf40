use Rattle.std.proofs.Common.{◌+◌, ◌∙◌, drop, ap, sym, subst}
use Rattle.net_graph.specs.Numbered.{AreNumbered, pieces_of}
use Rattle.net_graph.specs.Uses.{uses_past}
use Rattle.net_graph.proofs.Usages.{numbered_left, numbered_right, pieces_past, uses_both}
use Rattle.net_graph.proofs.uses.uses_of.Goals as goal

pub use_pieces-requires : goal.use_pieces-requires
use_pieces-requires c =
    let on = pieces_past c.args.pipelines.now c.loop-pieces.pieces-index c.pieces-item.result c.pieces-item.is c.loop-pieces-test.true in
    let more = pieces_of (drop (c.loop-pieces.pieces-index + 1) c.args.pipelines.now) in
    rw c.as_slice.ensures (numbered_left c.loop-pieces.uses.items c.pieces-item.result more (subst (AreNumbered c.loop-pieces.uses.items) on c.loop-pieces.invariant.numbered))

pub loop-pieces-preserved : goal.loop-pieces-preserved
loop-pieces-preserved c =
    let on = pieces_past c.args.pipelines.now c.loop-pieces.pieces-index c.pieces-item.result c.pieces-item.is c.loop-pieces-test.true in
    let more = pieces_of (drop (c.loop-pieces.pieces-index + 1) c.args.pipelines.now) in
    let new = c.in_ok-use_pieces.ensures ∙ ap (uses_past c.loop-pieces.uses.items) c.as_slice.ensures in
    record {
      numbered = rw new (numbered_right c.loop-pieces.uses.items c.pieces-item.result more (subst (AreNumbered c.loop-pieces.uses.items) on c.loop-pieces.invariant.numbered));
      same = rw new (sym (uses_both c.loop-pieces.uses.items c.pieces-item.result more) ∙ (sym (ap (uses_past c.loop-pieces.uses.items) on) ∙ c.loop-pieces.invariant.same));
    }
