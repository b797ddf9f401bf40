use Rattle.many_sets.proofs.Lefts.{none_left, lent_left}
use Rattle.many_sets.proofs.working.work_one.Goals as goal

pub loop-init : goal.loop-init
loop-init g c = record { may = c.requires; left = none_left c.args.boards.now c.args.hand.now.passes.items c.requires }

pub loop-preserved-then-turn_set : goal.loop-preserved-then-turn_set
loop-preserved-then-turn_set g c =
    let items = c.loop.hand.passes.items in let lent = c.as_mut_slice-passes in let i = c.loop.invariant in
    let t = lent_left c.args.boards.now c.args.hand.now.passes.items items lent.result.now c.turn_set.new.passes c.loop.hand.passes.len lent.ensures.value lent.ensures.len i.may i.left c.turn_set.ensures.left in
    record { may = t.0; left = t.1 }

pub loop-preserved : goal.loop-preserved
loop-preserved g c =
    let items = c.loop.hand.passes.items in let lent = c.as_mut_slice-passes in let i = c.loop.invariant in
    let t = lent_left c.args.boards.now c.args.hand.now.passes.items items lent.result.now c.turn_set.new.passes c.loop.hand.passes.len lent.ensures.value lent.ensures.len i.may i.left c.turn_set.ensures.left in
    record { may = t.0; left = t.1 }
