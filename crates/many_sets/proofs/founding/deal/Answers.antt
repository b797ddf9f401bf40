use Rattle.std.proofs.Common.{◌-◌, length, subst, arith}
use Rattle.board.specs.Names.{view}
use Rattle.many_sets.proofs.Dealt.{Dealing, deals_last, deals_on}
use Rattle.many_sets.proofs.founding.deal.Goals as goal

pub loop-at-preserved : goal.loop-at-preserved
loop-at-preserved g c =
    let s = c.split-left.ensures in let push = c.push_reserved in let below = c.loop-at-test.true in let q = c.requires in
    record {
      dealt = deals_on c.args.board.now (view c.args.pass) c.loop-at.at c.args.hands.now c.loop-at.hands c.loop-at.rest c.split-left.result.0 c.split-left.result.1 c.index-hands-at.result _ c.loop-at.invariant.dealt
          (omega (arith, below)) q.workers.1 q.tries q.shares s.board.0 s.board.1 s.first s.second push.ensures.items push.ensures.capacity;
    }

pub returns : goal.returns
returns g c =
    let push = c.push_reserved-2 in let q = c.requires in let over = c.loop-at-test.false in let end = c.loop-at.auto.at-end in let some = q.workers.0 in
    let b = c.args.board.now in let v = view c.args.pass in let old = c.args.hands.now in
    deals_last b v (length old - 1) old c.loop-at.hands c.loop-at.rest c.index-hands-last.result _
    (subst (λ n. Dealing b v n old c.loop-at.hands c.loop-at.rest) (omega (arith, over, end)) c.loop-at.invariant.dealt) (omega (arith, some)) q.workers.1 q.tries push.ensures.items push.ensures.capacity
