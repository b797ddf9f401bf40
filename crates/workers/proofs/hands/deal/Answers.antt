use Rattle.std.proofs.Common.{arith}
use Rattle.board.specs.Names.{view, board_id}
use Rattle.workers.proofs.Dealing.{deals_on, deals_last, deals_all}
use Rattle.workers.proofs.hands.deal.Goals as goal

pub loop-preserved : goal.loop-preserved
loop-preserved g c =
    let s = c.split-left.ensures in let below = c.loop-test.true in let most = c.requires.workers.1 in
    record {
      dealt = deals_on (board_id c.args.board.now) (view c.args.pass) c.loop.counter _ _ c.loop.rest c.split-left.result.0 c.split-left.result.1 c.new.result c.loop.invariant.dealt
          (omega (arith, below, most)) c.requires.tries c.requires.shares s.board.0 s.board.1 s.first s.second c.new.ensures c.push_reserved.ensures.items;
    }

pub returns-clause-hands : goal.returns-clause-hands
returns-clause-hands g c = (deals_last (board_id c.args.board.now) (view c.args.pass) c.loop.counter _ _ c.loop.rest c.new-2.result c.loop.invariant.dealt c.new-2.ensures c.push_reserved-2.ensures.items).0

pub returns-clause-tries : goal.returns-clause-tries
returns-clause-tries g c = let most = c.requires.workers.1 in
    (deals_all (board_id c.args.board.now) (view c.args.pass) c.loop.counter _ _ c.loop.rest c.new-2.result c.loop.invariant.dealt (omega (arith, most)) c.requires.tries c.new-2.ensures c.push_reserved-2.ensures.items).0

pub returns-clause-all_tries : goal.returns-clause-all_tries
returns-clause-all_tries g c = let most = c.requires.workers.1 in
    (deals_all (board_id c.args.board.now) (view c.args.pass) c.loop.counter _ _ c.loop.rest c.new-2.result c.loop.invariant.dealt (omega (arith, most)) c.requires.tries c.new-2.ensures c.push_reserved-2.ensures.items).1
