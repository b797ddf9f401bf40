use Rattle.std.proofs.Common.{ap, ◌∙◌, ◌++◌, Option, option_to_list}
use Rattle.board.specs.Names.{board_id}
use Rattle.workers.specs.declared.hands.Hand.{Hand}
use Rattle.workers.proofs.Dealing.{meets_first, meets_on, meets_may}
use Rattle.workers.proofs.hands.meet_all.Goals as goal

pub loop-hand-init : goal.loop-hand-init
loop-hand-init g c =
    meets_first (board_id c.args.board.now) c.args.hands.items c.pop.new.self.items c.unwrap-all.result c.requires.boards
    (c.pop.ensures.items ∙ ap (λ (r : Option Hand). c.pop.new.self.items ++ option_to_list r) c.unwrap-all.ensures)

pub meet-all-requires : goal.meet-all-requires
meet-all-requires g c =
    let p = c.pop-in-loop-hand in let m = c.loop-hand.invariant in
    record {
      board = (
        m.board,
        meets_may (board_id c.args.board.now) c.args.hands.items c.loop-hand.hands.items p.new.self.items c.in-Some.hand c.loop-hand.all m
            (p.ensures.items ∙ ap (λ (r : Option Hand). p.new.self.items ++ option_to_list r) c.in-Some.is),
      );
    }

pub loop-hand-preserved : goal.loop-hand-preserved
loop-hand-preserved g c =
    let p = c.pop-in-loop-hand in let e = c.meet-all.ensures in
    meets_on (board_id c.args.board.now) c.args.hands.items c.loop-hand.hands.items p.new.self.items c.in-Some.hand c.loop-hand.all c.meet-all.result c.loop-hand.invariant
    (p.ensures.items ∙ ap (λ (r : Option Hand). p.new.self.items ++ option_to_list r) c.in-Some.is) e.board e.both e.seen.0

pub returns-clause-passes : goal.returns-clause-passes
returns-clause-passes g c = λ v each. (c.loop-hand.invariant.workers v each).1
