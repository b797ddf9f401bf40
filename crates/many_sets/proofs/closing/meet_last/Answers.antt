use Rattle.std.proofs.Common.{◌++◌, Option, option_to_list, ap, ◌∙◌}
use Rattle.std.proofs.lemmas.List.{take_all}
use Rattle.board.specs.declared.pass.Pass.{Pass}
use Rattle.many_sets.specs.declared.hands.Hand.{Hand}
use Rattle.many_sets.specs.Hands.{last_shares}
use Rattle.many_sets.proofs.Meetings.{meets_first, meets_on, of_board}
use Rattle.many_sets.proofs.closing.meet_last.Goals as goal

pub loop-at-init : goal.loop-at-init
loop-at-init g c =
    let q = c.requires in
    record {
      met = meets_first c.args.board.now c.args.hands.now c.index-hands-0.result _ c.unwrap-all.result q.some
          (c.pop.ensures.items ∙ ap (λ (r : Option Pass). c.pop.new.self.items ++ option_to_list r) c.unwrap-all.ensures) q.boards;
    }

pub meet-all-requires : goal.meet-all-requires
meet-all-requires g c =
    let m = c.loop-at.invariant.met in let p = c.pop-in-loop-at in let at = c.index-hands-at.result in
    let left : Hand = record { passes = p.new.self; room = at.room; numbers = at.numbers } in
    record {
      board = (
        m.board,
        of_board c.args.board.now c.loop-at.at c.args.hands.now c.loop-at.hands at left c.unwrap-pass.result m.len m.same c.loop-at-test.true
            (p.ensures.items ∙ ap (λ (r : Option Pass). p.new.self.items ++ option_to_list r) c.unwrap-pass.ensures) c.requires.boards,
      );
    }

pub loop-at-preserved : goal.loop-at-preserved
loop-at-preserved g c =
    let m = c.loop-at.invariant.met in let p = c.pop-in-loop-at in let e = c.meet-all.ensures in
    record {
      met = meets_on c.args.board.now c.loop-at.at c.args.hands.now c.loop-at.hands c.loop-at.all c.meet-all.result c.index-hands-at.result _ c.unwrap-pass.result m c.loop-at-test.true
          (p.ensures.items ∙ ap (λ (r : Option Pass). p.new.self.items ++ option_to_list r) c.unwrap-pass.ensures) e.board e.both e.seen.0;
    }

pub returns-clause-shares : goal.returns-clause-shares
returns-clause-shares g c d = c.loop-at.invariant.met.sum d ∙ ap (last_shares d) (take_all c.loop-at.at c.args.hands.now c.loop-at-test.false)
