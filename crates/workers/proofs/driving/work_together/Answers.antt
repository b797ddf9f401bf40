use Rattle.std.proofs.Common.{rules, ◌∙◌}
use Rattle.board.specs.Names.{view, board_id}
use Rattle.workers.proofs.Together.{left_as_it_was, hands_worked, left_at_end}
use Rattle.workers.proofs.driving.work_together.Goals as goal

pub returns-in-Err-clause-left : goal.returns-in-Err-clause-left
returns-in-Err-clause-left g c = left_as_it_was c.args.core c.in-Err.core c.requires.home c.in-Err.ensures.back

pub meet_all-pass-requires-clause-boards : goal.meet_all-pass-requires-clause-boards
meet_all-pass-requires-clause-boards g c k x below =
    let made = c.in-Ok.made in let hands = c.in-Ok-deal.hands in let w = c.work_all.ensures in let mine = c.as_mut_slice.ensures in
    let t = hands_worked (board_id made.0) (view made.1) hands.len hands.items c.as_mut_slice.result.now c.work_all.new.hands mine.value (search (rules, mine.len, w.len)) w.len w.passes c.in-Ok-deal.ensures.hands in
    (t.0 k x below).may.board

pub close-requires-2-clause-tries : goal.close-requires-2-clause-tries
close-requires-2-clause-tries g c =
    let made = c.in-Ok.made in let hands = c.in-Ok-deal.hands in let w = c.work_all.ensures in let mine = c.as_mut_slice.ensures in
    let t = hands_worked (board_id made.0) (view made.1) hands.len hands.items c.as_mut_slice.result.now c.work_all.new.hands mine.value (search (rules, mine.len, w.len)) w.len w.passes c.in-Ok-deal.ensures.hands in
    (c.meet_all-pass.ensures.passes (view made.1) t.0).may.tries

pub returns-clause-left : goal.returns-clause-left
returns-clause-left g c =
    let made = c.in-Ok.made in let hands = c.in-Ok-deal.hands in let w = c.work_all.ensures in let mine = c.as_mut_slice.ensures in let met = c.meet_all-pass in
    let t = hands_worked (board_id made.0) (view made.1) hands.len hands.items c.as_mut_slice.result.now c.work_all.new.hands mine.value (search (rules, mine.len, w.len)) w.len w.passes c.in-Ok-deal.ensures.hands in
    let all = met.ensures.passes (view made.1) t.0 in
    left_at_end c.args.core c.close-2.result (view made.1) (view met.result) c.in-Ok.ensures.pass all.net all.seen (met.ensures.shares ∙ t.1 ∙ c.in-Ok-deal.ensures.shares) all.may.settled c.close-2.ensures.ends
