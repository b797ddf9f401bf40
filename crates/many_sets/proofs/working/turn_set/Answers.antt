use Rattle.std.proofs.Common.{vec_capacity}
use Rattle.std.proofs.lemmas.Bool.{false≢true}
use Rattle.many_sets.proofs.Lefts.{none_left, one_left, turned_on}
use Rattle.many_sets.proofs.working.turn_set.Goals as goal

pub returns-then-at-boards-clause-left : goal.returns-then-at-boards-clause-left
returns-then-at-boards-clause-left g c = none_left c.args.boards.now c.args.passes.now c.requires

pub take_turn-requires-clause-settled : goal.take_turn-requires-clause-settled
take_turn-requires-clause-settled g c = (c.requires.each c.args.number c.index-boards-at.result c.index-passes-at-2.result c.if-at-boards.false).settled

pub returns-in-Done-clause-left : goal.returns-in-Done-clause-left
returns-in-Done-clause-left g c =
    let t = c.take_turn.ensures in
    one_left c.args.boards.now c.args.passes.now c.args.number c.index-passes-at-2.result c.take_turn.new.pass c.requires c.if-at-boards.false
    (record { board = t.board; tries = t.tries; settled = t.settled; worked = t.worked })

pub returns-in-Done-clause-goes_on : goal.returns-in-Done-clause-goes_on
returns-in-Done-clause-goes_on g c done =
    turned_on c.args.boards.now (g.G.Gate.is_open c.args.gate.now) c.args.passes.now c.args.number c.index-passes-at-2.result c.take_turn.new.pass (vec_capacity c.args.room.now) (vec_capacity c.take_turn.new.room)
    c.requires c.if-at-boards.false c.in-Done.ensures.turns

pub returns-in-Idle : goal.returns-in-Idle
returns-in-Idle g c =
    let t = c.take_turn.ensures in
    record {
      left = one_left c.args.boards.now c.args.passes.now c.args.number c.index-passes-at-2.result c.take_turn.new.pass c.requires c.if-at-boards.false
          (record { board = t.board; tries = t.tries; settled = t.settled; worked = t.worked });
      goes_on = λ never. absurd (false≢true never);
    }
