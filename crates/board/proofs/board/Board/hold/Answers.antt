use Rattle.std.proofs.Common.{inl}
use Rattle.board.proofs.Holder.{can_lend, can_give, has_done}
use Rattle.board.proofs.board.Board.hold.Goals as goal

pub lend-answer-requires-clause-kept : goal.lend-answer-requires-clause-kept
lend-answer-requires-clause-kept g c = let T = g.T.Task in
    can_lend (T.may c.args.task) (T.did c.args.task c.args.room.now) c.args.seat.now.me c.take.new.seat.me c.requires.rest (c.take.ensures.took c.if-take.true) c.requires.may

pub give_back-requires-clause-may : goal.give_back-requires-clause-may
give_back-requires-clause-may g c = let T = g.T.Task in
    can_give (T.may c.args.task) (T.did c.args.task c.args.room.now) c.args.seat.now.me c.take.new.seat.me c.requires.rest (c.take.ensures.took c.if-take.true) c.requires.may
    c.lend-answer.new.seat.me c.lend-answer.result c.lend-answer.new.room c.lend-answer.new.change c.lend-answer.ensures.lent

pub returns-then-take-clause-free : goal.returns-then-take-clause-free
returns-then-take-clause-free g c = let T = g.T.Task in
    (has_done (T.may c.args.task) (T.did c.args.task c.args.room.now) c.args.seat.now.me c.take.new.seat.me c.requires.rest (c.take.ensures.took c.if-take.true) c.requires.may
    c.lend-answer.new.seat.me c.lend-answer.result c.lend-answer.new.room c.lend-answer.new.change c.lend-answer.ensures.lent c.give_back.new.seat.me c.give_back.ensures.gave).0

pub returns-then-take-clause-told : goal.returns-then-take-clause-told
returns-then-take-clause-told g c = let T = g.T.Task in
    inl (has_done (T.may c.args.task) (T.did c.args.task c.args.room.now) c.args.seat.now.me c.take.new.seat.me c.requires.rest (c.take.ensures.took c.if-take.true) c.requires.may
    c.lend-answer.new.seat.me c.lend-answer.result c.lend-answer.new.room c.lend-answer.new.change c.lend-answer.ensures.lent c.give_back.new.seat.me c.give_back.ensures.gave).1
