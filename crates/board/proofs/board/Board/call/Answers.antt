use Rattle.std.proofs.Common.{subst, sym}
use Rattle.board.specs.Plays.{Sat}
use Rattle.board.specs.Holding.{MayDo}
use Rattle.board.proofs.Tells.{pass_rests, pass_after, pass_goes, pass_told}
use Rattle.board.proofs.board.Board.call.Goals as goal

pub hold-answer-requires-clause-rest : goal.hold-answer-requires-clause-rest
hold-answer-requires-clause-rest g c = let p = c.args.pass.now in pass_rests p.badge.views p.shares p.tries c.sit-seat.result.me p.known c.requires.tries c.sit-seat.ensures.2

pub hold-answer-requires-clause-may : goal.hold-answer-requires-clause-may
hold-answer-requires-clause-may g c = let T = g.T.Task in subst (λ (m : Sat). MayDo (T.may c.args.task) (T.did c.args.task c.args.room.now) m.0) (sym c.sit-seat.ensures.2) c.requires.may

pub invariant_of-pass : goal.invariant_of-pass
invariant_of-pass g c = let T = g.T.Task in let p = c.args.pass.now in let h = c.hold-answer in
    record { known = pass_after g.H.Taking.may_fail (T.did c.args.task c.args.room.now) (T.left c.args.task) h.result c.args.room.now h.new.room p.badge.views c.into_badge.result.views p.shares p.tries c.sit-seat.result.me h.new.seat.me p.known c.requires.tries c.sit-seat.ensures.2 h.ensures.free.1 c.into_badge.ensures.2 h.ensures.told }

pub returns-clause-goes : goal.returns-clause-goes
returns-clause-goes g c = let T = g.T.Task in let p = c.args.pass.now in let h = c.hold-answer in
    pass_goes g.H.Taking.may_fail (T.did c.args.task c.args.room.now) (T.left c.args.task) h.result c.args.room.now h.new.room p.badge.views c.into_badge.result.views p.shares p.tries c.sit-seat.result.me h.new.seat.me p.known c.requires.tries c.sit-seat.ensures.2 h.ensures.free.1 c.into_badge.ensures.2 h.ensures.told

pub returns-clause-told : goal.returns-clause-told
returns-clause-told g c = let T = g.T.Task in let p = c.args.pass.now in let h = c.hold-answer in
    pass_told g.H.Taking.may_fail (T.did c.args.task c.args.room.now) (T.left c.args.task) h.result c.args.room.now h.new.room p.badge.views c.into_badge.result.views p.shares p.tries c.sit-seat.result.me h.new.seat.me p.known c.requires.tries c.sit-seat.ensures.2 h.ensures.free.1 c.into_badge.ensures.2 h.ensures.told
