use Rattle.std.specs.Prelude.{vec_capacity}
use Rattle.board.specs.Pass.{the_view}
use Rattle.board.specs.declared.view.View.{View}
use Rattle.board.specs.Calls.{less_one_try}
use Rattle.board.proofs.Changes.{turn_changed}
use Rattle.board.proofs.Outcomes.{turn_held, try_turn_told, busy_turn_told}
use Rattle.board.proofs.Tells.{either_of}
use Rattle.board.proofs.board.Board.try_turn.Goals as goal

pub call-requires-clause-may : goal.call-requires-clause-may
call-requires-clause-may g c = λ k s share. (tt, λ answer n room change did lawful. turn_changed (the_view c.args.pass.now.badge.views) k s share g.S.Stage.stands n change lawful c.args.strand c.args.stream (vec_capacity c.args.room.now) answer room.items did.0)

pub returns-clause-told : goal.returns-clause-told
returns-clause-told g c =
    let v : View = the_view c.args.pass.now.badge.views in let w : View = the_view c.call.new.pass.badge.views in
    either_of c.call.ensures.told
    (λ d. try_turn_told g.S.Stage.stands v w c.args.strand c.args.stream (vec_capacity c.args.room.now) c.call.result c.call.new.room.items (d.found, turn_held (less_one_try v) w d.found d.left d.change d.held g.S.Stage.stands c.args.strand c.args.stream (vec_capacity c.args.room.now) c.call.result c.call.new.room.items d.so.0))
    (λ b. busy_turn_told g.S.Stage.stands v w c.args.strand c.args.stream (vec_capacity c.args.room.now) c.call.result c.call.new.room.items b.1 b.2)
