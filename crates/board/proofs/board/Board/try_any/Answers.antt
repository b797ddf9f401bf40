use Rattle.std.specs.Prelude.{vec_capacity}
use Rattle.board.specs.Pass.{the_view}
use Rattle.board.specs.declared.view.View.{View}
use Rattle.board.specs.Calls.{less_one_try}
use Rattle.board.proofs.Changes.{any_changed}
use Rattle.board.proofs.Outcomes.{any_held, try_any_told, busy_any_told}
use Rattle.board.proofs.Tells.{either_of}
use Rattle.board.proofs.board.Board.try_any.Goals as goal

pub call-requires-clause-may : goal.call-requires-clause-may
call-requires-clause-may g c = λ k s share. (tt, λ answer n room change did lawful. any_changed (the_view c.args.pass.now.badge.views) k s share g.S.Stage.stands n change lawful (vec_capacity c.args.room.now) answer room.items did.0)

pub returns-clause-told : goal.returns-clause-told
returns-clause-told g c =
    let v : View = the_view c.args.pass.now.badge.views in let w : View = the_view c.call.new.pass.badge.views in
    either_of c.call.ensures.told
    (λ d. try_any_told g.S.Stage.stands v w (vec_capacity c.args.room.now) c.call.result c.call.new.room.items (d.found, any_held (less_one_try v) w d.found d.left d.change d.held g.S.Stage.stands (vec_capacity c.args.room.now) c.call.result c.call.new.room.items d.so.0))
    (λ b. busy_any_told g.S.Stage.stands v w (vec_capacity c.args.room.now) c.call.result c.call.new.room.items b.1 b.2)
