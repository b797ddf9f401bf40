use Rattle.board.specs.Pass.{the_view}
use Rattle.board.specs.declared.view.View.{View}
use Rattle.board.specs.Calls.{less_one_try}
use Rattle.board.proofs.Changes.{may_finish, finish_changed}
use Rattle.board.proofs.Outcomes.{finish_held}
use Rattle.board.proofs.Tells.{either_of}
use Rattle.board.proofs.board.Board.finish.Goals as goal

pub call-requires-clause-may : goal.call-requires-clause-may
call-requires-clause-may g c = λ k s share. let v = the_view c.args.pass.now.badge.views in (may_finish v k s share g.S.Stage.stands c.args.done c.requires.can c.requires.stands, λ answer n room change did lawful. finish_changed v k s share c.args.done.place c.requires.can n change lawful answer did)

pub returns-clause-told : goal.returns-clause-told
returns-clause-told g c =
    let v : View = the_view c.args.pass.now.badge.views in let w : View = the_view c.call.new.pass.badge.views in
    either_of c.call.ensures.told (λ d. (d.found, finish_held (less_one_try v) w d.found d.left d.change d.held c.args.done.place c.call.result d.so)) (λ b. absurd (cc (b.0)))
