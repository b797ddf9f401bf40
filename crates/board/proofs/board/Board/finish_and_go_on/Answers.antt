use Rattle.board.specs.Pass.{the_view}
use Rattle.board.specs.declared.view.View.{View}
use Rattle.board.specs.Calls.{less_one_try, most_after}
use Rattle.board.proofs.Changes.{may_finish, go_on_changed}
use Rattle.board.proofs.Outcomes.{go_on_held}
use Rattle.board.proofs.Tells.{either_of}
use Rattle.board.proofs.board.Board.finish_and_go_on.Goals as goal

pub call-requires-clause-may : goal.call-requires-clause-may
call-requires-clause-may g c = λ k s share. let v = the_view c.args.pass.now.badge.views in let p = c.args.done.place in (may_finish v k s share g.S.Stage.stands c.args.done c.requires.can c.requires.stands, λ answer n room change did lawful. go_on_changed v k s share p c.requires.can n change lawful (g.G.Gate.is_open c.args.gate.now) (most_after c.args.at_once k.0 p) answer did)

pub returns-clause-told : goal.returns-clause-told
returns-clause-told g c =
    let v : View = the_view c.args.pass.now.badge.views in let w : View = the_view c.call.new.pass.badge.views in
    either_of c.call.ensures.told (λ d. (d.found, go_on_held (less_one_try v) w d.found d.left d.change d.held c.args.done.place (g.G.Gate.is_open c.args.gate.now) (most_after c.args.at_once d.found c.args.done.place) c.call.result d.so)) (λ b. absurd (cc (b.0)))
