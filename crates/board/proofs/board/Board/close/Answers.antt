use Rattle.std.proofs.Common.{◌≡◌, subst, sym}
use Rattle.core_machine.specs.Machine.{Machine}
use Rattle.board.specs.Pass.{the_view}
use Rattle.board.specs.Calls.{Ends}
use Rattle.board.specs.declared.view.View.{View}
use Rattle.board.proofs.Holder.{took_slot}
use Rattle.board.proofs.Tells.{ends_so, pass_rests, seated, view_is}
use Rattle.board.proofs.board.Board.close.Goals as goal

pub take-requires-clause-rest : goal.take-requires-clause-rest
take-requires-clause-rest g c = let p = c.args.pass in let m = c.into_seat-seat.result.me in
    pass_rests p.badge.views p.shares p.tries m p.known c.requires.tries (seated p.badge.views m c.into_seat-seat.ensures.2 c.into_seat-seat.ensures.3)

pub take_core-core-requires-clause-kept : goal.take_core-core-requires-clause-kept
take_core-core-requires-clause-kept g c = let t = c.take.ensures.took c.if-not-take.false in (t.kept, took_slot c.into_seat-seat.result.me c.take.new.seat.me t c.into_seat-seat.ensures.3, tt)

pub returns : goal.returns
returns g c = let p = c.args.pass in let m = c.into_seat-seat.result.me in
    let rest = pass_rests p.badge.views p.shares p.tries m p.known c.requires.tries (seated p.badge.views m c.into_seat-seat.ensures.2 c.into_seat-seat.ensures.3) in
    let t = c.take.ensures.took c.if-not-take.false in
    let is : c.take_core-core.result ≡ t.kept.0 = c.take_core-core.ensures t.kept (took_slot m c.take.new.seat.me t rest.free) in
    record {
      ends = subst (λ (x : Machine). Ends (the_view p.badge.views) x) (sym is)
          (subst (λ (v : View). Ends v t.kept.0) (sym (view_is p.badge.views m.0 c.into_seat-seat.ensures.2)) (ends_so m.0 t.kept rest.shares t.sees));
    }
