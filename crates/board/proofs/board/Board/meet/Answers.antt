use Rattle.std.proofs.Common.{◌≡◌, ap, ◌∙◌, sym, subst, ◌+◌, ◌≤◌}
use Rattle.board.specs.Counts.{times}
use Rattle.board.specs.Plays.{Sat, both}
use Rattle.board.specs.Pass.{the_view}
use Rattle.board.specs.declared.view.View.{View}
use Rattle.board.proofs.Tells.{meet_after, view_is}
use Rattle.board.proofs.board.Board.meet.Goals as goal

pub invariant_of-result : goal.invariant_of-result
invariant_of-result g c = let a = c.args.a in let b = c.args.b in
    let first = sym (view_is a.badge.views c.into_seat-seat.result.me.0 c.into_seat-seat.ensures.2) in
    let second = sym (view_is b.badge.views c.into_seat.result.me.0 c.into_seat.ensures.2) in
    let is : c.merge.new.seat.me.0 ≡ both (the_view a.badge.views) (the_view b.badge.views) = ap (λ (m : Sat). m.0) c.merge.ensures.both ∙ (λ i. both (first i) (second i)) in
    record { known = meet_after a.badge.views b.badge.views c.into_badge.result.views a.shares a.tries b.shares b.tries c.merge.new.seat.me.0 a.known b.known is c.into_badge.ensures.2 }

pub returns-clause-apart : goal.returns-clause-apart
returns-clause-apart g c p = let a = c.args.a in let b = c.args.b in
    let first = view_is a.badge.views c.into_seat-seat.result.me.0 c.into_seat-seat.ensures.2 in
    let second = view_is b.badge.views c.into_seat.result.me.0 c.into_seat.ensures.2 in
    subst (λ (x : View × View). times p x.0.mine + times p x.1.mine ≤ 1) (λ i. (sym first i, sym second i)) (c.merge.ensures.apart p)
