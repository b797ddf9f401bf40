use Rattle.std.proofs.Common.{ap, ◌∙◌, sym}
use Rattle.board.specs.Plays.{Sat, kept_part}
use Rattle.board.proofs.Tells.{split_after, view_is}
use Rattle.board.proofs.board.Board.split.Goals as goal

pub invariant_of-result : goal.invariant_of-result
invariant_of-result g c = let p = c.args.pass in
    let was = sym (view_is p.badge.views c.into_seat-seat.result.me.0 c.into_seat-seat.ensures.2) in
    let is = ap (λ (m : Sat). m.0) c.cut-other.ensures.parts.0 ∙ ap (kept_part c.args.tries) was in
    record { known = split_after p.badge.views c.into_badge.result.views p.shares p.tries c.args.tries c.cut-other.new.seat.me.0 p.known c.requires.shares is c.into_badge.ensures.2 }
