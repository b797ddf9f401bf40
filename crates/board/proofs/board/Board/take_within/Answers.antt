use Rattle.std.proofs.Common.{rules, sym, ap, ◌∙◌, subst, ◌<◌}
use Rattle.board.specs.Plays.{Sat}
use Rattle.board.proofs.Keeps.{waits}
use Rattle.board.proofs.board.Board.take_within.Goals as goal

pub compare_exchange-found-requires : goal.compare_exchange-found-requires
compare_exchange-found-requires g c = let i = c.requires.rest in let same = c.loop.invariant.2 in
    (c.loop.invariant.0 ∙ c.requires.id, search rules, waits _ _ c.loop.seat.me (subst (λ (m : Sat). 0 < m.0.tries) (sym same) i.tries) (ap (λ (m : Sat). m.0.held) same ∙ i.held))
