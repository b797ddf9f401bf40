use Rattle.std.proofs.Common.{rules}
use Rattle.board.proofs.Joins.{cuts}
use Rattle.board.proofs.board.Board.cut_as.Goals as goal

pub split_seat-requires : goal.split_seat-requires
split_seat-requires g c = let p = c.requires.parts in (c.requires.id, search rules, cuts g.A.Amount.tries _ _ p.0 p.1 p.2)
