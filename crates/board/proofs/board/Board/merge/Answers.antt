use Rattle.std.proofs.Common.{rules, ap, arith}
use Rattle.board.specs.Counts.{times}
use Rattle.board.specs.Plays.{Sat}
use Rattle.board.proofs.Joins.{joins}
use Rattle.board.proofs.Keeps.{learns}
use Rattle.board.proofs.Sums.{times-append}
use Rattle.board.proofs.board.Board.merge.Goals as goal

pub join_seat-requires : goal.join_seat-requires
join_seat-requires g c = let i = c.requires.idle in (c.requires.id.0, c.requires.id.1, i.1, search rules, joins _ _ _ _ i.4 i.5 i.2 i.3)

pub load-requires : goal.load-requires
load-requires g c = (search rules, search rules, learns _ _ _)

pub returns-clause-apart : goal.returns-clause-apart
returns-clause-apart g c p = let few = c.load.ensures.2.2 p in let both = ap (λ (m : Sat). times p m.0.mine) c.join_seat.ensures.2 in let sum = times-append p c.args.seat.now.me.0.mine c.args.other.me.0.mine in omega arith
