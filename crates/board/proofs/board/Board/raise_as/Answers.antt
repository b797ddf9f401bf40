use Rattle.std.proofs.Common.{rules}
use Rattle.board.proofs.Keeps.{raises}
use Rattle.board.proofs.board.Board.raise_as.Goals as goal

pub fetch_add-requires : goal.fetch_add-requires
fetch_add-requires g c = let t = c.requires.may in let me = c.args.seat.now.me in
    (c.requires.id, search rules, raises _ _ me me.0 t.2.0 t.0 c.args.made g.B.Brings.home g.B.Brings.lost (λ i. (me.0, t.1 i)) t.2.1 t.2.2)
