use Rattle.board.proofs.Joins.{opens}
use Rattle.board.proofs.board.Board.of_box.Goals as goal

pub new-requires : goal.new-requires
new-requires g c = rw (c.requires.len, c.push_reserved.ensures.items, c.in-Ok.ensures.items, c.requires.about) (opens c.args.core c.requires.lawful c.requires.home c.requires.whole)
