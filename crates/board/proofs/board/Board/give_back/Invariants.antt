use Rattle.board.specs.Holding.{home_by, lost_by}
use Rattle.board.proofs.board.Board.give_back.Given as goal

abbrev pub ghosts-raise_as : goal.ghosts-raise_as
ghosts-raise_as g a = record { home = home_by a._change; lost = lost_by a._change }

abbrev pub ghosts-put_home_as : goal.ghosts-put_home_as
ghosts-put_home_as g a = record { home = home_by a._change; lost = lost_by a._change }
