use Rattle.board.specs.Names.{board_id}
use Rattle.workers.proofs.Dealing.{Meeting}
use Rattle.workers.proofs.hands.meet_all.Given as goal

abbrev pub invariant-loop-hand : goal.invariant-loop-hand
invariant-loop-hand g l = Meeting (board_id l.board) l.fn.hands.items l.hands.items l.all

abbrev pub decreases-loop-hand : goal.decreases-loop-hand
decreases-loop-hand g l = goal.left-loop-hand g l
