use Rattle.board.specs.Names.{board_id, view}
use Rattle.workers.proofs.Dealing.{Dealing}
use Rattle.workers.proofs.hands.deal.Given as goal

abbrev pub invariant-loop : goal.invariant-loop
invariant-loop g l = record { dealt : Dealing (board_id l.board) (view l.fn.pass) l.counter l.hands.items l.rest }
