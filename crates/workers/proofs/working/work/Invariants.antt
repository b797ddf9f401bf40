use Rattle.std.proofs.Common.{◌≡◌, ◌<◌}
use Rattle.board.specs.Names.{view, board_of, board_id}
use Rattle.workers.specs.Work.{IsSettled, HasWorked}
use Rattle.workers.proofs.working.work.Given as goal

abbrev pub invariant-loop : goal.invariant-loop
invariant-loop g l = record {
  board : board_of l.pass ≡ board_id l.board;
  same : board_of l.pass ≡ board_of l.initial.pass;
  tries : 0 < (view l.pass).tries;
  settled : IsSettled (view l.pass);
  worked : HasWorked (view l.initial.pass) (view l.pass);
}
