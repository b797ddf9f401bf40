use Rattle.std.proofs.Common.{Some}
use Rattle.board.proofs.Slots.{some_there}
use Rattle.board.proofs.board.Board.count.Goals as goal

pub slot_mut-slot-requires : goal.slot_mut-slot-requires
slot_mut-slot-requires g c = let t = c.requires.kept in (c.requires.id, (Some t.0, some_there c.args.seat.now.me.1 t.0 t.1))
