use Rattle.std.proofs.Common.{inl, inr}
use Rattle.stall_lint.proofs.Turns.{reads_from_end, stays}
use Rattle.stall_lint.proofs.turn.turn.Goals as goal
use Rattle.stall_lint.proofs.turn.turn.Goals.{else-count-gt1-via-then-count-gt1+else-walk-count, else-count-gt1-via-else-count-gt1}

pub returns-then-walk-count : goal.returns-then-walk-count
returns-then-walk-count c net = reads_from_end net c.args.walk.now c.reverse.new.self c.if-count-gt1.true c.if-walk-count.true c.reverse.ensures.after

pub returns-else-count-gt1 : goal.returns-else-count-gt1
returns-else-count-gt1 c net = stays net c.args.walk.now (elim c.else-count-gt1.branch [ else-count-gt1-via-then-count-gt1+else-walk-count w ↦ inr w.if-walk-count.false | else-count-gt1-via-else-count-gt1 w ↦ inl w.if-count-gt1.false ])
