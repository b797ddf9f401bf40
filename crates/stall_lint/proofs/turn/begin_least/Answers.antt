use Rattle.stall_lint.proofs.Turns.{begun_least}
use Rattle.stall_lint.proofs.turn.begin_least.Goals as goal

pub returns-then-not-is_empty : goal.returns-then-not-is_empty
returns-then-not-is_empty c net = begun_least net c.args.walk.now c.rotate_left.new.self c.least_place.result c.least_place.ensures c.rotate_left.ensures.len c.rotate_left.ensures.by_index
