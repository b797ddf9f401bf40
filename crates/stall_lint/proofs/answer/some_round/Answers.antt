-- The circle is a round.
use Rattle.stall_lint.specs.Circles.{IsCircle}
use Rattle.stall_lint.proofs.answer.some_round.Goals as goal

pub returns-in-Some : goal.returns-in-Some
returns-in-Some c =
    let circle : IsCircle c.args.net.now c.in-Some.hops.items = rw c.in-Some.is at c.in_ok-hops.ensures in
    c.in_ok-round-in-Some.ensures c.args.net.now (rw c.deref.ensures.value circle)
