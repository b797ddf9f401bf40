-- The way begins with the strand itself.
use Rattle.stall_lint.proofs.LookingBack.{looking_begins}
use Rattle.stall_lint.proofs.rings.look_back.Goals as goal

pub loop-last-init : goal.loop-last-init
loop-last-init c =
    let entered = c.in_ok-enter.ensures in
    rw (entered.looks, entered.way, c.new-way.ensures.items) (looking_begins c.args.net.now c.args.waiting.now c.args.looks.now c.requires.search c.args.start c.requires.fresh)
