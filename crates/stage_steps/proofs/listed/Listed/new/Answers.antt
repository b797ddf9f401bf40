use Rattle.stage_steps.proofs.Starts.{fresh}
use Rattle.stage_steps.proofs.listed.Listed.new.Goals as goal

pub returns : goal.returns
returns g c = λ s t fits.
    fresh g.L.Lists.stands (g.L.Lists.is_looking c.args.lists) c.args.lists c.args.order c.args.outputs.now c.args.keeps c.in_ok-new.field-0 c.kept_if.result s t fits c.in_ok-new.ensures.connected c.in_ok-new.ensures.flags c.kept_if.ensures
