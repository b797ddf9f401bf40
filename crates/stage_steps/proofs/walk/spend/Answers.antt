use Rattle.std.proofs.Common.{◌∙◌, sym}
use Rattle.stage_steps.proofs.Spending.{spent_closed}
use Rattle.stage_steps.proofs.walk.spend.Goals as goal

pub returns-in_ok-next_group-in-Some-clause-spends : goal.returns-in_ok-next_group-in-Some-clause-spends
returns-in_ok-next_group-in-Some-clause-spends g c =
    spent_closed g.L.Lists.stands g.L.Lists.made c.args.outputs.now.flags.items c.args.lists.now c.next_group.new.lists c.in-Some.output c.in_ok-next_group-in-Some.field-0 c.in-Some.ensures (sym c.is_open.ensures ∙ c.if-is_open.false) c.in_ok-next_group-in-Some.ensures.fetches
