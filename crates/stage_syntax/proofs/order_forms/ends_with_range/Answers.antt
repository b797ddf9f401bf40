use Rattle.std.proofs.Common.{◌∙◌}
use Rattle.stage_syntax.proofs.OrderLists.{last_ends}
use Rattle.stage_syntax.proofs.order_forms.ends_with_range.Goals as goal

pub returns-in-Some : goal.returns-in-Some
returns-in-Some c = c.is_range.ensures ∙ last_ends c.args.values.now _ c.in-Some.ensures.item.3.0 c.in-Some.ensures.item.3.1
