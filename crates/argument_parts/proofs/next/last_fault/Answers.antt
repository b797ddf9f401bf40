use Rattle.std.proofs.Common.{◌∙◌}
use Rattle.argument_parts.proofs.Choices.{last_gives}
use Rattle.argument_parts.proofs.next.last_fault.Goals as goal

pub returns-in-Some : goal.returns-in-Some
returns-in-Some c = c.other_fault.ensures ∙ last_gives c.args.parts.now _ c.in-Some.ensures.item.3.0 c.in-Some.ensures.item.3.1
