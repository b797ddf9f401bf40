use Rattle.std.proofs.Common.{◌∙◌}
use Rattle.stage_steps.proofs.Searching.{is_held}
use Rattle.stage_steps.proofs.strings.Sought.is_in.Goals as goal

pub returns : goal.returns
returns c = c.is_some.ensures ∙ is_held c.args.self.now c.args.part.now c.find.result c.find.ensures.first
