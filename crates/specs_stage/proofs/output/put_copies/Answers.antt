use Rattle.std.proofs.Common.{◌∙◌}
use Rattle.specs_stage.proofs.Fitting.{over_grown}
use Rattle.specs_stage.proofs.output.put_copies.Goals as goal

pub returns : goal.returns
returns c = c.fill.ensures ∙ over_grown c.args.at c.args.byte c.args.count c.args.output.now.items c.grow.new.output.items c.requires.at c.in_ok-grow.ensures
