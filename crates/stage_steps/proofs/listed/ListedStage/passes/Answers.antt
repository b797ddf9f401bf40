use Rattle.stage_steps.proofs.PassingOn.{stays, passes_on}
use Rattle.stage_steps.proofs.listed.ListedStage.passes.Goals as goal

pub returns-clause-same : goal.returns-clause-same
returns-clause-same g c = stays g.L.Lists.stands g.L.Lists.is_looking c.args.self.now.lists c.args.self.now.walk c.passes.new.walk c.passes.result c.passes.ensures

pub returns-clause-passes : goal.returns-clause-passes
returns-clause-passes g c = passes_on g.L.Lists.stands g.L.Lists.is_looking c.args.self.now.lists c.args.self.now.walk c.passes.new.walk c.passes.result c.passes.ensures
