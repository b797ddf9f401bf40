use Rattle.stage_steps.proofs.Aheads.{clear_place, clear_nowhere}
use Rattle.stage_steps.proofs.strings.Sought.clear.Goals as goal

pub returns-in-None-clause-clear : goal.returns-in-None-clause-clear
returns-in-None-clause-clear c = clear_nowhere c.args.self.now c.args.part.now c.front-near.result.now c.args.most c.front-near.ensures c.in-None.ensures.first

pub returns-in-Some-clause-clear : goal.returns-in-Some-clause-clear
returns-in-Some-clause-clear c = clear_place c.args.self.now c.args.part.now c.front-near.result.now c.args.most c.in-Some.place c.front-near.ensures c.in-Some.ensures.first
