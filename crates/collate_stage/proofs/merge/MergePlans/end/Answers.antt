use Rattle.std.proofs.lemmas.Result.{on_ok_weaker}
use Rattle.collate_stage.proofs.MergeSteps.{end_plans}
use Rattle.collate_stage.proofs.merge.MergePlans.end.Goals as goal

pub returns-clause-plans : goal.returns-clause-plans
returns-clause-plans c = on_ok_weaker c.go_on.result
    (λ goes. end_plans c.args.self.now c.go_on.new.self c.end_at.new.lanes.items c.go_on.ensures.range c.go_on.ensures.lanes c.go_on.ensures.count goes c.args.input c.end_at.ensures)
    c.go_on.ensures.plans
