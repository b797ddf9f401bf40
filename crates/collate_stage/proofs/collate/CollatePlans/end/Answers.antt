use Rattle.collate_stage.proofs.CollateSteps.{end_plans}
use Rattle.collate_stage.proofs.collate.CollatePlans.end.Goals as goal

pub returns-clause-plans : goal.returns-clause-plans
returns-clause-plans c = end_plans c.args.self.now c.end_on.new.self c.go_on.new.self c.args.input c.end_on.ensures (record {
  of_master_is = c.go_on.ensures.of_master;
  of_detail_is = c.go_on.ensures.of_detail;
  lane_is = c.go_on.ensures.master;
  other_is = c.go_on.ensures.detail;
  step_is = c.go_on.ensures.step;
  matched_is = c.go_on.ensures.matched;
})
