use Rattle.collate_stage.proofs.CollateSteps.{saw_plans}
use Rattle.collate_stage.proofs.collate.CollatePlans.see.Goals as goal

pub returns-clause-plans : goal.returns-clause-plans
returns-clause-plans c = saw_plans c.args.self.now c.show.new.self c.go_on.new.self c.args.input c.args.bytes.now c.in_ok-show.ensures (record {
  of_master_is = c.go_on.ensures.of_master;
  of_detail_is = c.go_on.ensures.of_detail;
  lane_is = c.go_on.ensures.master;
  other_is = c.go_on.ensures.detail;
  step_is = c.go_on.ensures.step;
  matched_is = c.go_on.ensures.matched;
})
