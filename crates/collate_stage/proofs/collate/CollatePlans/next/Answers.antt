use Rattle.collate_stage.proofs.CollateSteps.{writes_both, writes_match, writes_master, writes_detail, takes_master, takes_detail}
use Rattle.collate_stage.proofs.collate.CollatePlans.next.Goals as goal

pub returns-in-WriteBoth-clause-gives : goal.returns-in-WriteBoth-clause-gives
returns-in-WriteBoth-clause-gives c = writes_both c.args.self.now c.in-WriteBoth.is

pub returns-in-WriteMatch-clause-gives : goal.returns-in-WriteMatch-clause-gives
returns-in-WriteMatch-clause-gives c = writes_match c.args.self.now c.in-WriteMatch.is

pub returns-in-WriteMaster-clause-gives : goal.returns-in-WriteMaster-clause-gives
returns-in-WriteMaster-clause-gives c = writes_master c.args.self.now c.in-WriteMaster.is

pub returns-in-WriteDetail-clause-gives : goal.returns-in-WriteDetail-clause-gives
returns-in-WriteDetail-clause-gives c = writes_detail c.args.self.now c.in-WriteDetail.is

pub returns-in-TakeMaster-clause-gives : goal.returns-in-TakeMaster-clause-gives
returns-in-TakeMaster-clause-gives c = takes_master c.args.self.now c.take.new.self c.in-TakeMaster.is c.take.ensures

pub returns-in-TakeDetail-clause-gives : goal.returns-in-TakeDetail-clause-gives
returns-in-TakeDetail-clause-gives c = takes_detail c.args.self.now c.take-in-TakeDetail.new.self c.in-TakeDetail.is c.take-in-TakeDetail.ensures
