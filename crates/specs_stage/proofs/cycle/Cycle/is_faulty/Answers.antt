use Rattle.specs_stage.proofs.CycleSteps.{faulty_is}
use Rattle.specs_stage.proofs.cycle.Cycle.is_faulty.Goals as goal

pub returns-clause-told : goal.returns-clause-told
returns-clause-told c = λ recs wrote is. let x = c.args.self.now in faulty_is x.items.items recs x.desk wrote x.at x.is_faulty is
