use Rattle.std.proofs.Common.{refl, ◌∙◌, ap}
use Rattle.lookup_stage.specs.Masters.{not_matched}
use Rattle.lookup_stage.proofs.Turns.{sees_end}
use Rattle.lookup_stage.proofs.lookup.LookupPlans.end.Goals as goal

pub returns-in-Details : goal.returns-in-Details
returns-in-Details c = record {
  looks_same = refl;
  plans = sees_end c.args.self.now c.replace-masters.new.dest c.into_unmatched.result (c.into_unmatched.ensures ∙ ap not_matched c.replace-masters.ensures.value) c.in-Details.is c.args._input;
}
