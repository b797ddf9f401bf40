use Rattle.std.proofs.Common.{refl}
use Rattle.stage_steps.proofs.HandingOn.{handed_on}
use Rattle.lookup_stage.specs.declared.stage.LookupStage.{LookupStage}
use Rattle.stage_steps.specs.Planned.{PlannedStands}
use Rattle.lookup_stage.specs.Lookup.{LookupIs, lookup_looks}
use Rattle.lookup_stage.specs.LookupStage.{LookupStands}
use Rattle.lookup_stage.proofs.stage.LookupStageStage.see.Goals as goal

pub returns : goal.returns
returns c =
    handed_on {T = LookupStage} (PlannedStands LookupIs lookup_looks) (λ x. record { stage = x }) LookupStands (λ x s h is. is) (λ x s h is. is) c.args.self.now c.args.self.now.stage c.see.new.self c.args.bytes.now c.see.new.asked c.see.result refl c.see.ensures
