use Rattle.std.proofs.Common.{refl}
use Rattle.stage_steps.proofs.HandingOn.{handed_on}
use Rattle.collate_stage.specs.declared.stage.CollateStage.{CollateStage}
use Rattle.stage_steps.specs.Planned.{PlannedStands}
use Rattle.collate_stage.specs.Plans.{CollatingStands, collating_looks}
use Rattle.collate_stage.specs.Stage.{CollateStands}
use Rattle.collate_stage.proofs.stage.CollateStageStage.see.Goals as goal

pub returns : goal.returns
returns c =
    handed_on {T = CollateStage} (PlannedStands CollatingStands collating_looks) (λ x. record { stage = x }) CollateStands (λ x s h is. is) (λ x s h is. is) c.args.self.now c.args.self.now.stage c.see.new.self c.args.bytes.now c.see.new.asked c.see.result refl c.see.ensures
