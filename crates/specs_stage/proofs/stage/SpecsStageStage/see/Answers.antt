use Rattle.std.proofs.Common.{refl}
use Rattle.stage_steps.proofs.HandingOn.{handed_on}
use Rattle.specs_stage.specs.declared.stage.SpecsStage.{SpecsStage}
use Rattle.stage_steps.specs.Drivers.{ListedStands}
use Rattle.specs_stage.specs.SpecsLists.{SpecsStand, specs_look}
use Rattle.specs_stage.specs.SpecsStage.{SpecsStageStands}
use Rattle.specs_stage.proofs.stage.SpecsStageStage.see.Goals as goal

pub returns : goal.returns
returns c =
    handed_on {T = SpecsStage} (ListedStands SpecsStand specs_look) (λ x. record { stage = x }) SpecsStageStands (λ x s h is. is) (λ x s h is. is) c.args.self.now c.args.self.now.stage c.see.new.self c.args.bytes.now c.see.new.asked c.see.result refl c.see.ensures
