use Rattle.std.proofs.Common.{refl}
use Rattle.stage_steps.proofs.HandingOn.{handed_on}
use Rattle.select_stages.specs.declared.select.SelectStage.{SelectStage}
use Rattle.stage_steps.specs.Drivers.{ListedStands}
use Rattle.select_stages.specs.SelectLists.{SelectListsStand, select_lists_look}
use Rattle.select_stages.specs.Select.{SelectStands}
use Rattle.select_stages.proofs.select.SelectStageStage.see.Goals as goal

pub returns : goal.returns
returns c =
    handed_on {T = SelectStage} (ListedStands SelectListsStand select_lists_look) (λ x. record { stage = x }) SelectStands (λ x s h is. is) (λ x s h is. is) c.args.self.now c.args.self.now.stage c.see.new.self c.args.bytes.now c.see.new.asked c.see.result refl c.see.ensures
