use Rattle.std.proofs.Common.{refl}
use Rattle.stage_steps.proofs.HandingOn.{handed_on}
use Rattle.edit_stages.specs.declared.edit.EditStage.{EditStage}
use Rattle.stage_steps.specs.Drivers.{ListedStands}
use Rattle.edit_stages.specs.AnyLists.{AnyListsStand, any_look}
use Rattle.edit_stages.specs.Edit.{EditStands}
use Rattle.edit_stages.proofs.edit.EditStageStage.see.Goals as goal

pub returns : goal.returns
returns c =
    handed_on {T = EditStage} (ListedStands AnyListsStand any_look) (λ x. record { stage = x }) EditStands (λ x s h is. is) (λ x s h is. is) c.args.self.now c.args.self.now.stage c.see.new.self c.args.bytes.now c.see.new.asked c.see.result refl c.see.ensures
