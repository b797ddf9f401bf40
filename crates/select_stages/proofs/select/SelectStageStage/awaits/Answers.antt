use Rattle.std.proofs.Common.{refl}
use Rattle.std.proofs.lemmas.Option.{IfSome_then}
use Rattle.stage_steps.proofs.HandingOn.{awaits_held}
use Rattle.stage_steps.specs.Drivers.{ListedStands}
use Rattle.select_stages.specs.declared.select.SelectStage.{SelectStage}
use Rattle.select_stages.specs.SelectLists.{SelectListsStand, select_lists_look}
use Rattle.select_stages.specs.Select.{SelectStands}
use Rattle.select_stages.proofs.select.SelectStageStage.awaits.Goals as goal

pub returns : goal.returns
returns c =
    IfSome_then c.awaits.result c.awaits.ensures (λ string takes.
    awaits_held {T = SelectStage} (ListedStands SelectListsStand select_lists_look) (λ x. record { stage = x }) SelectStands (λ x s h is. is) (λ x s h is. is) c.args.self.now c.args.self.now.stage string.now refl takes)
