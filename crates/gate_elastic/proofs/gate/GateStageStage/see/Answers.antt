use Rattle.std.proofs.Common.{false}
use Rattle.stage_steps.proofs.HandingOn.{handed_on}
use Rattle.stage_steps.specs.Drivers.{ListedStands}
use Rattle.stage_steps.specs.Planned.{PlannedStands}
use Rattle.gate_elastic.specs.declared.gate.GateStage.TheVariants as Stages
use Rattle.gate_elastic.specs.Dams.{DamsStand}
use Rattle.gate_elastic.specs.GateLists.{GateListsStand, gate_lists_look}
use Rattle.gate_elastic.specs.Gates.{GatesStand}
use Rattle.gate_elastic.specs.Gate.{GateStands}
use Rattle.gate_elastic.proofs.gate.GateStageStage.see.Goals as goal

pub returns-in-Lists : goal.returns-in-Lists
returns-in-Lists c =
    handed_on (ListedStands GateListsStand gate_lists_look) Stages.Lists GateStands (λ x s h is. is) (λ x s h is. is) c.args.self.now c.in-Lists.stage c.see.new.self c.args.bytes.now c.see.new.asked c.see.result c.in-Lists.is c.see.ensures

pub returns-in-Gate : goal.returns-in-Gate
returns-in-Gate c =
    handed_on (PlannedStands GatesStand (λ _. false)) Stages.Gate GateStands (λ x s h is. is) (λ x s h is. is) c.args.self.now c.in-Gate.stage c.see-in-Gate.new.self c.args.bytes.now c.see-in-Gate.new.asked c.see-in-Gate.result c.in-Gate.is c.see-in-Gate.ensures

pub returns-in-Dam : goal.returns-in-Dam
returns-in-Dam c =
    handed_on (PlannedStands DamsStand (λ _. false)) Stages.Dam GateStands (λ x s h is. is) (λ x s h is. is) c.args.self.now c.in-Dam.stage c.see-in-Dam.new.self c.args.bytes.now c.see-in-Dam.new.asked c.see-in-Dam.result c.in-Dam.is c.see-in-Dam.ensures
