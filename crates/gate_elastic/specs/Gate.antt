-- The kinds of the stages that only pass on what they read, and what their stages stand for.
use Rattle.std.specs.Prelude.{Bool, true, false, List}
use Rattle.pipe_model.specs.declared.net.Strand.{Strand}
use Rattle.pipe_model.specs.declared.kind.Kind.{Kind}
use Rattle.pipe_model.specs.declared.kind.Kind.TheVariants as Kinds
use Rattle.pipe_model.specs.Event.{Event}
use Rattle.stage_steps.specs.Drivers.{ListedStands}
use Rattle.stage_steps.specs.Planned.{PlannedStands}
use Rattle.gate_elastic.specs.declared.gate.GateStage.{GateStage}
use Rattle.gate_elastic.specs.declared.gate.GateStage.TheVariants as Stages
use Rattle.gate_elastic.specs.Dams.{DamsStand}
use Rattle.gate_elastic.specs.GateLists.{GateListsStand, gate_lists_look}
use Rattle.gate_elastic.specs.Gates.{GatesStand}

-- the stage of the kind is one of these
abbrev pub is_gate : Kind → Bool
is_gate Kinds.Copy = true
is_gate Kinds.Buffer = true
is_gate Kinds.Elastic = true
is_gate Kinds.Gate = true
is_gate Kinds.Dam = true
is_gate _ = false

-- the stage stands for this history of this strand
abbrev pub GateStands : GateStage → Strand → List Event → Type 0
GateStands (Stages.Lists x) s h = ListedStands GateListsStand gate_lists_look x s h
GateStands (Stages.Gate x) s h = PlannedStands GatesStand (λ _. false) x s h
GateStands (Stages.Dam x) s h = PlannedStands DamsStand (λ _. false) x s h
