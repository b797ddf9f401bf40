use Rattle.std.proofs.Common.{refl}
use Rattle.pipe_model.specs.declared.kind.Kind.TheVariants as Kinds
use Rattle.gate_elastic.specs.Gates.{gates, GatesStand}
use Rattle.gate_elastic.proofs.Fitting.{of_plans}
use Rattle.gate_elastic.proofs.gate.GateStage.of_gate.Goals as goal

pub returns : goal.returns
returns c = λ s kind_is outputs_are.
    of_plans GatesStand gates Kinds.Gate refl refl c.new.result c.args.outputs.now c.in_ok-new.field-0 c.new.ensures c.in_ok-new.ensures s kind_is refl outputs_are
