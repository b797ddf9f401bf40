use Rattle.std.proofs.Common.{cond, refl, ap}
use Rattle.std.proofs.lemmas.Bool.{ne_eqb}
use Rattle.pipe_model.specs.declared.kind.Kind.TheVariants as Kinds
use Rattle.pipe_model.specs.Shape.{listed, row, each_record, copied}
use Rattle.pipe_model.specs.Shape.Order.{WritesFirst}
use Rattle.gate_elastic.specs.Dams.{dams, DamsStand}
use Rattle.gate_elastic.proofs.Fitting.{of_plans}
use Rattle.gate_elastic.proofs.gate.GateStage.of_dam.Goals as goal

pub returns : goal.returns
returns c = λ s kind_is other outputs_are.
    of_plans DamsStand dams Kinds.Dam refl refl c.new.result c.args.outputs.now c.in_ok-new.field-0 c.new.ensures c.in_ok-new.ensures s kind_is
    (ap (λ first. cond first (listed WritesFirst (each_record copied)) (row dams)) (ne_eqb s.part 0 other)) outputs_are
