use Rattle.std.proofs.Common.{◌∙◌, ap}
use Rattle.std.proofs.lemmas.Result.{IfOk-weaker}
use Rattle.std.specs.declared.option.Option.TheVariants.{Some}
use Rattle.pipe_model.specs.Fields.{converted}
use Rattle.specs_stage.proofs.HexSteps.{from_clear}
use Rattle.specs_stage.proofs.desk.convert_into.Goals as goal

pub returns-in-X2c : goal.returns-in-X2c
returns-in-X2c c = IfOk-weaker c.add_from_hex.result _ _ (λ good is. ap (λ convert. converted (Some convert) c.args.field.now) c.in-X2c.is
    ∙ from_clear c.clear.new.self.items c.add_from_hex.new.bytes.items c.args.field.now good c.clear.ensures.items is) c.add_from_hex.ensures
