use Rattle.std.proofs.Common.{◌∙◌, ap, List, ℕ}
use Rattle.std.specs.declared.option.Option.TheVariants.{Some}
use Rattle.pipe_model.specs.SpecsRows.{Desk}
use Rattle.specs_stage.specs.Desks.{desk_of, with_output_written}
use Rattle.specs_stage.proofs.desk.Desk.write.Goals as goal

pub returns : goal.returns
returns c = λ hand coming.
    ap (λ (d : Desk). Some (record d { output = c.clear.new.self.items })) (c.in_ok-add_output.ensures hand coming)
    ∙ ap (λ (o : List ℕ). Some (record (with_output_written (desk_of c.args.self.now hand coming)) { output = o })) c.clear.ensures.items
