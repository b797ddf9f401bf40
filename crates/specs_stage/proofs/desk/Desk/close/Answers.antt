use Rattle.std.proofs.Common.{◌∙◌, sym, ap}
use Rattle.std.specs.Prelude.{if◌then◌else◌}
use Rattle.specs_stage.specs.Desks.{desk_of, with_output_written}
use Rattle.specs_stage.proofs.desk.Desk.close.Goals as goal

pub returns-in_ok-add_output : goal.returns-in_ok-add_output
returns-in_ok-add_output c = λ hand coming.
    let d = desk_of c.args.self.now hand coming in
    c.in_ok-add_output.ensures hand coming ∙ sym (ap (λ is. if is then with_output_written d else d) (sym c.has_unwritten.ensures ∙ c.if-has_unwritten.true))
