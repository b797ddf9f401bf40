use Rattle.std.proofs.Common.{◌∙◌, sym, ap, rules, FitsSigned, w64, to_z, of_z}
use Rattle.std.proofs.lemmas.Int.{to_z-of_z}
use Rattle.std.specs.Fmt.{signed_decimal}
use Rattle.pipe_model.specs.SpecsRows.{origin_of}
use Rattle.specs_stage.specs.Desks.{desk_of, origin_from}
use Rattle.specs_stage.proofs.desk.Desk.printed.Goals as goal

pub returns-in-Print : goal.returns-in-Print
returns-in-Print c = λ hand coming.
    let fits : FitsSigned w64 c.counter.result = search rules in
    ap (λ o. origin_from o c.args.self.now.number (to_z w64 (of_z w64 c.counter.result)) hand) c.in-Print.is
    ∙ ap signed_decimal (to_z-of_z w64 c.counter.result fits ∙ c.counter.ensures hand coming)
    ∙ ap (λ o. origin_of o (desk_of c.args.self.now hand coming)) (sym c.in-Print.is)
