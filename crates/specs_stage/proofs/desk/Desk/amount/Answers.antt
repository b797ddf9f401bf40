use Rattle.std.proofs.Common.{◌∙◌, sym, ap, rules, FitsSigned, w64}
use Rattle.std.specs.declared.option.Option.TheVariants.{Some}
use Rattle.std.proofs.lemmas.Int.{to_z-of_z}
use Rattle.pipe_model.specs.SpecsRows.{amount_of}
use Rattle.specs_stage.specs.Desks.{desk_of}
use Rattle.specs_stage.proofs.desk.Desk.amount.Goals as goal

pub returns-in-Counter-clause-value : goal.returns-in-Counter-clause-value
returns-in-Counter-clause-value c = λ coming.
    let fits : FitsSigned w64 c.counter.result = search rules in
    ap Some (to_z-of_z w64 c.counter.result fits ∙ c.counter.ensures c.args.hand.now coming)
    ∙ ap (λ a. amount_of a (desk_of c.args.self.now c.args.hand.now coming)) (sym c.in-Counter.is)
