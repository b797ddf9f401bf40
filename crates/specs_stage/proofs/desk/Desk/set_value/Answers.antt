use Rattle.std.proofs.Common.{◌∙◌, sym, ap, rules, FitsSigned, w64, to_z, of_z}
use Rattle.std.proofs.lemmas.Int.{to_z-of_z}
use Rattle.std.specs.Prelude.{option_and_then}
use Rattle.pipe_model.specs.Numbers.{within_i64}
use Rattle.pipe_model.specs.SpecsRows.{counter, counter_after}
use Rattle.specs_stage.specs.Desks.{desk_of}
use Rattle.specs_stage.proofs.desk.Desk.set_value.Goals as goal

pub returns-in-Some-clause-value : goal.returns-in-Some-clause-value
returns-in-Some-clause-value c = λ coming.
    let d = desk_of c.args.self.now c.args.hand.now coming in
    let value = c.in-Some.value in
    let old_fits : FitsSigned w64 c.counter.result = search rules in
    let value_fits : FitsSigned w64 value = search rules in
    c.counter_after.ensures
    ∙ ap (λ old. within_i64 (counter_after c.args.op old (to_z w64 (of_z w64 value)))) (to_z-of_z w64 c.counter.result old_fits ∙ c.counter.ensures c.args.hand.now coming)
    ∙ ap (λ z. within_i64 (counter_after c.args.op (counter c.args.k d) z)) (to_z-of_z w64 value value_fits)
    ∙ ap (option_and_then (λ z. within_i64 (counter_after c.args.op (counter c.args.k d) z))) (sym c.in-Some.is ∙ c.in_ok-value.ensures.value coming)
