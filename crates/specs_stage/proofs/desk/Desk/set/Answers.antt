use Rattle.std.proofs.Common.{◌∙◌, sym, ap, rules, FitsSigned, w64}
use Rattle.std.proofs.lemmas.Int.{to_z-of_z}
use Rattle.std.specs.Prelude.{option_map}
use Rattle.std.specs.declared.option.Option.TheVariants.{Some}
use Rattle.specs_stage.specs.Desks.{desk_of, with_counter}
use Rattle.specs_stage.proofs.desk.Desk.set.Goals as goal

pub returns-in-Some-clause-effect : goal.returns-in-Some-clause-effect
returns-in-Some-clause-effect c = λ coming.
    let d = desk_of c.args.self.now c.args.hand.now coming in
    let fits : FitsSigned w64 c.in-Some.value = search rules in
    ap (option_map (λ z. with_counter c.args.k z d)) (sym (c.in_ok-value.ensures.value coming) ∙ c.in-Some.is)
    ∙ ap (λ z. Some (with_counter c.args.k z d)) (sym (to_z-of_z w64 c.in-Some.value fits)) ∙ ap Some (sym (c.set_counter.ensures c.args.hand.now coming))
