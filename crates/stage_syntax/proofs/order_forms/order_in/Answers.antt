use Rattle.std.proofs.Common.{◌≡◌, ◌-◌, ◌∷◌, List, length, take, drop, ap, ◌∙◌, arith, rules, option_map}
use Rattle.stage_syntax.proofs.OrderLists.{front_value}
use Rattle.stage_syntax.specs.OrderForms.{key_of, keys_of}
use Rattle.argument_parts.specs.declared.part.Value.{Value}
use Rattle.argument_parts.specs.declared.part.Value.TheVariants as Read
use Rattle.stage_syntax.proofs.order_forms.order_in.Goals as goal

pub returns-in-Word-clause-read : goal.returns-in-Word-clause-read
returns-in-Word-clause-read c = λ range.
    let values = c.args.values.now in
    let whole : values ≡ Read.Word c.in-Word.word ∷ take (length values - 1) (drop 1 values) = grind (arith, front_value) in
    let rest = take (length values - 1) (drop 1 values) in
    let order : keys_of (Read.Range range ∷ (Read.Word c.in-Word.word ∷ rest)) ≡ option_map (λ keys. key_of range c.descends.result ∷ keys) (keys_of rest) = search (rules, c.descends.ensures range rest) in
    ap (λ (values : List Value). keys_of (Read.Range range ∷ values)) whole ∙ order
