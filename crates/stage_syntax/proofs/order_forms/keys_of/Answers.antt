use Rattle.std.proofs.Common.{◌≡◌, ◌-◌, ◌∷◌, ◌++◌, length, take, drop, ap, ◌∙◌, arith, rules, option_map, []}
use Rattle.pipe_model.specs.declared.keys.SortKey.{SortKey}
use Rattle.std.specs.Prelude.{List}
use Rattle.stage_syntax.proofs.OrderLists.{front_value, keys_joined}
use Rattle.stage_syntax.specs.OrderForms.{key_of, keys_of}
use Rattle.argument_parts.specs.declared.part.Value.TheVariants as Read
use Rattle.stage_syntax.proofs.order_forms.keys_of.Goals as goal

pub loop-left-preserved : goal.loop-left-preserved
loop-left-preserved c =
    let values = c.loop-left.left.now in
    let rest = take (length values - 1) (drop 1 values) in
    let whole : values ≡ Read.Range c.in-Range.range ∷ rest = grind (arith, front_value) in
    let keys = c.loop-left.keys in
    let key = key_of c.in-Range.range c.order_in-descending.result.0 in
    let pushed : c.push.new.self ≡ keys ++ key ∷ [] = search (rules, c.in_ok-push-in-Range.ensures.ok) in
    rw pushed (c.loop-left.invariant
    ∙ ap (λ values. option_map (λ more. keys ++ more) (keys_of values)) whole
    ∙ ap (option_map (λ (more : List SortKey). keys ++ more)) (c.order_in-descending.ensures.read c.in-Range.range)
    ∙ keys_joined keys key (keys_of c.order_in-descending.result.1.now))
