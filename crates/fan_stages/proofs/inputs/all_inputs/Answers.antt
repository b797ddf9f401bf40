use Rattle.std.proofs.Common.{◌+◌, [], ◌∷◌, ◌++◌, refl, sym, ◌∙◌, ap}
use Rattle.fan_stages.proofs.Turns.{one_input_more}
use Rattle.fan_stages.proofs.inputs.all_inputs.Goals as goal

pub loop-input-preserved : goal.loop-input-preserved
loop-input-preserved c =
    let n = c.loop-input.input in
    c.in_ok-push.ensures.items ∙ ap (λ l. l ++ n ∷ []) c.loop-input.invariant ∙ sym (one_input_more n (n + 1) refl)
