use Rattle.std.proofs.lemmas.Result.{IfOk-weaker}
use Rattle.stage_steps.proofs.each.EachLists.hand_over.Goals as goal

pub returns-clause-hands : goal.returns-clause-hands
returns-clause-hands g c =
    IfOk-weaker c.hand_over.result _ _ (λ rec hands some. let given = hands some in (given.0, λ over t recs acts is. (is.0, is.1, given.1 over is.0 recs acts is.2))) c.hand_over.ensures.hands
