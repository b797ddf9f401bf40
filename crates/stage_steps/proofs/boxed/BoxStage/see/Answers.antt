use Rattle.std.proofs.Common.{subst}
use Rattle.std.proofs.lemmas.Result.{IfOk-weaker}
use Rattle.std.specs.Box.{with_value}
use Rattle.stage_steps.specs.Replies.{Replies}
use Rattle.stage_steps.proofs.HandingOn.{replies_held}
use Rattle.stage_steps.proofs.boxed.BoxStage.see.Goals as goal

pub returns : goal.returns
returns g c =
    let held = c.args.self.now in
    IfOk-weaker c.see.result _ _ (λ reply replies.
    replies_held g.T.Stage.stands (with_value held) (λ x s h. g.T.Stage.stands x.value s h) (λ x s h is. is) (λ x s h is. is) held.value c.see.new.self c.args.bytes.now c.see.new.asked reply
    (subst (λ x. Replies g.T.Stage.stands x c.see.new.self c.args.bytes.now c.see.new.asked reply) c.deref_mut.ensures.value replies)) c.see.ensures
