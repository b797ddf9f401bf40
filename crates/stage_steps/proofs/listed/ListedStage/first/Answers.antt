use Rattle.std.proofs.Common.{sym, ap, []}
use Rattle.pipe_model.specs.Next.{Past, want_in}
use Rattle.stage_steps.proofs.listed.ListedStage.first.Goals as goal

pub returns : goal.returns
returns g c = λ s is. ap (λ (q : Past). want_in q.phase) (sym (is.past_is []))
