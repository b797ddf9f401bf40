use Rattle.std.proofs.Common.{sym, ap, []}
use Rattle.pipe_model.specs.Next.{wanted_by}
use Rattle.pipe_model.specs.Row.{Row}
use Rattle.stage_steps.proofs.planned.PlannedStage.first.Goals as goal

pub returns : goal.returns
returns g c = λ s is. ap (λ (w : Row). wanted_by w s.ports.has_output []) (sym is.row_is)
