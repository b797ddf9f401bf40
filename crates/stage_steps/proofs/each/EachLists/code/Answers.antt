use Rattle.std.proofs.Common.{sym, ap}
use Rattle.pipe_model.specs.Shape.{Stream}
use Rattle.stage_steps.proofs.each.EachLists.code.Goals as goal

pub returns : goal.returns
returns g c = λ over t recs acts is ends. sym (ap (λ (t : Stream). t.code recs) is.1)
