use Rattle.std.proofs.Common.{sym, subst}
use Rattle.pipe_model.specs.Shape.{Stream, writes, last_pairs}
use Rattle.stage_steps.proofs.each.EachLists.end.Goals as goal

pub returns-clause-finishes : goal.returns-clause-finishes
returns-clause-finishes g c = λ t recs is. (is.0, is.1, subst (λ (t : Stream). g.E.EachRecord.stands c.args.self.now.each is.0 recs (writes (last_pairs t.last recs))) (sym is.1) is.2)
