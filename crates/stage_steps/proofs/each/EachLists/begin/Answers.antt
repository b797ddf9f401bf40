use Rattle.std.proofs.Common.{[], sym, subst}
use Rattle.pipe_model.specs.Shape.{Stream, writes}
use Rattle.stage_steps.proofs.each.EachLists.begin.Goals as goal

pub returns-clause-begins : goal.returns-clause-begins
returns-clause-begins g c = λ t is. (is.0, is.1, subst (λ (t : Stream). g.E.EachRecord.stands c.args.self.now.each is.0 [] (writes t.before)) (sym is.1) is.2)
