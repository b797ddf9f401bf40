use Rattle.std.proofs.Common.{sym, subst}
use Rattle.pipe_model.specs.Event.Event.{Primed}
use Rattle.stage_steps.specs.Plans.{Plans}
use Rattle.collate_stage.specs.declared.collating.Collating.TheVariants.{Collate, Merge}
use Rattle.collate_stage.specs.Plans.{CollatingStands}
use Rattle.collate_stage.proofs.collating.CollatingPlans.prime.Goals as goal

pub returns-in-Collate-clause-plans : goal.returns-in-Collate-clause-plans
returns-in-Collate-clause-plans c = subst (λ x. Plans CollatingStands x (Collate c.prime.new.self) (Primed c.args.primed)) (sym c.in-Collate.is) c.prime.ensures.plans

pub returns-in-Merge-clause-plans : goal.returns-in-Merge-clause-plans
returns-in-Merge-clause-plans c = subst (λ x. Plans CollatingStands x (Merge c.prime-in-Merge.new.self) (Primed c.args.primed)) (sym c.in-Merge.is) c.prime-in-Merge.ensures.plans
