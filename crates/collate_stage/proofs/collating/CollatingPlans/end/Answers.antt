use Rattle.std.proofs.Common.{sym, subst, IfOk}
use Rattle.pipe_model.specs.Event.Event.{SawEnd}
use Rattle.stage_steps.specs.Plans.{Plans}
use Rattle.collate_stage.specs.declared.collating.Collating.TheVariants.{Collate, Merge}
use Rattle.collate_stage.specs.Plans.{CollatingStands}
use Rattle.collate_stage.proofs.collating.CollatingPlans.end.Goals as goal

pub returns-in-Collate-clause-plans : goal.returns-in-Collate-clause-plans
returns-in-Collate-clause-plans c = subst (λ x. IfOk c.end.result (λ _. Plans CollatingStands x (Collate c.end.new.self) (SawEnd c.args.input))) (sym c.in-Collate.is) c.end.ensures.plans

pub returns-in-Merge-clause-plans : goal.returns-in-Merge-clause-plans
returns-in-Merge-clause-plans c = subst (λ x. IfOk c.end-in-Merge.result (λ _. Plans CollatingStands x (Merge c.end-in-Merge.new.self) (SawEnd c.args.input))) (sym c.in-Merge.is) c.end-in-Merge.ensures.plans
