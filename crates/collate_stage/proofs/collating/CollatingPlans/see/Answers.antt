use Rattle.std.proofs.Common.{true, sym, subst, IfOk}
use Rattle.stage_steps.specs.Plans.{PlansBySight}
use Rattle.collate_stage.specs.declared.collating.Collating.TheVariants.{Collate, Merge}
use Rattle.collate_stage.specs.Plans.{CollatingStands}
use Rattle.collate_stage.proofs.collating.CollatingPlans.see.Goals as goal

pub returns-in-Collate-clause-plans : goal.returns-in-Collate-clause-plans
returns-in-Collate-clause-plans c = subst (λ x. IfOk c.see.result (λ _. PlansBySight CollatingStands true x (Collate c.see.new.self) c.args.input c.args.bytes.now)) (sym c.in-Collate.is) c.see.ensures.plans

pub returns-in-Merge-clause-plans : goal.returns-in-Merge-clause-plans
returns-in-Merge-clause-plans c = subst (λ x. IfOk c.see-in-Merge.result (λ _. PlansBySight CollatingStands true x (Merge c.see-in-Merge.new.self) c.args.input c.args.bytes.now)) (sym c.in-Merge.is) c.see-in-Merge.ensures.plans
