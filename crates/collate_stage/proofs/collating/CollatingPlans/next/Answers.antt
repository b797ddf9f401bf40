use Rattle.std.proofs.Common.{sym, subst, IfOk}
use Rattle.stage_steps.specs.Plans.{GivesAct}
use Rattle.collate_stage.specs.declared.collating.Collating.TheVariants.{Collate, Merge}
use Rattle.collate_stage.specs.Plans.{CollatingStands}
use Rattle.collate_stage.proofs.collating.CollatingPlans.next.Goals as goal

pub returns-in-Collate-clause-gives : goal.returns-in-Collate-clause-gives
returns-in-Collate-clause-gives c = subst (λ x. IfOk c.next.result (λ given. GivesAct CollatingStands x (Collate c.next.new.self) given)) (sym c.in-Collate.is) c.next.ensures.gives

pub returns-in-Merge-clause-gives : goal.returns-in-Merge-clause-gives
returns-in-Merge-clause-gives c = subst (λ x. IfOk c.next-in-Merge.result (λ given. GivesAct CollatingStands x (Merge c.next-in-Merge.new.self) given)) (sym c.in-Merge.is) c.next-in-Merge.ensures.gives
