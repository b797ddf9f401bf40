use Rattle.std.proofs.Common.{sym, subst}
use Rattle.stage_steps.specs.Plans.{TellsGoal}
use Rattle.collate_stage.specs.Plans.{CollatingStands}
use Rattle.collate_stage.proofs.collating.CollatingPlans.goal.Goals as goal

pub returns-in-Collate : goal.returns-in-Collate
returns-in-Collate c = subst (λ x. TellsGoal CollatingStands x c.goal.result) (sym c.in-Collate.is) c.goal.ensures

pub returns-in-Merge : goal.returns-in-Merge
returns-in-Merge c = subst (λ x. TellsGoal CollatingStands x c.goal-in-Merge.result) (sym c.in-Merge.is) c.goal-in-Merge.ensures
