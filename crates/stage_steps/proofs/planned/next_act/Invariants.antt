use Rattle.std.proofs.Common.{◌≡◌}
use Rattle.stage_steps.proofs.Passing.{PassesOver}
use Rattle.stage_steps.proofs.planned.next_act.Given as goal

abbrev pub invariant-loop-act : goal.invariant-loop-act
invariant-loop-act g l = record {
  looks_same : g.P.Plans.is_looking l.plans ≡ g.P.Plans.is_looking l.initial.plans;
  passes : PassesOver g.P.Plans.stands l.outputs.flags.items l.initial.plans l.plans;
}

abbrev pub decreases-loop-act : goal.decreases-loop-act
decreases-loop-act g l = g.P.Plans.left l.plans
