use Rattle.std.proofs.Common.{◌≡◌, None}
use Rattle.stage_steps.proofs.Groups.{Passes}
use Rattle.stage_steps.proofs.walk.next_group.Given as goal

abbrev pub invariant-loop-group : goal.invariant-loop-group
invariant-loop-group g l = record {
  looks_same : g.L.Lists.is_looking l.lists ≡ g.L.Lists.is_looking l.initial.lists;
  passes : Passes g.L.Lists.stands l.outputs.flags.items l.initial.lists None l.lists;
}

abbrev pub decreases-loop-group : goal.decreases-loop-group
decreases-loop-group g l = g.L.Lists.left l.lists
