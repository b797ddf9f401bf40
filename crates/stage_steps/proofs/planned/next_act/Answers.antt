use Rattle.std.proofs.Common.{refl}
use Rattle.stage_steps.proofs.Passing.{over_none}
use Rattle.stage_steps.proofs.planned.next_act.Goals as goal

pub loop-act-init : goal.loop-act-init
loop-act-init g c = record { looks_same = refl; passes = over_none g.P.Plans.stands c.args.outputs.now.flags.items c.args.plans.now }
