use Rattle.std.proofs.Common.{arith, ◌+◌, ◌-◌, length, drop, length-take, length-drop}
use Rattle.stage_steps.proofs.Fields.{drop_field, behind_last}
use Rattle.stage_steps.proofs.ranges.behind_fields.Goals as goal

pub returns-in-None : goal.returns-in-None
returns-in-None c = behind_last c.args.rec.now c.loop.rest.now c.loop.counter c.args.count c.loop.invariant.0 c.in-None.ensures c.loop-test.true

pub loop-preserved : goal.loop-preserved
loop-preserved c =
    let k = c.in-Some.tab in
    let rest = c.loop.rest.now in
    (drop_field c.args.rec.now rest c.loop.counter k c.loop.invariant.0 c.in-Some.ensures, omega (arith, c.loop.invariant.1, length-take (length rest - (k + 1)) (drop (k + 1) rest), length-drop (k + 1) rest))
