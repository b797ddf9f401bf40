-- The sights of the inputs are numbered from the first one's on.
use Rattle.std.proofs.Common.{◌≡◌, ◌+◌, ◌<◌, ◌≤◌, length, sym, subst, arith, Some, None, slice_get}
use Rattle.run_desk.specs.Desk.{DoorsState}
use Rattle.run_desk.specs.Telling.{joined, numbered}
use Rattle.run_desk.proofs.SightDoors.{numbered_in, numbered_out}
use Rattle.run_desk.proofs.doors.Doors.sight.Goals as goal

pub returns-then-i-len : goal.returns-then-i-len
returns-then-i-len c =
    let within : c.args.i < length c.self.inside.inputs.items = omega (arith, c.if-i-len.true, c.len.ensures) in
    subst (λ (d : DoorsState). Some (c.self.inside.first_sight + c.args.i) ≡ joined (slice_get (numbered d.first_sight d.inputs) c.args.i)) c.self.view_is
    (sym (numbered_in c.self.inside.first_sight c.self.inside.inputs.items c.args.i within))

pub returns-else-i-len : goal.returns-else-i-len
returns-else-i-len c =
    let past : length c.self.inside.inputs.items ≤ c.args.i = omega (arith, c.if-i-len.false, c.len.ensures) in
    subst (λ (d : DoorsState). None ≡ joined (slice_get (numbered d.first_sight d.inputs) c.args.i)) c.self.view_is
    (sym (numbered_out c.self.inside.first_sight c.self.inside.inputs.items c.args.i past))
