use Rattle.std.proofs.Common.{◌≡◌, ◌-◌, ◌+◌, length, subst, arith}
use Rattle.bstr.specs.Find.{IsFirst, Passes, is_byte}
use Rattle.stage_steps.proofs.Lanes.{found_further, none_further, first_further}
use Rattle.stage_steps.proofs.strings.place_by_lanes.Goals as goal

pub returns-in-Some : goal.returns-in-Some
returns-in-Some c =
    let at = c.loop-at.at in
    found_further (Passes (is_byte c.args.byte) c.args.part.now) at at (at + 16) c.loop-at.invariant.before (omega arith) c.in-Some.place (length c.args.part.now) (omega arith) c.in-Some.ensures

pub loop-at-preserved : goal.loop-at-preserved
loop-at-preserved c =
    let at = c.loop-at.at in
    record {
      inside = omega arith;
      before = none_further (Passes (is_byte c.args.byte) c.args.part.now) at at (at + 16) c.loop-at.invariant.before (omega arith) c.in-None.ensures;
    }

pub returns : goal.returns
returns c =
    let size = length c.args.part.now in
    let here = Passes (is_byte c.args.byte) c.args.part.now in
    let r = c.place_in_lanes-2.result in
    let whole : size - 16 + 16 ≡ size = omega arith in
    first_further here c.loop-at.at (size - 16) size c.loop-at.invariant.before (omega arith) r (subst (λ end. IsFirst here (size - 16) end r) whole c.place_in_lanes-2.ensures)
