-- At no level does anybody stand yet.
use Rattle.std.proofs.Common.{arith, rules, ◌≡◌, ◌∙◌, pos, replicate, ap}
use Rattle.commit_levels.specs.UnitState.{new_member, level_count}
use Rattle.commit_levels.proofs.Calls.{kept_new}
use Rattle.commit_levels.proofs.unit.Unit.new.Goals as goal

pub invariant_of-result : goal.invariant_of-result
invariant_of-result c =
    let all : c.loop.counter ≡ c.args.members = omega (arith, c.loop-test.false, c.loop.auto.counter-end) in
    let members : c.loop.list.items ≡ replicate c.args.members new_member = c.loop.invariant ∙ ap (λ n. replicate n new_member) all in
    let levels : c.in_ok-vec.field-0.items ≡ replicate level_count (record { standing = 0; worst = pos 0 }) = search rules in
    rw members (kept_new c.args.members c.in_ok-vec.field-0.items c.ranges.members.fits levels)
