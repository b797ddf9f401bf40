use Rattle.std.proofs.Common.{rules, ◌≡◌, ◌∙◌, subst, arith, ◌+◌, ◌-◌, ◌<◌, length, drop, length-take, length-drop}
use Rattle.std.specs.Prelude.{◌==◌}
use Rattle.std.specs.List.{slice_split}
use Rattle.stage_steps.proofs.Fields.{drop_field, front_last, fields_size, front_is}
use Rattle.stage_steps.proofs.ranges.front_fields.Goals as goal

pub returns-in-None : goal.returns-in-None
returns-in-None c = front_last c.args.rec.now c.loop.rest.now c.loop.counter c.args.count c.loop.invariant.0 c.in-None.ensures c.loop-test.true

pub loop-preserved : goal.loop-preserved
loop-preserved c =
    let k = c.in-Some.tab in
    let rest = c.loop.rest.now in
    (drop_field c.args.rec.now rest c.loop.counter k c.loop.invariant.0 c.in-Some.ensures, omega (arith, c.loop.invariant.1, length-take (length rest - (k + 1)) (drop (k + 1) rest), length-drop (k + 1) rest))

pub overflow_sub-rec-else-count-eq0 : goal.overflow_sub-rec-else-count-eq0
overflow_sub-rec-else-count-eq0 c =
    let all : c.loop.counter ≡ c.args.count = search rules in
    let some : 0 < c.args.count = search rules in
    let is = subst (λ n. drop n (slice_split (λ b. b == 9) c.args.rec.now) ≡ slice_split (λ b. b == 9) c.loop.rest.now) all c.loop.invariant.0 in
    omega (arith, fields_size c.args.rec.now c.loop.rest.now c.args.count is some)

pub returns-else-count-eq0 : goal.returns-else-count-eq0
returns-else-count-eq0 c =
    let all : c.loop.counter ≡ c.args.count = search rules in
    let some : 0 < c.args.count = search rules in
    let is = subst (λ n. drop n (slice_split (λ b. b == 9) c.args.rec.now) ≡ slice_split (λ b. b == 9) c.loop.rest.now) all c.loop.invariant.0 in
    c.front.ensures ∙ front_is c.args.rec.now c.loop.rest.now c.args.count is some
