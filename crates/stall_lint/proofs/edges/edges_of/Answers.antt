-- All links are listed.
use Rattle.std.proofs.Common.{◌≡◌, length, ap, subst, arith}
use Rattle.stall_lint.specs.Listed.{AreListed}
use Rattle.stall_lint.proofs.edges.edges_of.Goals as goal

pub returns : goal.returns
returns c =
    let links = c.args.net.now.links in
    let same = ap length c.as_slice-number-end.ensures in
    let all : c.loop-number.number ≡ length links = omega (arith, same, c.loop-number-test.false, c.loop-number.auto.number-end) in
    subst (λ n. AreListed c.args.net.now c.args.groups.now.labels.items n c.loop-number.edges.items) all c.loop-number.invariant
