-- One strand more is marked.
use Rattle.std.proofs.Common.{◌≡◌, length, Some, None}
use Rattle.braid_check.specs.Walks.{next_at}
use Rattle.stall_lint.proofs.Passing.{passed_end, passing_next}
use Rattle.stall_lint.proofs.inner.pass.Goals as goal

pub returns-in-None : goal.returns-in-None
returns-in-None c =
    let ends : next_at c.args.nexts.now c.loop.at ≡ None = c.in-None.is in
    passed_end c.args.nexts.now c.args.start c.args.fork c.loop.counter c.loop.at c.args.passed.now c.loop.passed c.loop.invariant c.requires.passed c.if-at-fork.false (length c.args.nexts.now) c.loop-test.true ends

pub loop-preserved : goal.loop-preserved
loop-preserved c =
    let next : next_at c.args.nexts.now c.loop.at ≡ Some c.in-Some.next = c.in-Some.is in
    passing_next c.args.nexts.now c.args.start c.args.fork c.loop.counter c.loop.at c.args.passed.now c.loop.passed c.loop.invariant c.requires.passed c.if-at-fork.false c.in-Some.next (c.requires.within c.loop.at c.in-Some.next next) next
