-- The links that are marked are the inner ones.
use Rattle.std.proofs.Common.{arith, ◌≡◌, length, sym, ap, subst}
use Rattle.std.proofs.lemmas.Result.{IfOk-weaker}
use Rattle.stall_lint.specs.Grouped.{AreInner}
use Rattle.stall_lint.specs.WalksBack.{AreForks, AreMarkedLinks, ArePassed}
use Rattle.stall_lint.proofs.Backwards.{are_inner}
use Rattle.stall_lint.proofs.ThinNexts.{forks_are}
use Rattle.stall_lint.proofs.inner.inner_links.Goals as goal

pub nexts-requires-clause-forks : goal.nexts-requires-clause-forks
nexts-requires-clause-forks c = subst (AreForks c.args.net.now) (sym c.deref.ensures.value) (forks_are c.args.net.now c.in_ok-forks.forks.items c.in_ok-forks.ensures.count c.in_ok-forks.ensures.each)

pub passed-requires-clause-forks : goal.passed-requires-clause-forks
passed-requires-clause-forks c = subst (AreForks c.args.net.now) (sym c.deref-2.ensures.value) (forks_are c.args.net.now c.in_ok-forks.forks.items c.in_ok-forks.ensures.count c.in_ok-forks.ensures.each)

pub marks-requires-clause-forks : goal.marks-requires-clause-forks
marks-requires-clause-forks c = subst (AreForks c.args.net.now) (sym c.deref-4.ensures.value) (forks_are c.args.net.now c.in_ok-forks.forks.items c.in_ok-forks.ensures.count c.in_ok-forks.ensures.each)

pub marks-requires-clause-passed : goal.marks-requires-clause-passed
marks-requires-clause-passed c =
    let passed : length c.deref-5.result.now ≡ length c.in_ok-passed.passed.items = ap length c.deref-5.ensures.value in
    let nexts : length c.deref-3.result.now ≡ length c.in_ok-nexts.nexts.items = ap length c.deref-3.ensures.value in
    let marked = c.in_ok-passed.ensures.count in
    let count = c.in_ok-nexts.ensures.count in
    omega (arith, passed, nexts, marked, count)

pub returns : goal.returns
returns c =
    let net = c.args.net.now in
    let walks = c.in_ok-nexts.ensures in
    let passed : ArePassed net c.in_ok-nexts.nexts.items (length net.links) c.deref-5.result.now =
    subst (ArePassed net c.in_ok-nexts.nexts.items (length net.links)) (sym c.deref-5.ensures.value) (subst (λ xs. ArePassed net xs (length net.links) c.in_ok-passed.passed.items) c.deref-3.ensures.value c.in_ok-passed.ensures) in
    IfOk-weaker c.marks.result (λ inner. AreMarkedLinks net c.deref-5.result.now (length net.links) inner.items) (λ inner. AreInner net inner.items) (λ inner marks. are_inner net c.requires.formed c.in_ok-nexts.nexts.items walks c.deref-5.result.now passed inner.items marks) c.marks.ensures
