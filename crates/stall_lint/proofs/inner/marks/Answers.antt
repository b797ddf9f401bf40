-- One link more is marked.
use Rattle.std.proofs.Common.{arith, ◌≡◌, false, ◌||◌, sym, ◌∙◌, ap, subst, Some, is_some, slice_get, slice_index_or}
use Rattle.std.proofs.lemmas.Option.{slice_get-get_or, unwrap_or-slice_get}
use Rattle.pipe_model.specs.declared.net.Link.{Link}
use Rattle.pipe_model.specs.Members.{flag_at}
use Rattle.pipe_model.specs.Settled.{fork}
use Rattle.stall_lint.proofs.Passing.{one_more_mark}
use Rattle.stall_lint.proofs.Uniting.{ends_there}
use Rattle.stall_lint.proofs.inner.marks.Goals as goal
use Rattle.stall_lint.proofs.inner.marks.Goals.{then-is_some, else-is_some}

pub bounds-forks-to : goal.bounds-forks-to
bounds-forks-to c =
    let k = c.loop-link.link-index in
    let l : Link = slice_index_or c.as_slice-link-items.result.now k (record { from = 0; output = 0; to = 0; input = 0; queue = false }) in
    let at : slice_get c.args.net.now.links k ≡ Some l = subst (λ xs. slice_get xs k ≡ Some l) c.as_slice-link-items.ensures (slice_get-get_or c.as_slice-link-items.result.now k _ c.loop-link-test.true) in
    let there = (ends_there c.args.net.now c.requires.formed k l at).1 in
    let count = c.requires.forks.count in
    omega (arith, there, count)

pub bounds-passed-to : goal.bounds-passed-to
bounds-passed-to c =
    let k = c.loop-link.link-index in
    let l : Link = slice_index_or c.as_slice-link-items.result.now k (record { from = 0; output = 0; to = 0; input = 0; queue = false }) in
    let at : slice_get c.args.net.now.links k ≡ Some l = subst (λ xs. slice_get xs k ≡ Some l) c.as_slice-link-items.ensures (slice_get-get_or c.as_slice-link-items.result.now k _ c.loop-link-test.true) in
    let there = (ends_there c.args.net.now c.requires.formed k l at).1 in
    let count = c.requires.passed in
    omega (arith, there, count)

pub loop-link-preserved : goal.loop-link-preserved
loop-link-preserved c =
    let net = c.args.net.now in
    let k = c.loop-link.link-index in
    let l : Link = slice_index_or c.as_slice-link-items.result.now k (record { from = 0; output = 0; to = 0; input = 0; queue = false }) in
    let at : slice_get net.links k ≡ Some l = subst (λ xs. slice_get xs k ≡ Some l) c.as_slice-link-items.ensures (slice_get-get_or c.as_slice-link-items.result.now k _ c.loop-link-test.true) in
    let parts : is_some (fork net l.to) ≡ c.is_some.result = ap is_some (sym (c.requires.forks.each l.to)) ∙ sym c.is_some.ensures in
    let flag = unwrap_or-slice_get c.args.passed.now l.to false in
    let mark : c.if-is_some.push ≡ (is_some (fork net l.to) || flag_at c.args.passed.now l.to) = elim c.if-is_some.branch [
      | then-is_some w ↦ w.push-is ∙ w.if-is_some.true ∙ ap (λ b. b || flag_at c.args.passed.now l.to) (sym (parts ∙ w.if-is_some.true))
      | else-is_some w ↦ w.push-is ∙ sym flag ∙ ap (λ b. b || flag_at c.args.passed.now l.to) (sym (parts ∙ w.if-is_some.false))
    ] in
    rw c.in_ok-push.ensures.items (one_more_mark net c.args.passed.now k c.loop-link.inner.items c.loop-link.invariant l at c.if-is_some.push mark)
