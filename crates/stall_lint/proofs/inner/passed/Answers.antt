-- The walk back from one link more is marked.
use Rattle.std.proofs.Common.{arith, ◌≡◌, false, length, refl, sym, ◌∙◌, subst, Option, Some, None, slice_get, slice_index_or}
use Rattle.std.proofs.lemmas.List.{with_items_is}
use Rattle.std.proofs.lemmas.Option.{slice_get-get_or}
use Rattle.pipe_model.specs.declared.net.Link.{Link}
use Rattle.pipe_model.specs.Settled.{fork}
use Rattle.braid_check.specs.Walks.{next_at}
use Rattle.braid_check.proofs.Going.{walks_within}
use Rattle.stall_lint.specs.WalksBack.{AreMarked}
use Rattle.stall_lint.proofs.Passing.{no_walk_back, walk_back}
use Rattle.stall_lint.proofs.Uniting.{ends_there}
use Rattle.stall_lint.proofs.inner.passed.Goals as goal
use Rattle.stall_lint.proofs.inner.passed.Goals.{in-Some, in_default}

nothing : {A : Type 0} (x : Option A) → ((y : A) → x ≡ Some y → ⊥) → x ≡ None
nothing None not_some = refl
nothing (Some y) not_some = absurd (not_some y refl)

pub bounds : goal.bounds
bounds c =
    let k = c.loop-link.link-index in
    let l : Link = slice_index_or c.as_slice-link-items.result.now k (record { from = 0; output = 0; to = 0; input = 0; queue = false }) in
    let at : slice_get c.args.net.now.links k ≡ Some l = subst (λ xs. slice_get xs k ≡ Some l) c.as_slice-link-items.ensures (slice_get-get_or c.as_slice-link-items.result.now k _ c.loop-link-test.true) in
    let there = (ends_there c.args.net.now c.requires.formed k l at).1 in
    let count = c.requires.forks.count in
    omega (arith, there, count)

pub pass-requires-clause-start : goal.pass-requires-clause-start
pass-requires-clause-start c =
    let k = c.loop-link.link-index in
    let l : Link = slice_index_or c.as_slice-link-items.result.now k (record { from = 0; output = 0; to = 0; input = 0; queue = false }) in
    let at : slice_get c.args.net.now.links k ≡ Some l = subst (λ xs. slice_get xs k ≡ Some l) c.as_slice-link-items.ensures (slice_get-get_or c.as_slice-link-items.result.now k _ c.loop-link-test.true) in
    let there = (ends_there c.args.net.now c.requires.formed k l at).0 in
    let count = c.requires.nexts.count in
    omega (arith, there, count)

pub pass-requires-clause-within : goal.pass-requires-clause-within
pass-requires-clause-within c = walks_within c.args.net.now c.requires.formed (length c.args.net.now.strands) c.args.nexts.now c.requires.nexts

pub loop-link-preserved : goal.loop-link-preserved
loop-link-preserved c =
    let net = c.args.net.now in
    let k = c.loop-link.link-index in
    let old = c.loop-link.passed.items in
    let l : Link = slice_index_or c.as_slice-link-items.result.now k (record { from = 0; output = 0; to = 0; input = 0; queue = false }) in
    let at : slice_get net.links k ≡ Some l = subst (λ xs. slice_get xs k ≡ Some l) c.as_slice-link-items.ensures (slice_get-get_or c.as_slice-link-items.result.now k _ c.loop-link-test.true) in
    elim c.match-forks-link.branch [
      | in-Some w ↦ (
          let new = w.pass.new.passed in
          let is : fork net l.to ≡ Some w.in-Some.fork = sym (c.requires.forks.each l.to) ∙ w.in-Some.is in
          let marked : AreMarked c.args.nexts.now (length c.args.nexts.now) l.from w.in-Some.fork old new = subst (λ xs. AreMarked c.args.nexts.now (length c.args.nexts.now) l.from w.in-Some.fork xs new) w.deref_mut.ensures.value w.pass.ensures in
          let long = marked.count in
          let items : c.match-forks-link.passed.items ≡ new = rw w.passed-is (with_items_is c.loop-link.passed new (omega (arith, long, c.loop-link.passed.ok.0))) in
          rw items (walk_back net c.args.nexts.now k old c.loop-link.invariant l at w.in-Some.fork is new marked))
      | in_default w ↦ rw w.passed-is (no_walk_back net c.args.nexts.now k old c.loop-link.invariant l at (sym (c.requires.forks.each l.to) ∙ nothing (next_at c.args.forks.now l.to) w.in_default.not-Some))
    ]
