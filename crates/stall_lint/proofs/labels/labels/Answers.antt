-- One link more joins its ends, or doesn't.
use Rattle.std.proofs.Common.{arith, ◌≡◌, ◌<◌, ℕ, false, length, ◌∙◌, ap, subst, Some, slice_get, slice_index, slice_index_or}
use Rattle.std.proofs.lemmas.List.{with_items_is}
use Rattle.std.proofs.lemmas.Option.{slice_get-get_or}
use Rattle.pipe_model.specs.declared.net.Link.{Link}
use Rattle.stall_lint.specs.Relabelled.{relabelled}
use Rattle.stall_lint.proofs.Uniting.{all_united, ends_there, none_united, not_united, now_united}
use Rattle.stall_lint.proofs.labels.labels.Goals as goal
use Rattle.stall_lint.proofs.labels.labels.Goals.{then-inner-number, else-inner-number}

pub loop-number-init : goal.loop-number-init
loop-number-init c =
    let strands : length c.as_slice.result.now ≡ length c.args.net.now.strands = ap length c.as_slice.ensures in
    none_united c.args.net.now c.args.inner.now c.in_ok-labels.labels.items (c.in_ok-labels.ensures.count ∙ strands) (λ k lt. c.in_ok-labels.ensures.own k (omega (arith, lt, strands)))

pub bounds-inner-number : goal.bounds-inner-number
bounds-inner-number c =
    let links : length c.as_slice-links.result.now ≡ length c.args.net.now.links = ap length c.as_slice-links.ensures in
    let count = c.requires.inner.count in
    omega (arith, links, count, c.loop-number-test.true)

pub unite-requires-clause-one : goal.unite-requires-clause-one
unite-requires-clause-one c =
    let k = c.loop-number.number in
    let l : Link = slice_index_or c.as_slice-links.result.now k (record { from = 0; output = 0; to = 0; input = 0; queue = false }) in
    let at : slice_get c.args.net.now.links k ≡ Some l = subst (λ xs. slice_get xs k ≡ Some l) c.as_slice-links.ensures (slice_get-get_or c.as_slice-links.result.now k _ c.loop-number-test.true) in
    let lt = (ends_there c.args.net.now c.requires.formed k l at).0 in
    let count = c.loop-number.invariant.count in
    let same : length c.deref_mut.result.now ≡ length c.loop-number.labels.items = ap length c.deref_mut.ensures.value in
    omega (arith, lt, count, same)

pub unite-requires-clause-other : goal.unite-requires-clause-other
unite-requires-clause-other c =
    let k = c.loop-number.number in
    let l : Link = slice_index_or c.as_slice-links.result.now k (record { from = 0; output = 0; to = 0; input = 0; queue = false }) in
    let at : slice_get c.args.net.now.links k ≡ Some l = subst (λ xs. slice_get xs k ≡ Some l) c.as_slice-links.ensures (slice_get-get_or c.as_slice-links.result.now k _ c.loop-number-test.true) in
    let lt = (ends_there c.args.net.now c.requires.formed k l at).1 in
    let count = c.loop-number.invariant.count in
    let same : length c.deref_mut.result.now ≡ length c.loop-number.labels.items = ap length c.deref_mut.ensures.value in
    omega (arith, lt, count, same)

pub loop-number-preserved : goal.loop-number-preserved
loop-number-preserved c =
    let net = c.args.net.now in
    let k = c.loop-number.number in
    let old = c.loop-number.labels.items in
    let l : Link = slice_index_or c.as_slice-links.result.now k (record { from = 0; output = 0; to = 0; input = 0; queue = false }) in
    let at : slice_get net.links k ≡ Some l = subst (λ xs. slice_get xs k ≡ Some l) c.as_slice-links.ensures (slice_get-get_or c.as_slice-links.result.now k _ c.loop-number-test.true) in
    let links : length c.as_slice-links.result.now ≡ length net.links = ap length c.as_slice-links.ensures in
    let count = c.requires.inner.count in
    let mark = slice_get-get_or c.args.inner.now k false (omega (arith, links, count, c.loop-number-test.true)) in
    elim c.if-inner-number.branch [
      | then-inner-number w ↦ (
          let new = w.unite.new.labels in
          let each : (j : ℕ) → j < length old → slice_index new j ≡ relabelled (slice_index old l.from) (slice_index old l.to) (slice_index old j) =
          subst (λ xs. (j : ℕ) → j < length xs → slice_index new j ≡ relabelled (slice_index xs l.from) (slice_index xs l.to) (slice_index xs j)) w.deref_mut.ensures.value w.unite.ensures in
          let long : length new ≡ length old = w.unite.auto.labels ∙ ap length w.deref_mut.ensures.value in
          let items : c.if-inner-number.labels.items ≡ new = rw w.labels-is (with_items_is c.loop-number.labels new (omega (arith, long, c.loop-number.labels.ok.0))) in
          rw items (now_united net c.requires.formed c.args.inner.now k old c.loop-number.invariant l at c.requires.inner (mark ∙ ap Some w.if-inner-number.true) new long each))
      | else-inner-number w ↦ rw w.labels-is (not_united net c.requires.formed c.args.inner.now k old c.loop-number.invariant l at (mark ∙ ap Some w.if-inner-number.false))
    ]

pub returns : goal.returns
returns c =
    let links : length c.as_slice-links.result.now ≡ length c.args.net.now.links = ap length c.as_slice-links.ensures in
    all_united c.args.net.now c.requires.formed c.args.inner.now c.requires.inner c.loop-number.number (omega (arith, links, c.loop-number-test.false, c.loop-number.auto.number-end)) c.loop-number.labels.items c.loop-number.invariant
