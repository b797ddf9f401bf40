-- Walks go on over one link more.
use Rattle.std.proofs.Common.{arith, ◌≡◌, false, length, refl, sym, ◌∙◌, ap, subst, Some, slice_get, slice_index_or}
use Rattle.std.proofs.lemmas.Option.{slice_get-get_or, slice_get_read}
use Rattle.pipe_model.specs.declared.net.Link.{Link}
use Rattle.pipe_model.specs.Settled.{thin_at}
use Rattle.pipe_model.specs.State.{strand_in}
use Rattle.stall_lint.proofs.ThinNexts.{all_led, not_led, now_led}
use Rattle.stall_lint.proofs.Uniting.{ends_there}
use Rattle.stall_lint.proofs.inner.thin_nexts.Goals as goal
use Rattle.stall_lint.proofs.inner.thin_nexts.Goals.{then-is_thin, else-is_thin}

pub bounds-strands-to : goal.bounds-strands-to
bounds-strands-to c =
    let k = c.loop-link.link-index in
    let l : Link = slice_index_or c.as_slice-link-items.result.now k (record { from = 0; output = 0; to = 0; input = 0; queue = false }) in
    let at : slice_get c.args.net.now.links k ≡ Some l = subst (λ xs. slice_get xs k ≡ Some l) c.as_slice-link-items.ensures (slice_get-get_or c.as_slice-link-items.result.now k _ c.loop-link-test.true) in
    let there = (ends_there c.args.net.now c.requires k l at).1 in
    let strands : length c.as_slice-strands.result.now ≡ length c.args.net.now.strands = ap length c.as_slice-strands.ensures in
    omega (arith, there, strands)

pub index_mut-requires : goal.index_mut-requires
index_mut-requires c =
    let k = c.loop-link.link-index in
    let l : Link = slice_index_or c.as_slice-link-items.result.now k (record { from = 0; output = 0; to = 0; input = 0; queue = false }) in
    let at : slice_get c.args.net.now.links k ≡ Some l = subst (λ xs. slice_get xs k ≡ Some l) c.as_slice-link-items.ensures (slice_get-get_or c.as_slice-link-items.result.now k _ c.loop-link-test.true) in
    let there = (ends_there c.args.net.now c.requires k l at).1 in
    let count = c.loop-link.invariant.count in
    omega (arith, there, count, c.loop-link.nexts.ok.0)

pub loop-link-preserved : goal.loop-link-preserved
loop-link-preserved c =
    let net = c.args.net.now in
    let k = c.loop-link.link-index in
    let l : Link = slice_index_or c.as_slice-link-items.result.now k (record { from = 0; output = 0; to = 0; input = 0; queue = false }) in
    let at : slice_get net.links k ≡ Some l = subst (λ xs. slice_get xs k ≡ Some l) c.as_slice-link-items.ensures (slice_get-get_or c.as_slice-link-items.result.now k _ c.loop-link-test.true) in
    let lt = (ends_there net c.requires k l at).1 in
    let p = c.index-strands-to.result in
    let strands : length c.as_slice-strands.result.now ≡ length net.strands = ap length c.as_slice-strands.ensures in
    let there : strand_in net l.to ≡ Some p = subst (λ xs. slice_get xs l.to ≡ Some p) c.as_slice-strands.ensures (slice_get_read c.as_slice-strands.result.now (length c.as_slice-strands.result.now) l.to p refl (omega (arith, lt, strands)) c.index-strands-to.is) in
    let thin : thin_at (strand_in net l.to) ≡ c.is_thin.result = ap thin_at there ∙ sym c.is_thin.ensures in
    elim c.if-is_thin.branch [
      | then-is_thin w ↦ rw w.nexts-is (now_led net c.requires k c.loop-link.nexts.items c.loop-link.invariant l at (thin ∙ w.if-is_thin.true))
      | else-is_thin w ↦ rw w.nexts-is (not_led net c.requires k c.loop-link.nexts.items c.loop-link.invariant l at (thin ∙ w.if-is_thin.false))
    ]

pub returns : goal.returns
returns c =
    let links : length c.as_slice-link-items.result.now ≡ length c.args.net.now.links = ap length c.as_slice-link-items.ensures in
    all_led c.args.net.now c.requires c.loop-link.link-index c.loop-link.nexts.items (omega (arith, links, c.loop-link-test.false, c.loop-link.auto.link-index-end)) c.loop-link.invariant
