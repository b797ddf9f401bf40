-- One link more is known.
use Rattle.std.proofs.Common.{arith, ◌≡◌, ◌+◌, ◌-◌, false, map, length, drop, ◌∙◌, ap, subst, Some, slice_get, slice_index_or}
use Rattle.std.proofs.lemmas.Option.{slice_get-get_or}
use Rattle.pipe_model.specs.declared.net.Link.{Link}
use Rattle.braid_check.specs.Feeds.{unfed_strand}
use Rattle.braid_check.proofs.Feeding.{AreFed, drop_all, drop_from, none_fed, fed_more}
use Rattle.braid_check.proofs.feeds.feeds.Goals as goal

abbrev no_link : Link
no_link = record { from = 0; output = 0; to = 0; input = 0; queue = false }

pub loop-k-init : goal.loop-k-init
loop-k-init c =
    let net = c.args.net.now in
    let long : length c.as_slice-links.result.now ≡ length net.links = ap length c.as_slice-links.ensures in (
      omega (arith, long),
      none_fed net c.in_ok-feeds.feeds.items (c.in_ok-feeds.ensures ∙ ap (map unfed_strand) c.as_slice.ensures) (length c.as_slice-links.result.now) (ap (λ n. drop n net.links) long ∙ drop_all net.links),
    )

pub loop-k-preserved : goal.loop-k-preserved
loop-k-preserved c =
    let net = c.args.net.now in
    let j = c.loop-k.k - 1 in
    let link = slice_index_or c.as_slice-links.result.now j no_link in
    let le = c.loop-k.invariant.0 in
    let long : length c.as_slice-links.result.now ≡ length net.links = ap length c.as_slice-links.ensures in
    let more : c.loop-k.k ≡ j + 1 = omega (arith, c.loop-k-test.true) in
    let at : slice_get net.links j ≡ Some link = subst (λ xs. slice_get xs j ≡ Some link) c.as_slice-links.ensures (slice_get-get_or c.as_slice-links.result.now j no_link (omega (arith, more, le, long))) in
    let before : AreFed net (j + 1) c.loop-k.feeds.items = subst (λ n. AreFed net n c.loop-k.feeds.items) more c.loop-k.invariant.1 in
    (omega (arith, le), rw c.lead_along.ensures (fed_more net c.requires j link at c.loop-k.feeds.items before (drop_from net.links j link at)))
