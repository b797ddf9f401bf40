-- One link more waits with its consumer.
use Rattle.std.proofs.Common.{arith, ◌≡◌, length, sym, ◌∙◌, ap, Some, slice_get, slice_index_or}
use Rattle.std.proofs.lemmas.Option.{slice_get-get_or}
use Rattle.pipe_model.proofs.FewLinks.{few_links}
use Rattle.stall_lint.proofs.LookingBack.{next_link, no_link, one_more_waits}
use Rattle.stall_lint.proofs.rings.all_waiting.Goals as goal

pub index_mut-requires : goal.index_mut-requires
index_mut-requires c =
    let there = (next_link c.args.net.now c.requires c.loop-number.number c.loop-number.waiting.items c.loop-number.invariant c.as_slice-links.result.now c.as_slice-links.ensures c.loop-number-test.true).1 in
    omega (arith, there, c.loop-number.waiting.ok.0)

pub overflow_cast-number : goal.overflow_cast-number
overflow_cast-number c =
    let few = few_links c.args.net.now c.requires in
    let long = ap length c.as_slice-links.ensures in
    omega (arith, few, long, c.loop-number-test.true)

pub loop-number-preserved : goal.loop-number-preserved
loop-number-preserved c =
    let next = next_link c.args.net.now c.requires c.loop-number.number c.loop-number.waiting.items c.loop-number.invariant c.as_slice-links.result.now c.as_slice-links.ensures c.loop-number-test.true in
    let waiting = c.loop-number.waiting.items in
    let link = slice_index_or c.as_slice-links.result.now c.loop-number.number no_link in
    let numbers = c.index_mut.result.now in
    let here : slice_get waiting link.to ≡ Some numbers = slice_get-get_or waiting link.to _ next.1 ∙ ap Some (sym c.index_mut.ensures.value) in
    rw c.in_ok-push.ensures (one_more_waits c.args.net.now c.loop-number.number waiting c.loop-number.invariant link next.0 numbers here)
