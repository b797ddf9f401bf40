use Rattle.std.proofs.Common.{◌∙◌, sym, ap, not}
use Rattle.pipe_model.specs.Keys.{is_less}
use Rattle.collate_stage.proofs.Leading.{goes_before_is, leads_by_less, leads_by_not_less}
use Rattle.collate_stage.proofs.Sights.{got}
use Rattle.collate_stage.proofs.queue.goes_before.Goals as goal

pub returns-then-input-other : goal.returns-then-input-other
returns-then-input-other c =
    let lane = c.in-Some.lane.now in
    let rival = c.in-Some-get.rival.now in
    let here = got c.args.lanes.now c.args.input lane c.in-Some.ensures.lookup.3.0 c.in-Some.ensures.lookup.1 in
    let there = got c.args.lanes.now c.args.other rival c.in-Some-get.ensures.lookup.3.0 c.in-Some-get.ensures.lookup.1 in
    ap not (c.is_less.ensures ∙ ap (λ k. is_less k c.deref-then-input-other.result.now) c.deref.ensures.value ∙ ap (is_less rival.key.items) c.deref-then-input-other.ensures.value)
    ∙ sym (leads_by_not_less lane.key.items rival.key.items c.args.input c.args.other c.if-input-other.true)
    ∙ sym (goes_before_is c.args.lanes.now c.args.input c.args.other lane rival here there)

pub returns-else-input-other : goal.returns-else-input-other
returns-else-input-other c =
    let lane = c.in-Some.lane.now in
    let rival = c.in-Some-get.rival.now in
    let here = got c.args.lanes.now c.args.input lane c.in-Some.ensures.lookup.3.0 c.in-Some.ensures.lookup.1 in
    let there = got c.args.lanes.now c.args.other rival c.in-Some-get.ensures.lookup.3.0 c.in-Some-get.ensures.lookup.1 in
    c.is_less-else-input-other.ensures ∙ ap (λ k. is_less k c.deref-else-input-other-2.result.now) c.deref-else-input-other.ensures.value ∙ ap (is_less lane.key.items) c.deref-else-input-other-2.ensures.value
    ∙ sym (leads_by_less lane.key.items rival.key.items c.args.input c.args.other c.if-input-other.false)
    ∙ sym (goes_before_is c.args.lanes.now c.args.input c.args.other lane rival here there)
