use Rattle.std.proofs.Common.{rules, ◌≡◌, ◌∙◌, length, sym, subst}
use Rattle.std.proofs.lemmas.List.Elements.{All-same}
use Rattle.std.specs.Vec.Iter.{into_iter_items}
use Rattle.outside.specs.Device.{device}
use Rattle.call_meaning.specs.Devices.{Store, store}
use Rattle.call_streams.proofs.Replies.{written_whole}
use Rattle.net_runs.specs.SetRuns.{IsWritable}
use Rattle.net_runs.proofs.SetPuts.{HasReplaced, one_torn, one_unwritten, replaced_all, replaced_none, replaced_one, sets_put, sets_torn, sets_unwritten, wrote_all, wrote_none, wrote_one}
use Rattle.net_runs.proofs.sets_run.put_sets_out.Goals as goal

pub loop-ended-init : goal.loop-ended-init
loop-ended-init g c = wrote_none c.deref-ended-items.result.now (device _ _)

pub returns-then-is_err-clause-puts : goal.returns-then-is_err-clause-puts
returns-then-is_err-clause-puts g c =
    sets_unwritten c.args.sets.ended.items (device _ _) (device _ _) (store _ _ _) c.args.sets.told.outcome c.write_set.result _ _ (sym c.is_err.ensures.value ∙ c.if-is_err.true) c.write_set.ensures
    (one_unwritten c.loop-ended.ended-index c.deref-ended-items.result.now c.ended-item.result c.loop-ended-test.true c.ended-item.is (device _ _) (device _ _) c.loop-ended.invariant c.args.sets.ended.items c.deref-ended-items.ensures.value (device _ _))
    c.write_fault.result.outcome c.write_fault.ensures.outcome

pub loop-ended-preserved : goal.loop-ended-preserved
loop-ended-preserved g c =
    wrote_one c.loop-ended.ended-index c.deref-ended-items.result.now c.ended-item.result c.loop-ended-test.true c.ended-item.is (device _ _) (device _ _) c.loop-ended.invariant (device _ _)
    (written_whole c.write_set.result _ _ (sym c.is_err.ensures.value ∙ c.if-is_err.false) c.write_set.ensures)

pub loop-ended-2-init : goal.loop-ended-2-init
loop-ended-2-init g c =
    let items = into_iter_items c.into_iter-ended-iterator.result in
    replaced_none items (store _ _ _) (All-same IsWritable items c.args.sets.ended.items c.into_iter-ended-iterator.ensures.into_iter_gives.0 c.requires.ready)

pub returns-in-Err-clause-puts : goal.returns-in-Err-clause-puts
returns-in-Err-clause-puts g c =
    let items = into_iter_items c.into_iter-ended-iterator.result in
    let old : Store = store (g.F.Shelf.files c.args.shelf.now) (g.F.Shelf.faults c.args.shelf.now) (g.F.Shelf.wants c.args.shelf.now) in
    let now : Store = store (g.F.Shelf.files c.loop-ended-2.shelf) (g.F.Shelf.faults c.loop-ended-2.shelf) (g.F.Shelf.wants c.loop-ended-2.shelf) in
    let wrote = wrote_all c.deref-ended-items.result.now c.args.sets.ended.items c.deref-ended-items.ensures.value c.loop-ended.ended-index c.loop-ended.auto.ended-index-end c.loop-ended-test.false (device _ _) (device _ _) c.loop-ended.invariant in
    let before = subst (λ left. HasReplaced items left old now) c.in-Some.ensures.steps.0 c.loop-ended-2.invariant in
    sets_torn c.args.sets.ended.items (device _ _) (device _ _) (store _ _ _) c.args.sets.told.outcome (store _ _ _) wrote c.in-Err.fault.outcome
    (one_torn items (into_iter_items c.next.new.self) c.in-Some.ended old now before c.args.sets.ended.items c.into_iter-ended-iterator.ensures.into_iter_gives.0 (store _ _ _) c.in-Err.fault.outcome c.in-Err.ensures.stored)

pub loop-ended-2-preserved : goal.loop-ended-2-preserved
loop-ended-2-preserved g c =
    let items = into_iter_items c.into_iter-ended-iterator.result in
    let old : Store = store (g.F.Shelf.files c.args.shelf.now) (g.F.Shelf.faults c.args.shelf.now) (g.F.Shelf.wants c.args.shelf.now) in
    let now : Store = store (g.F.Shelf.files c.loop-ended-2.shelf) (g.F.Shelf.faults c.loop-ended-2.shelf) (g.F.Shelf.wants c.loop-ended-2.shelf) in
    let before = subst (λ left. HasReplaced items left old now) c.in-Some.ensures.steps.0 c.loop-ended-2.invariant in
    replaced_one items (into_iter_items c.next.new.self) c.in-Some.ended old now before (store _ _ _) c.in_default.ensures.stored

pub returns-clause-puts : goal.returns-clause-puts
returns-clause-puts g c =
    let items = into_iter_items c.into_iter-ended-iterator.result in
    let left = into_iter_items c.loop-ended-2.ended-iterator in
    let wrote = wrote_all c.deref-ended-items.result.now c.args.sets.ended.items c.deref-ended-items.ensures.value c.loop-ended.ended-index c.loop-ended.auto.ended-index-end c.loop-ended-test.false (device _ _) (device _ _) c.loop-ended.invariant in
    let over = c.in-None.ensures.steps in
    let none : length left ≡ 0 = search (rules, over) in
    sets_put c.args.sets.ended.items (device _ _) (device _ _) (store _ _ _) c.args.sets.told.outcome (store _ _ _) wrote
    (replaced_all items c.args.sets.ended.items left c.into_iter-ended-iterator.ensures.into_iter_gives.0 none (store _ _ _) (store _ _ _) c.loop-ended-2.invariant)
