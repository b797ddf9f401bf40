use Rattle.std.proofs.Common.{◌<◌, length, sym, ap, subst, arith}
use Rattle.std.proofs.lemmas.Result.{err_from_is_err_and}
use Rattle.net_graph.specs.Fed.{filed}
use Rattle.call_meaning.specs.Devices.{store}
use Rattle.call_streams.specs.Feeding.{set_with}
use Rattle.call_streams.proofs.SetFillings.{AreFilling, all_changed, fetched_all, filling_more, filling_none, filling_stopped, sound_now}
use Rattle.call_streams.proofs.sets.fetch_all_files.Goals as goal

pub loop-set-init : goal.loop-set-init
loop-set-init g c = record {
  end = ap (λ xs. length xs) c.deref_mut-set-items.ensures.value;
  filling =
      let shelf = store (g.F.Shelf.files c.args.shelf.now) (g.F.Shelf.faults c.args.shelf.now) (g.F.Shelf.wants c.args.shelf.now) in
      let sets = c.args.sets.now.items in
      let found = c.args.found.now.items in
      subst (λ now. AreFilling sets 0 now 0 found found shelf shelf) (sym c.deref_mut-set-items.ensures.value) (filling_none sets found shelf c.requires.whole c.requires.known);
}

pub fetch_set_files-requires-clause-whole : goal.fetch_set_files-requires-clause-whole
fetch_set_files-requires-clause-whole g c =
    sound_now c.loop-set.invariant.filling c.set-item.result (subst (λ n. c.loop-set.set-index < n) c.loop-set.invariant.end c.loop-set-test.true) c.requires.whole

pub returns-in_err-size-clause-fetched : goal.returns-in_err-size-clause-fetched
returns-in_err-size-clause-fetched g c =
    let e = err_from_is_err_and c.from_residual.result c.from_residual.ensures.1 in
    rw (e.1, e.2) (filling_stopped c.loop-set.invariant.filling c.set-item.result (subst (λ n. c.loop-set.set-index < n) c.loop-set.invariant.end c.loop-set-test.true)
    (store _ _ _) c.in_err-size.field-0.0.outcome c.in_err-size.ensures.fetched)

pub loop-set-preserved : goal.loop-set-preserved
loop-set-preserved g c = record {
  end = c.loop-set.invariant.end;
  filling = filling_more c.loop-set.invariant.filling c.set-item.result (subst (λ n. c.loop-set.set-index < n) c.loop-set.invariant.end c.loop-set-test.true)
      (store _ _ _) c.in_ok-size.size c.fetch_set_files.new.found.items c.fetch_set_files.new.set c.in_ok-size.ensures.fetched c.in_ok-size.ensures.filed c.in_ok-size.ensures.whole;
}

pub returns-clause-fetched : goal.returns-clause-fetched
returns-clause-fetched g c =
    let end = c.loop-set.invariant.end in
    let within = c.loop-set.auto.set-index-end in
    let none = c.loop-set-test.false in
    fetched_all c.loop-set.invariant.filling (omega (arith, end, within, none))

pub returns-clause-filed : goal.returns-clause-filed
returns-clause-filed g c files are =
    let end = c.loop-set.invariant.end in
    let within = c.loop-set.auto.set-index-end in
    let none = c.loop-set-test.false in
    all_changed (set_with (filed files)) c.args.sets.now.items c.loop-set.set-index c.loop-set.set-items (c.loop-set.invariant.filling.filed files are) c.args.sets.now.len c.args.sets.now.ok.0 (omega (arith, end, within, none))
