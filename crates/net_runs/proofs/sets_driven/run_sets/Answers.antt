use Rattle.std.proofs.Common.{rules, ◌≡◌, length, sym, ap, subst, arith}
use Rattle.std.specs.List.{All}
use Rattle.std.specs.Vec.Iter.{into_iter_items}
use Rattle.net_runs.specs.SetRuns.{HasEnded, IsWritable}
use Rattle.net_runs.proofs.SetBegins.{begins_all, begins_none, begins_on, cores_few, cores_home, cores_whole, ends_all, ends_none, ends_on, next_left}
use Rattle.net_runs.proofs.SetReplies.{all_writable}
use Rattle.net_runs.proofs.Zips.{zip_length}
use Rattle.net_runs.proofs.sets_driven.run_sets.Goals as goal

pub loop-set-init : goal.loop-set-init
loop-set-init g c = record {
  begins = begins_none c.args.steps c.args.sets.items (into_iter_items c.into_iter-set-iterator.result) c.new-begun.result.items c.new-cores.result.items c.into_iter-set-iterator.ensures.into_iter_gives.0 c.requires.whole
      c.new-begun.ensures.items c.new-cores.ensures.items;
  next = tt;
  ends = tt;
}

pub loop-set-preserved : goal.loop-set-preserved
loop-set-preserved g c = record {
  begins = begins_on c.args.steps c.args.sets.items (into_iter_items c.loop-set.set-iterator) (into_iter_items c.next.new.self) c.in-Some.set c.loop-set.begun.items c.loop-set.cores.items c.loop-set.invariant.begins c.in-Some.ensures.steps.0
      c.in_ok-begin_set.field-0 c.push.new.self.items c.begin_set.new.cores.items c.in_ok-begin_set.ensures c.in_ok-push.ensures.items;
  next = tt;
  ends = tt;
}

pub drive_sets-requires-clause-few : goal.drive_sets-requires-clause-few
drive_sets-requires-clause-few g c κs within =
    let left = into_iter_items c.loop-set.set-iterator in
    let over = c.in-None.ensures.steps in
    let none : length left ≡ 0 = search (rules, over) in
    cores_few c.args.steps c.args.sets.items c.loop-set.begun.items c.loop-set.cores.items (begins_all c.args.steps c.args.sets.items left c.loop-set.begun.items c.loop-set.cores.items c.loop-set.invariant.begins none) c.requires.few

pub drive_sets-requires-clause-home : goal.drive_sets-requires-clause-home
drive_sets-requires-clause-home g c κs within =
    let left = into_iter_items c.loop-set.set-iterator in
    let over = c.in-None.ensures.steps in
    let none : length left ≡ 0 = search (rules, over) in
    cores_home c.args.steps c.args.sets.items c.loop-set.begun.items c.loop-set.cores.items (begins_all c.args.steps c.args.sets.items left c.loop-set.begun.items c.loop-set.cores.items c.loop-set.invariant.begins none)

pub drive_sets-requires-clause-whole : goal.drive_sets-requires-clause-whole
drive_sets-requires-clause-whole g c κs within =
    let left = into_iter_items c.loop-set.set-iterator in
    let over = c.in-None.ensures.steps in
    let none : length left ≡ 0 = search (rules, over) in
    cores_whole c.args.steps c.args.sets.items c.loop-set.begun.items c.loop-set.cores.items (begins_all c.args.steps c.args.sets.items left c.loop-set.begun.items c.loop-set.cores.items c.loop-set.invariant.begins none)

pub loop-told-init : goal.loop-told-init
loop-told-init g c =
    let left = into_iter_items c.loop-set.set-iterator in
    let over = c.in-None.ensures.steps in
    let none : length left ≡ 0 = search (rules, over) in
    let are = begins_all c.args.steps c.args.sets.items left c.loop-set.begun.items c.loop-set.cores.items c.loop-set.invariant.begins none in
    let did = c.in_ok-drive_sets in
    record {
      ending = ends_none c.args.steps c.args.workers c.args.sets.items c.loop-set.begun.items (into_iter_items c.into_iter-told-iterator.result) c.loop-set.cores.items did.field-0.items (into_iter_items c.into_iter-ran.result) c.new-ended.result.items
          are did.ensures.ran did.ensures.alone c.into_iter-told-iterator.ensures.into_iter_gives.0 c.into_iter-ran.ensures.rest c.new-ended.ensures.items;
      next = tt;
      ends = tt;
    }

pub end_set-requires : goal.end_set-requires
end_set-requires g c = record {
  left = next_left c.args.steps c.args.workers c.args.sets.items (into_iter_items c.loop-told.told-iterator) (into_iter_items c.next-in-loop-told.new.self) c.in-Some-told.told (into_iter_items c.loop-told.ran) c.loop-told.ended.items
      c.loop-told.invariant.ending c.in-Some-told.ensures.steps.0;
}

pub loop-told-preserved : goal.loop-told-preserved
loop-told-preserved g c =
    let rest = into_iter_items c.next-in-loop-told.new.self in
    record {
      ending = ends_on c.args.steps c.args.workers c.args.sets.items (into_iter_items c.loop-told.told-iterator) rest c.in-Some-told.told (into_iter_items c.loop-told.ran) c.loop-told.ended.items
          c.loop-told.invariant.ending c.in-Some-told.ensures.steps.0 c.in_ok-end_set.field-0 (into_iter_items c.end_set.new.ran) c.push-in-loop-told.new.self.items
          (λ set more are. c.in_ok-end_set.ensures.ended c.args.workers set more rest are) c.in_ok-push-2.ensures.items;
      next = tt;
      ends = tt;
    }

pub tell_sets-requires-clause-few : goal.tell_sets-requires-clause-few
tell_sets-requires-clause-few g c =
    let left = into_iter_items c.loop-told.told-iterator in
    let over = c.in-None-told.ensures.steps in
    let none : length left ≡ 0 = search (rules, over) in
    let all = ends_all c.args.steps c.args.workers c.args.sets.items left (into_iter_items c.loop-told.ran) c.loop-told.ended.items c.loop-told.invariant.ending none in
    let same = zip_length (λ set one. HasEnded c.args.steps c.args.workers set one) c.args.sets.items c.loop-told.ended.items all in
    let seen = ap length c.deref.ensures.value in
    omega (arith, same, seen, c.requires.few)

pub tell_sets-requires-clause-told : goal.tell_sets-requires-clause-told
tell_sets-requires-clause-told g c =
    let left = into_iter_items c.loop-told.told-iterator in
    let over = c.in-None-told.ensures.steps in
    let none : length left ≡ 0 = search (rules, over) in
    let all = ends_all c.args.steps c.args.workers c.args.sets.items left (into_iter_items c.loop-told.ran) c.loop-told.ended.items c.loop-told.invariant.ending none in
    subst (All IsWritable) (sym c.deref.ensures.value) (all_writable c.args.steps c.args.workers c.args.sets.items c.loop-told.ended.items all)

pub returns-clause-ended : goal.returns-clause-ended
returns-clause-ended g c =
    let left = into_iter_items c.loop-told.told-iterator in
    let over = c.in-None-told.ensures.steps in
    let none : length left ≡ 0 = search (rules, over) in
    ends_all c.args.steps c.args.workers c.args.sets.items left (into_iter_items c.loop-told.ran) c.loop-told.ended.items c.loop-told.invariant.ending none
