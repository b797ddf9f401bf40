use Rattle.std.specs.Vec.Iter.{into_iter_items}
use Rattle.net_runs.proofs.SetBegins.{Beginning, Ending}
use Rattle.net_runs.proofs.sets_driven.run_sets.Given as goal

abbrev pub invariant-loop-set : goal.invariant-loop-set
invariant-loop-set g l = record {
  begins : Beginning l.steps l.fn.sets.items (into_iter_items l.set-iterator) l.begun.items l.cores.items;
  next : (goal.iterator-loop-set g).can_next l.set-iterator;
  ends : (goal.iterator-loop-set g).is_finite l.set-iterator;
}

abbrev pub invariant-loop-told : goal.invariant-loop-told
invariant-loop-told g l = record {
  ending : Ending l.steps l.workers l.fn.sets.items (into_iter_items l.told-iterator) (into_iter_items l.ran) l.ended.items;
  next : (goal.iterator-loop-told g).can_next l.told-iterator;
  ends : (goal.iterator-loop-told g).is_finite l.told-iterator;
}
