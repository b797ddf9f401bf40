use Rattle.std.proofs.Common.{◌≡◌, ◌++◌, length, map}
use Rattle.call_tests.specs.declared.refusing.Refusing.{Refusing}
use Rattle.call_tests.proofs.refusing.wrapped.Given as goal

abbrev pub invariant-loop-stage : goal.invariant-loop-stage
invariant-loop-stage l = record {
  next : (goal.iterator-loop-stage).can_next l.stage-iterator;
  finite : (goal.iterator-loop-stage).is_finite l.stage-iterator;
  size : l.stage-iterator.rest.len ≡ length l.stage-iterator.rest.items;
  same : map (λ (x : Refusing). x.stage) l.wrapped.items ++ l.stage-iterator.rest.items ≡ l.fn.stages.items;
}
