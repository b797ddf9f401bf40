use Rattle.std.proofs.Common.{◌≡◌, ◌≤◌, length, vec_len, vec_capacity}
use Rattle.std.specs.List.{AllZip}
use Rattle.many_sets.specs.Finished.{IsFinished}
use Rattle.many_sets.proofs.finishing.run_all.Given as goal

abbrev pub invariant-loop-core : goal.invariant-loop-core
invariant-loop-core g l = record {
  ran : AllZip (λ core one. IsFinished core one.0 one.1) l.yielded l.ran.items;
  count : vec_len l.ran ≡ length l.yielded;
  room : vec_len l.fn.cores ≤ vec_capacity l.ran;
  next : (goal.iterator-loop-core g).can_next l.core-iterator;
  ends : (goal.iterator-loop-core g).is_finite l.core-iterator;
}
