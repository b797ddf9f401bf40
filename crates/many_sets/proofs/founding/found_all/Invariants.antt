use Rattle.std.proofs.Common.{◌≡◌, ◌+◌, ◌≤◌, All, length, take, vec_len, vec_capacity}
use Rattle.many_sets.specs.Hands.{IsFounded}
use Rattle.many_sets.proofs.founding.found_all.Given as goal

abbrev pub invariant-loop-core : goal.invariant-loop-core
invariant-loop-core g l = record {
  founded : IsFounded l.fn.cores.items l.boards.items l.hands;
  left : l.cores.items ≡ take (vec_len l.cores) l.fn.cores.items;
  count : vec_len l.cores + vec_len l.boards ≡ vec_len l.fn.cores;
  capacity : vec_capacity l.cores ≡ vec_capacity l.fn.cores;
  len : length l.hands ≡ length l.fn.hands;
  room : vec_len l.fn.cores ≤ vec_capacity l.boards;
  rooms : All (λ h. vec_len l.fn.cores ≤ vec_capacity h.passes) l.hands;
}

abbrev pub decreases-loop-core : goal.decreases-loop-core
decreases-loop-core g l = vec_len l.cores
