use Rattle.std.proofs.Common.{◌≡◌, ◌+◌, ◌≤◌, ◌<◌, length, take, vec_len, vec_capacity}
use Rattle.std.specs.List.{AllZip}
use Rattle.workers.specs.Driven.{LeftByWorkers}
use Rattle.many_sets.specs.Hands.{IsFounded}
use Rattle.many_sets.proofs.closing.close_all.Given as goal

abbrev pub invariant-loop-board : goal.invariant-loop-board
invariant-loop-board g l = record {
  some : 0 < length l.hands;
  founded : IsFounded l.origin.value.items l.boards.items l.hands;
  left : AllZip LeftByWorkers (take (vec_len l.cores) l.origin.value.items) l.cores.items;
  count : vec_len l.cores + vec_len l.boards ≡ vec_len l.origin.value;
  capacity : vec_len l.origin.value ≤ vec_capacity l.cores;
}

abbrev pub decreases-loop-board : goal.decreases-loop-board
decreases-loop-board g l = vec_len l.boards
