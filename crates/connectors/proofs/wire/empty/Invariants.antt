use Rattle.std.proofs.Common.{◌≡◌, length}
use Rattle.connectors.specs.WireState.{emptied, CanEmpty}
use Rattle.connectors.proofs.wire.empty.Given as goal

abbrev pub invariant-loop-queue : goal.invariant-loop-queue
invariant-loop-queue l = record {
  can : CanEmpty l.queue.waiting l.pool;
  -- what is left to be given back leads where all of it does
  same : emptied l.queue.waiting l.pool ≡ emptied l.initial.queue.waiting l.initial.pool;
}

abbrev pub decreases-loop-queue : goal.decreases-loop-queue
decreases-loop-queue l = length l.queue.waiting
