-- Walks go on over the strands so far.
use Rattle.std.proofs.Common.{◌≡◌, ◌<◌, ◌≤◌, ℕ}
use Rattle.pipe_model.specs.Settled.{or_else}
use Rattle.braid_check.specs.Walks.{next_at}
use Rattle.stall_lint.proofs.inner.lead_over.Given as goal

abbrev pub invariant-loop-strand : goal.invariant-loop-strand
invariant-loop-strand l = record {
  done : (t : ℕ) → t < l.strand → next_at l.nexts t ≡ or_else (next_at l.forks t) (next_at l.initial.nexts t);
  left : (t : ℕ) → l.strand ≤ t → next_at l.nexts t ≡ next_at l.initial.nexts t;
}
