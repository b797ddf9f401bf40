-- The labels so far are changed, and those to come aren't.
use Rattle.std.proofs.Common.{◌≡◌, ◌<◌, ◌≤◌, ℕ, slice_index}
use Rattle.stall_lint.specs.Relabelled.{relabelled}
use Rattle.stall_lint.proofs.labels.unite.Given as goal

abbrev pub invariant-loop-label : goal.invariant-loop-label
invariant-loop-label l = record {
  done : (k : ℕ) → k < l.label-index → slice_index l.label-items k ≡ relabelled l.lost l.kept (slice_index l.fn.labels k);
  left : (k : ℕ) → l.label-index ≤ k → slice_index l.label-items k ≡ slice_index l.fn.labels k;
}
