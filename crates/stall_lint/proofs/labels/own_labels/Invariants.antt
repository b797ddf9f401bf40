-- Each strand so far has its own number.
use Rattle.std.proofs.Common.{◌≡◌, ◌<◌, ℕ, length, slice_index}
use Rattle.stall_lint.proofs.labels.own_labels.Given as goal

abbrev pub invariant-loop-strand : goal.invariant-loop-strand
invariant-loop-strand l = (length l.labels.items ≡ l.strand) × ((k : ℕ) → k < l.strand → slice_index l.labels.items k ≡ k)
