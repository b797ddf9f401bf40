use Rattle.std.proofs.Common.{◌≡◌, take}
use Rattle.unique_sort.specs.Counting.{sums_line}
use Rattle.unique_sort.proofs.count.sums_line.Given as goal

abbrev pub invariant-loop-k : goal.invariant-loop-k
invariant-loop-k l = l.line.items ≡ sums_line (take l.k l.tallies)
