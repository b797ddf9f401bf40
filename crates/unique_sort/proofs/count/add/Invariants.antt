use Rattle.std.proofs.Common.{◌≡◌}
use Rattle.unique_sort.proofs.CountSteps.{added_to}
use Rattle.unique_sort.proofs.count.add.Given as goal

-- those so far have what the record adds to them, and the others are as they were
abbrev pub invariant-loop-tally : goal.invariant-loop-tally
invariant-loop-tally l = l.tally-items ≡ added_to l.rec l.tally-index l.fn.tallies.items
