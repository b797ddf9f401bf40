use Rattle.std.proofs.Common.{◌≡◌, map, take}
use Rattle.unique_sort.specs.Counting.{fresh_tally}
use Rattle.unique_sort.proofs.count.fresh_tallies.Given as goal

abbrev pub invariant-loop-total : goal.invariant-loop-total
invariant-loop-total l = l.tallies.items ≡ map fresh_tally (take l.total-index l.totals)
