-- No group has an edge so far.
use Rattle.std.proofs.Common.{◌≡◌, [], replicate}
use Rattle.stall_lint.proofs.edges.none.Given as goal

abbrev pub invariant-loop : goal.invariant-loop
invariant-loop l = l.edges.items ≡ replicate l.counter []
