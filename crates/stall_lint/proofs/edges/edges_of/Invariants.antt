-- The links before this one are listed.
use Rattle.stall_lint.specs.Listed.{AreListed}
use Rattle.stall_lint.proofs.edges.edges_of.Given as goal

abbrev pub invariant-loop-number : goal.invariant-loop-number
invariant-loop-number l = AreListed l.net l.groups.labels.items l.number l.edges.items
