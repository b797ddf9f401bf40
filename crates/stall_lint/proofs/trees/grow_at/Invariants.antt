-- The tree grows, what was reached stays so, and the root is.
use Rattle.stall_lint.specs.Growing.{AreKept, IsGrowing, IsReached, work}
use Rattle.stall_lint.proofs.trees.grow_at.Given as goal

abbrev pub invariant-grow : goal.invariant-grow
invariant-grow l = record {
  grows : IsGrowing l.net l.groups.labels.items l.edges.items l.places.items l.way.items l.at;
  kept : AreKept l.fn.places.items l.places.items;
  root : IsReached l.places.items l.root;
}

abbrev pub decreases-grow : goal.decreases-grow
decreases-grow l = work l.edges.items l.way.items
