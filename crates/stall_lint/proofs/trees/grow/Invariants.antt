-- All groups before this one were reached, and are done.
use Rattle.std.proofs.Common.{ℕ, ◌<◌}
use Rattle.stall_lint.specs.Growing.{AreGrown, IsReached}
use Rattle.stall_lint.proofs.trees.grow.Given as goal

abbrev pub invariant-loop-root : goal.invariant-loop-root
invariant-loop-root l = record {
  grown : AreGrown l.net l.groups.labels.items l.edges.items l.places.items;
  reached : (g : ℕ) → g < l.root → IsReached l.places.items g;
}
