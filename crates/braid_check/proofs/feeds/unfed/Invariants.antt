-- The feeds so far and those to come are those of all strands.
use Rattle.std.proofs.Common.{◌≡◌, ◌++◌, map, drop}
use Rattle.braid_check.specs.Feeds.{unfed_strand}
use Rattle.braid_check.proofs.feeds.unfed.Given as goal

abbrev pub invariant-loop-strand : goal.invariant-loop-strand
invariant-loop-strand l = l.feeds.items ++ map unfed_strand (drop l.strand-index l.strands) ≡ map unfed_strand l.strands
