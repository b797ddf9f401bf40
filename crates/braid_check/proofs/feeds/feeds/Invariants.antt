-- The feeds are those by the links from k on.
use Rattle.std.proofs.Common.{◌≤◌, length}
use Rattle.braid_check.proofs.Feeding.{AreFed}
use Rattle.braid_check.proofs.feeds.feeds.Given as goal

abbrev pub invariant-loop-k : goal.invariant-loop-k
invariant-loop-k l = (l.k ≤ length l.net.links) × AreFed l.net l.k l.feeds.items

abbrev pub decreases-loop-k : goal.decreases-loop-k
decreases-loop-k l = l.k
