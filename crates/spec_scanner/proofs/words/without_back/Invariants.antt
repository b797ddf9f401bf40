use Rattle.std.proofs.Common.{◌≡◌, length}
use Rattle.spec_scanner.specs.Stretches.{without_back}
use Rattle.spec_scanner.proofs.words.without_back.Given as goal

abbrev pub invariant-loop-last : goal.invariant-loop-last
invariant-loop-last l = without_back l.items ≡ without_back l.fn.items

abbrev pub decreases-loop-last : goal.decreases-loop-last
decreases-loop-last l = length l.items
