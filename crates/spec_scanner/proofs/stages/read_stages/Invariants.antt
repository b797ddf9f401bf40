use Rattle.std.proofs.Common.{length}
use Rattle.spec_scanner.proofs.SoFar.{StagesSoFar}
use Rattle.spec_scanner.proofs.stages.read_stages.Given as goal

abbrev pub invariant-loop-inside : goal.invariant-loop-inside
invariant-loop-inside l = StagesSoFar l.closed l.fn.findings l.findings l.fn.pieces.items l.pieces.items l.items l.rest

abbrev pub decreases-loop-inside : goal.decreases-loop-inside
decreases-loop-inside l = length l.rest
