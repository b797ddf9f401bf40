use Rattle.std.proofs.Common.{length}
use Rattle.spec_scanner.proofs.SoFar.{PipelinesSoFar}
use Rattle.spec_scanner.proofs.stages.read_pipelines.Given as goal

abbrev pub invariant-loop-inside : goal.invariant-loop-inside
invariant-loop-inside l = PipelinesSoFar l.closed l.fn.findings l.findings l.fn.pipelines.items l.pipelines.items l.items l.rest

abbrev pub decreases-loop-inside : goal.decreases-loop-inside
decreases-loop-inside l = length l.rest
