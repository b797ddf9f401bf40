use Rattle.std.proofs.Common.{◌<◌, length}
use Rattle.stage_steps.proofs.strings.rarest.Given as goal

abbrev pub invariant-loop-place : goal.invariant-loop-place
invariant-loop-place l = 0 < length l.text → l.rare < length l.text
