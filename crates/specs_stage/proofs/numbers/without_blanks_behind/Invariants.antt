use Rattle.std.proofs.Common.{◌≡◌, reverse, length}
use Rattle.pipe_model.specs.Numbers.{without_blanks_before}
use Rattle.specs_stage.proofs.numbers.without_blanks_behind.Given as goal

abbrev pub invariant-loop-rest : goal.invariant-loop-rest
invariant-loop-rest l = without_blanks_before (reverse l.rest) ≡ without_blanks_before (reverse l.text)

abbrev pub decreases-loop-rest : goal.decreases-loop-rest
decreases-loop-rest l = length l.rest
