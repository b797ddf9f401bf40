use Rattle.std.proofs.Common.{length}
use Rattle.pipe_model.proofs.Blanks.{AfterBlanks}
use Rattle.pipe_model.proofs.words.without_blanks.Given as goal

abbrev pub invariant-loop-text : goal.invariant-loop-text
invariant-loop-text l = AfterBlanks l.fn.text l.text

abbrev pub decreases-loop-text : goal.decreases-loop-text
decreases-loop-text l = length l.text
