use Rattle.std.proofs.Common.{arith}
use Rattle.pipe_model.proofs.Blanks.{one_blank_more}
use Rattle.pipe_model.proofs.words.without_blanks.Goals as goal

pub loop-text-preserved : goal.loop-text-preserved
loop-text-preserved c = one_blank_more _ c.loop-text.text.now c.loop-text.invariant c.in-32.len_at_least (omega arith)
