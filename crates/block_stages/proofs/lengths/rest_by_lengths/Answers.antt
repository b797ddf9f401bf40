use Rattle.std.proofs.Common.{◌∙◌, sym, ap}
use Rattle.pipe_model.specs.BlockRows.{cut_by_lengths}
use Rattle.pipe_model.specs.Parts.{last_part}
use Rattle.block_stages.proofs.Reached.{last_by_lengths}
use Rattle.block_stages.proofs.lengths.rest_by_lengths.Goals as goal

pub loop-cut-preserved : goal.loop-cut-preserved
loop-cut-preserved c = record {
  last = ap (λ t. last_part (cut_by_lengths 0 t)) c.behind-rest.ensures ∙ sym (last_by_lengths c.loop-cut.rest.now c.in-Some.cut c.in-Some.ensures.first) ∙ c.loop-cut.invariant.last;
}
