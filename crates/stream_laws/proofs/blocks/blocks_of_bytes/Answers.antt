use Rattle.std.specs.List.{concat}
use Rattle.pipe_model.specs.Parts.{without_last, last_part, cut_every}
use Rattle.stream_laws.proofs.EveryBlock.{are_blocks}
use Rattle.stream_laws.proofs.BlockPuts.{fblock_puts}
use Rattle.stream_laws.proofs.blocks.blocks_of_bytes.Goals as goal

pub returns : goal.returns
returns c = λ size fill recs some. (without_last (cut_every size (concat recs)), last_part (cut_every size (concat recs)), are_blocks size (concat recs) some, fblock_puts size fill recs)
