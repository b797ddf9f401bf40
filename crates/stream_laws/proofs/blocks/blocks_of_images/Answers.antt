use Rattle.std.specs.Prelude.{map}
use Rattle.std.specs.List.{before_first, concat}
use Rattle.pipe_model.specs.Parts.{without_last, last_part, cut_every}
use Rattle.pipe_model.specs.BlockRows.{is_too_long, image_of}
use Rattle.stream_laws.proofs.EveryBlock.{are_blocks}
use Rattle.stream_laws.proofs.BlockPuts.{block_puts, block_ends}
use Rattle.stream_laws.proofs.blocks.blocks_of_images.Goals as goal

pub returns-clause-pairs : goal.returns-clause-pairs
returns-clause-pairs c = λ size image recs some.
    let bytes = concat (map (image_of image) (before_first (is_too_long image) recs)) in
    (without_last (cut_every size bytes), last_part (cut_every size bytes), are_blocks size bytes some, block_puts size image recs)

pub returns-clause-code : goal.returns-clause-code
returns-clause-code c = block_ends
