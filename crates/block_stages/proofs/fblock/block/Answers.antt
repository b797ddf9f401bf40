use Rattle.std.proofs.Common.{None, subst}
use Rattle.pipe_model.specs.BlockRows.{block}
use Rattle.block_stages.specs.declared.cuts.Cuts.TheVariants.{Every}
use Rattle.block_stages.specs.Blocks.{IsStreamOf}
use Rattle.block_stages.proofs.Streams.{block_is}
use Rattle.block_stages.proofs.fblock.block.Goals as goal

pub returns : goal.returns
returns c =
    let size = c.args.size in
    c.new.ensures (block size c.args.image.now) (subst (λ image. IsStreamOf c.in_ok-image.image (Every size None) (block size image)) c.in_ok-image.ensures (block_is size c.in_ok-image.image))
