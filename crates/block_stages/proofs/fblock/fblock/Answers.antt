use Rattle.pipe_model.specs.BlockRows.{fblock}
use Rattle.block_stages.proofs.Streams.{fblock_is}
use Rattle.block_stages.proofs.fblock.fblock.Goals as goal

pub returns : goal.returns
returns c = c.new.ensures (fblock c.args.size c.args.fill) (fblock_is c.args.size c.args.fill)
