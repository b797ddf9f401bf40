use Rattle.pipe_model.specs.BlockRows.{deblock}
use Rattle.block_stages.proofs.Streams.{deblock_is}
use Rattle.block_stages.proofs.deblock.deblock.Goals as goal

pub returns : goal.returns
returns c = c.new.ensures (deblock c.args.cutting.now) (deblock_is c.args.cutting.now c.in_ok-cuts.cuts c.in_ok-cuts.ensures)
