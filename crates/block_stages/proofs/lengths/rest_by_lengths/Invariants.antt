use Rattle.std.proofs.Common.{◌≡◌, length}
use Rattle.pipe_model.specs.BlockRows.{cut_by_lengths}
use Rattle.pipe_model.specs.Parts.{last_part}
use Rattle.block_stages.proofs.lengths.rest_by_lengths.Given as goal

abbrev pub invariant-loop-cut : goal.invariant-loop-cut
invariant-loop-cut l = record {
  -- the last part of the rest is that of all
  last : last_part (cut_by_lengths 0 l.rest) ≡ last_part (cut_by_lengths 0 l.text);
}

abbrev pub decreases-loop-cut : goal.decreases-loop-cut
decreases-loop-cut l = length l.rest
