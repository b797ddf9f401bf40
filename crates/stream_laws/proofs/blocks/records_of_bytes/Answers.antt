use Rattle.std.specs.List.{concat}
use Rattle.pipe_model.specs.Parts.{without_last, last_part, cut_every}
use Rattle.pipe_model.specs.BlockRows.{cut_at, cut_by_lengths}
use Rattle.stream_laws.proofs.EveryBlock.{are_blocks}
use Rattle.stream_laws.proofs.AtStrings.{are_delimited}
use Rattle.stream_laws.proofs.Measured.{are_measured}
use Rattle.stream_laws.proofs.BlockPuts.{deblock_fixed_puts, deblock_lines_puts, deblock_text_puts, deblock_lengths_puts, deblock_lengths_ends}
use Rattle.stream_laws.proofs.blocks.records_of_bytes.Goals as goal

pub returns-clause-by_size : goal.returns-clause-by_size
returns-clause-by_size c = λ size recs some. (without_last (cut_every size (concat recs)), last_part (cut_every size (concat recs)), are_blocks size (concat recs) some, deblock_fixed_puts size recs)

pub returns-clause-by_lines : goal.returns-clause-by_lines
returns-clause-by_lines c = deblock_lines_puts

pub returns-clause-by_string : goal.returns-clause-by_string
returns-clause-by_string c = λ string recs filled. (without_last (cut_at string 0 (concat recs)), last_part (cut_at string 0 (concat recs)), are_delimited string filled (concat recs), deblock_text_puts string recs)

pub returns-clause-by_lengths : goal.returns-clause-by_lengths
returns-clause-by_lengths c = λ recs. (without_last (cut_by_lengths 0 (concat recs)), last_part (cut_by_lengths 0 (concat recs)), are_measured (concat recs), deblock_lengths_puts recs, deblock_lengths_ends recs)
