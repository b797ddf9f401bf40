use Rattle.stream_laws.proofs.OneCut.{one_blocks, one_measured, one_parts}
use Rattle.stream_laws.proofs.blocks.one_cut.Goals as goal

pub returns-clause-by_size : goal.returns-clause-by_size
returns-clause-by_size c = one_blocks

pub returns-clause-by_string : goal.returns-clause-by_string
returns-clause-by_string c = λ string bytes parts others rest other filled x y. one_parts string filled bytes parts others rest other x y

pub returns-clause-by_lengths : goal.returns-clause-by_lengths
returns-clause-by_lengths c = one_measured
