-- What a text's parts are by its first cut.
use Rattle.std.proofs.Common.{◌≡◌, ℕ, List, [], ◌∷◌, drop, ◌∙◌, ap, Some, None}
use Rattle.pipe_model.specs.BlockRows.{cut_by_lengths}
use Rattle.pipe_model.specs.Parts.{last_part}
use Rattle.block_stages.specs.declared.cuts.Cut.{Cut}
use Rattle.block_stages.specs.declared.cuts.Cuts.TheVariants.{ByLengths}
use Rattle.block_stages.specs.Cutting.{IsFirst}
use Rattle.block_stages.proofs.Firsts.{first_by}
use Rattle.block_stages.proofs.Growing.{first_part, some_parts, last_behind}

-- By lengths

-- the last part is that of what is behind the first
pub last_by_lengths : (text : List ℕ) (c : Cut) → IsFirst (cut_by_lengths 0) text (Some c) → last_part (cut_by_lengths 0 text) ≡ last_part (cut_by_lengths 0 (drop c.next text))
last_by_lengths text c is =
    ap last_part (first_part (cut_by_lengths 0) (first_by ByLengths) text c is)
    ∙ last_behind (_ ∷ []) (cut_by_lengths 0 (drop c.next text)) (some_parts (cut_by_lengths 0) (first_by ByLengths) (drop c.next text))

-- where none is whole it is all
pub last_lone : (text : List ℕ) → IsFirst (cut_by_lengths 0) text None → last_part (cut_by_lengths 0 text) ≡ text
last_lone text is = ap last_part is
