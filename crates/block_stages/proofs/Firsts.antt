-- The first part of a text, by the way in which it is cut.
use Rattle.std.proofs.Common.{ℕ, zero, suc, ◌+◌, ◌-◌, ◌<◌, ◌≤◌, List, [], ◌∷◌, length, refl, arith, Option, Some, None, ⊎_elim}
use Rattle.std.proofs.lemmas.Bool.{cases_lt}
use Rattle.pipe_model.specs.BlockRows.{cut_at, cut_by_lengths, sf_length}
use Rattle.pipe_model.specs.Parts.{cut_every}
use Rattle.pipe_model.specs.Shape.{Records}
use Rattle.block_stages.specs.declared.cuts.Cut.{Cut}
use Rattle.block_stages.specs.declared.cuts.Cuts.{Cuts}
use Rattle.block_stages.specs.declared.cuts.Cuts.TheVariants.{Every, At, ByLengths}
use Rattle.block_stages.specs.Cutting.{parts_by, IsFirst}
use Rattle.block_stages.specs.Delimiting.{width_of, IsCutAt}
use Rattle.block_stages.proofs.AtString.{first_place, cut_at_place}
use Rattle.block_stages.proofs.ByLength.{whole_first, none_whole}
use Rattle.block_stages.proofs.EverySize.{too_short, never_cut, block_first}

-- Every so many bytes

pub no_block : (size : ℕ) (text : List ℕ) → (0 < size → size ≤ length text → ⊥) → IsFirst (cut_every size) text None
no_block zero text none = never_cut 0 text
no_block (suc size) text none = ⊎_elim (too_short (suc size) (suc size) text) (λ enough. absurd (none (omega arith) enough)) (cases_lt (length text) (suc size))

pub a_block : (size : ℕ) (text : List ℕ) → 0 < size → size ≤ length text → IsFirst (cut_every size) text (Some (record { from = 0; size = size; next = size }))
a_block size text some within = (record { filled = some; within = within; low = omega arith }, λ more. block_first size text more some within)

-- At a string

pub a_delimiter : (string text : List ℕ) (k : ℕ) → IsCutAt string text (Some k) → IsFirst (cut_at string 0) text (Some (record { from = 0; size = k; next = k + width_of string }))
a_delimiter string text k is = (record { filled = omega arith; within = is.0; low = omega arith }, is.1)

-- By lengths

pub no_length : (text : List ℕ) → (2 ≤ sf_length text → sf_length text ≤ length text → ⊥) → IsFirst (cut_by_lengths 0) text None
no_length text none = none_whole text none

pub a_length : (text : List ℕ) → 2 ≤ sf_length text → sf_length text ≤ length text → IsFirst (cut_by_lengths 0) text (Some (record { from = 2; size = sf_length text - 2; next = sf_length text }))
a_length text some within = (record { filled = omega (arith, some); within = within; low = some }, λ more. whole_first text more some within)

-- Each text has one, or none that is complete

abbrev pub First : (List ℕ → Records) → List ℕ → Type 0
First parts text = (cut : Option Cut) × IsFirst parts text cut

by_size : (size : ℕ) (text : List ℕ) → First (cut_every size) text
by_size size text =
    ⊎_elim (λ some. ⊎_elim (λ short. (None, no_block size text (λ s enough. omega (arith, short, enough)))) (λ enough. (Some (record { from = 0; size = size; next = size }), a_block size text some enough)) (cases_lt (length text) size))
    (λ none. (None, no_block size text (λ some enough. omega (arith, none, some))))
    (cases_lt 0 size)

by_place : (string text : List ℕ) (place : Option ℕ) → IsCutAt string text place → First (cut_at string 0) text
by_place string text None is = (None, is)
by_place string text (Some k) is = (Some (record { from = 0; size = k; next = k + width_of string }), a_delimiter string text k is)

by_string : (string text : List ℕ) → First (cut_at string 0) text
by_string string [] = (None, refl)
by_string string (b ∷ text) = let place = first_place string (b ∷ text) in by_place string (b ∷ text) place.0 (cut_at_place string (b ∷ text) place.0 (omega arith) place.1)

by_length : (text : List ℕ) → First (cut_by_lengths 0) text
by_length text =
    ⊎_elim (λ bad. (None, no_length text (λ some within. omega (arith, bad, some))))
    (λ some. ⊎_elim (λ short. (None, no_length text (λ s within. omega (arith, short, within)))) (λ within. (Some (record { from = 2; size = sf_length text - 2; next = sf_length text }), a_length text some within)) (cases_lt (length text) (sf_length text)))
    (cases_lt (sf_length text) 2)

pub first_by : (cuts : Cuts) (text : List ℕ) → First (parts_by cuts) text
first_by (Every size fill) text = by_size size text
first_by (At string) text = by_string string text
first_by ByLengths text = by_length text
