-- How a text is cut into records, one after another from its front.
use Rattle.std.specs.Prelude.{◌≡◌, ◌<◌, ◌≤◌, ◌==◌, ℕ, Bool, false, if◌then◌else◌, List, [], ◌∷◌, ◌++◌, length, map, take, drop, ℤ, pos}
use Rattle.std.specs.declared.option.Option.{Option}
use Rattle.std.specs.declared.option.Option.TheVariants.{Some, None}
use Rattle.pipe_model.specs.declared.kind.Cutting.{Cutting}
use Rattle.pipe_model.specs.declared.kind.Cutting.TheVariants as Cuttings
use Rattle.pipe_model.specs.BlockRows.{some_rest, filled, cut_at, cut_by_lengths, is_bad_length}
use Rattle.pipe_model.specs.Parts.{cut_every}
use Rattle.pipe_model.specs.Shape.{Records}
use Rattle.block_stages.specs.declared.cuts.Cut.{Cut}
use Rattle.block_stages.specs.declared.cuts.Cuts.{Cuts}
use Rattle.block_stages.specs.declared.cuts.Cuts.TheVariants.{Every, At, ByLengths}
use Rattle.block_stages.specs.Delimiting.{IsSearchedFor}

-- a text in parts, of which only the last isn't complete
abbrev pub parts_by : Cuts → List ℕ → Records
parts_by (Every size fill) = cut_every size
parts_by (At string) = cut_at string 0
parts_by ByLengths = cut_by_lengths 0

-- the records that are made at the end of input of the part that isn't
abbrev pub rest_by : Cuts → List ℕ → Records
rest_by (Every size fill) rest = map (filled size fill) (some_rest rest)
rest_by (At string) rest = some_rest rest
rest_by ByLengths rest = []

-- the stage ends for that part
abbrev pub stops_by : Cuts → List ℕ → Bool
stops_by ByLengths rest = is_bad_length rest
stops_by cuts rest = false

-- the code with which it ends then, and at the end of input
abbrev pub code_by : Cuts → List ℕ → ℤ
code_by ByLengths rest = if length rest == 0 then pos 0 else pos 8
code_by cuts rest = pos 0

-- where DEBLOCK cuts
abbrev pub AreCutsOf : Cutting → Cuts → Type 0
AreCutsOf (Cuttings.Fixed size) cuts = cuts ≡ Every size None
AreCutsOf Cuttings.Linend cuts = cuts ≡ At (10 ∷ [])
AreCutsOf (Cuttings.Text string) cuts = cuts ≡ At string
AreCutsOf Cuttings.Sf cuts = cuts ≡ ByLengths

-- the cut lies in the text, and something is cut off
pub record IsWithin (c : Cut) (text : List ℕ) : Type 0 where
  pub filled : 0 < c.next
  pub within : c.next ≤ length text
  pub low : c.from ≤ c.next

-- the first part and what is cut behind it, whatever more comes; or no part is complete
abbrev pub IsFirst : (List ℕ → Records) → List ℕ → Option Cut → Type 0
IsFirst parts text None = parts text ≡ text ∷ []
IsFirst parts text (Some c) = IsWithin c text × ((more : List ℕ) → parts (text ++ more) ≡ take c.size (drop c.from text) ∷ parts (drop c.next text ++ more))

-- so many places were searched in vain, where the way of cutting searches
abbrev pub IsSearched : Cuts → ℕ → List ℕ → Type 0
IsSearched (At string) searched text = IsSearchedFor string searched text
IsSearched cuts searched text = Unit {0}
