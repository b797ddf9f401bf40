-- Where a string stands at which a text is cut.
use Rattle.std.specs.Prelude.{◌≡◌, ◌<◌, ◌≤◌, ◌+◌, ℕ, false, List, [], ◌∷◌, ◌++◌, length, take, drop, max}
use Rattle.std.specs.declared.option.Option.{Option}
use Rattle.std.specs.declared.option.Option.TheVariants.{Some, None}
use Rattle.pipe_model.specs.BlockRows.{cut_at}
use Rattle.pipe_model.specs.Search.{begins}

-- how many bytes are dropped where the string stands: an empty one stands at each byte
abbrev pub width_of : List ℕ → ℕ
width_of string = max 1 (length string)

-- the text is cut first at this place, whatever more comes; or nowhere yet
abbrev pub IsCutAt : List ℕ → List ℕ → Option ℕ → Type 0
IsCutAt string text None = cut_at string 0 text ≡ text ∷ []
IsCutAt string text (Some k) = (k + width_of string ≤ length text) × ((more : List ℕ) → cut_at string 0 (text ++ more) ≡ take k text ∷ cut_at string 0 (drop (k + width_of string) text ++ more))

-- at none of the first so many places the string stands, and there is room for it at each
abbrev pub IsSearchedFor : List ℕ → ℕ → List ℕ → Type 0
IsSearchedFor string searched text = (k : ℕ) → k < searched → (k + length string ≤ length text) × (begins string (drop k text) ≡ false)
