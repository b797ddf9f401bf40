-- The inside: the edges that each group has, by their numbers among the links.
use Rattle.std.specs.Prelude.{◌≡◌, ◌⊎◌, ℕ, ◌<◌, true, List, [], ◌∷◌, ◌++◌, length, slice_get, slice_index_or, slice_set}
use Rattle.std.specs.declared.option.Option.{Option}
use Rattle.std.specs.declared.option.Option.TheVariants.{Some, None}
use Rattle.pipe_model.specs.declared.net.Net.{Net}
use Rattle.pipe_model.specs.declared.net.Link.{Link}
use Rattle.pipe_model.specs.Members.{has}
use Rattle.pipe_model.specs.State.{Who}
use Rattle.stall_lint.specs.Groups.{IsInner}

-- strands of these labels
abbrev pub HaveLabels : List ℕ → Who → Who → ℕ → ℕ → Type 0
HaveLabels labels s t g h = (slice_get labels s ≡ Some g) × (slice_get labels t ≡ Some h)

-- the link of number j is an edge that joins these two groups, one way or the other
pub record Joins (net : Net) (labels : List ℕ) (j g h : ℕ) : Type 0 where
  pub link : Link
  pub at : slice_get net.links j ≡ Some link
  pub edge : ¬ IsInner net link
  pub ends : HaveLabels labels link.from link.to g h ⊎ HaveLabels labels link.from link.to h g

-- what a group has
abbrev pub edges_at : List (List ℕ) → ℕ → List ℕ
edges_at edges g = slice_index_or edges g []

-- with one edge more for a group
abbrev pub with_edge : List (List ℕ) → ℕ → ℕ → List (List ℕ)
with_edge edges g j = slice_set edges g (edges_at edges g ++ j ∷ [])

-- each group has those of the first n links that are edges with an end in it, and no others
pub record AreListed (net : Net) (labels : List ℕ) (n : ℕ) (edges : List (List ℕ)) : Type 0 where
  pub count : length edges ≡ length labels
  pub among : (g j : ℕ) → has (edges_at edges g) j ≡ true → (h : ℕ) × Joins net labels j g h
  pub all : (j g h : ℕ) → j < n → Joins net labels j g h → has (edges_at edges g) j ≡ true

-- the last of a list is no longer in it, if it had one
abbrev pub IsPopped : List ℕ → Option ℕ → List ℕ → Type 0
IsPopped old None new = (old ≡ []) × (new ≡ [])
IsPopped old (Some j) new = old ≡ new ++ j ∷ []

-- a group has no longer the last of its edges, if it had one
abbrev pub IsTaken : List (List ℕ) → ℕ → Option ℕ → List (List ℕ) → Type 0
IsTaken old g taken new = (rest : List ℕ) × IsPopped (edges_at old g) taken rest × (new ≡ slice_set old g rest)
