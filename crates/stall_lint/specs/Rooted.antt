-- The inside: a numbering of a net's groups as trees, with which no walk through them is closed.
use Rattle.std.specs.Prelude.{◌≡◌, ◌⊎◌, ℕ, suc, ◌<◌, ◌≤◌, length, slice_get}
use Rattle.std.specs.declared.option.Option.{Option}
use Rattle.std.specs.declared.option.Option.TheVariants.{Some}
use Rattle.pipe_model.specs.declared.net.Net.{Net}
use Rattle.pipe_model.specs.declared.net.Link.{Link}
use Rattle.pipe_model.specs.State.{Who}
use Rattle.stall_lint.specs.Groups.{IsInner}

-- the group of s is next above that of t, by the link of number j
abbrev pub IsAbove : (Who → ℕ) → (ℕ → ℕ) → (ℕ → Option ℕ) → ℕ → Who → Who → Type 0
IsAbove label depth up j s t = (up (label t) ≡ Some j) × (depth (label t) ≡ suc (depth (label s)))

-- each group has a label, a depth, and at most one link up; each edge is that of one of the two groups that it joins
pub record IsRooted (net : Net) : Type 0 where
  pub label : Who → ℕ
  pub depth : ℕ → ℕ
  pub up : ℕ → Option ℕ
  pub most : (s : Who) → s < length net.strands → depth (label s) ≤ length net.strands
  pub inner : (l : Link) → IsInner net l → label l.from ≡ label l.to
  pub edge : (j : ℕ) (l : Link) → slice_get net.links j ≡ Some l → IsInner net l ⊎ (IsAbove label depth up j l.from l.to ⊎ IsAbove label depth up j l.to l.from)
