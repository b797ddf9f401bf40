-- The inside: how a walk begins before it is turned.
use Rattle.std.specs.Prelude.{◌≡◌, ℕ, ◌≤◌, List, slice_get}
use Rattle.std.specs.declared.option.Option.TheVariants.{Some}
use Rattle.pipe_model.specs.State.{Who}

-- the first strand is the least
abbrev pub BeginsLeast : List Who → Type 0
BeginsLeast walk = (k : ℕ) (first s : Who) → slice_get walk 0 ≡ Some first → slice_get walk k ≡ Some s → first ≤ s
