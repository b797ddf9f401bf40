-- The inside: groups told by marks on links and labels of strands.
use Rattle.std.specs.Prelude.{◌≡◌, ◌<◌, ℕ, Bool, true, false, List, length, slice_get}
use Rattle.std.specs.declared.option.Option.TheVariants.{Some}
use Rattle.pipe_model.specs.declared.net.Net.{Net}
use Rattle.pipe_model.specs.declared.net.Link.{Link}
use Rattle.pipe_model.specs.State.{Who}
use Rattle.stall_lint.specs.Groups.{InOneGroup, IsInner}
use Rattle.stall_lint.specs.declared.groups.Groups.{Groups}

-- the links that are marked are the inner ones
pub record AreInner (net : Net) (inner : List Bool) : Type 0 where
  pub count : length inner ≡ length net.links
  pub marked : (j : ℕ) (l : Link) → slice_get net.links j ≡ Some l → slice_get inner j ≡ Some true → IsInner net l
  pub unmarked : (j : ℕ) (l : Link) → slice_get net.links j ≡ Some l → slice_get inner j ≡ Some false → ¬ IsInner net l

-- strands of one label are those of one group
pub record AreLabels (net : Net) (labels : List ℕ) : Type 0 where
  pub count : length labels ≡ length net.strands
  pub within : (s label : ℕ) → slice_get labels s ≡ Some label → label < length net.strands
  pub one : (s t : Who) (label : ℕ) → slice_get labels s ≡ Some label → slice_get labels t ≡ Some label → InOneGroup net s t
  pub same : (s t : Who) (label other : ℕ) → slice_get labels s ≡ Some label → slice_get labels t ≡ Some other → InOneGroup net s t → label ≡ other

pub record AreGroups (net : Net) (groups : Groups) : Type 0 where
  pub inner : AreInner net groups.inner.items
  pub labels : AreLabels net groups.labels.items
