-- The inside: hops over edges from group to group that come back to the first group.
use Rattle.std.specs.Prelude.{◌≡◌, ◌⊎◌, ℕ, suc, ◌<◌, ◌==◌, if◌then◌else◌, List, length, slice_get}
use Rattle.std.specs.declared.option.Option.TheVariants.{Some}
use Rattle.pipe_model.specs.declared.net.Net.{Net}
use Rattle.pipe_model.specs.declared.net.Link.{Link}
use Rattle.pipe_model.specs.State.{Who}
use Rattle.stall_lint.specs.Groups.{InOneGroup, IsInner}
use Rattle.stall_lint.specs.declared.hops.Hop.{Hop}

-- they are the two ends of the link
abbrev pub AreEnds : Link → Who → Who → Type 0
AreEnds l s t = ((l.from ≡ s) × (l.to ≡ t)) ⊎ ((l.from ≡ t) × (l.to ≡ s))

-- the hop goes over an edge, one way or the other
pub record IsHop (net : Net) (hop : Hop) : Type 0 where
  pub link : Link
  pub at : slice_get net.links hop.link ≡ Some link
  pub edge : ¬ IsInner net link
  pub ends : AreEnds link hop.exit hop.entry

-- the place of the next hop, which behind the last is the first
abbrev pub next_hop : List Hop → ℕ → ℕ
next_hop hops k = if suc k == length hops then 0 else suc k

-- each hop goes on in the group to which the one before it came, and the last comes to the group from which the first goes; no two come to one group,
-- and no edge serves twice
pub record IsCircle (net : Net) (hops : List Hop) : Type 0 where
  pub some : 0 < length hops
  pub each : (k : ℕ) (hop : Hop) → slice_get hops k ≡ Some hop → IsHop net hop
  pub joined : (k : ℕ) (hop next : Hop) → slice_get hops k ≡ Some hop → slice_get hops (next_hop hops k) ≡ Some next → InOneGroup net hop.entry next.exit
  pub apart : (j k : ℕ) (hop other : Hop) → slice_get hops j ≡ Some hop → slice_get hops k ≡ Some other → InOneGroup net hop.entry other.entry → j ≡ k
  pub once : (j k : ℕ) (hop other : Hop) → slice_get hops j ≡ Some hop → slice_get hops k ≡ Some other → hop.link ≡ other.link → j ≡ k
