-- Closed walks through the groups of a net.
use Rattle.std.specs.Prelude.{◌≡◌, ◌⊎◌, ℕ, suc, ◌<◌, ◌≤◌, ◌-◌, ◌==◌, if◌then◌else◌, List, length, slice_get}
use Rattle.std.specs.declared.option.Option.TheVariants.{Some}
use Rattle.pipe_model.specs.declared.net.Net.{Net}
use Rattle.pipe_model.specs.declared.net.Link.{Link}
use Rattle.pipe_model.specs.State.{Who}
use Rattle.stall_lint.specs.Groups.{InOneGroup, IsInner}

-- how a walk goes on: by the link of this number, one way or the other, or within a group
pub data Way : Type 0 where
  ByLink : ℕ → Way
  Within : Way

-- from s to t so
abbrev pub Goes : Net → Who → Way → Who → Type 0
Goes net s (ByLink j) t = (l : Link) × (slice_get net.links j ≡ Some l) × (((l.from ≡ s) × (l.to ≡ t)) ⊎ ((l.from ≡ t) × (l.to ≡ s)))
Goes net s Within t = InOneGroup net s t

-- the place behind one, which behind the last is the first
abbrev pub behind : List Who → ℕ → ℕ
behind walk k = if suc k == length walk then 0 else suc k

-- two neighbours of a walk, of which the last and the first are two
pub record IsStep (walk : List Who) (k : ℕ) (s t : Who) : Type 0 where
  pub here : slice_get walk k ≡ Some s
  pub next : slice_get walk (behind walk k) ≡ Some t

-- a link that is no inner one serves
pub record UsesEdge (net : Net) (ways : List Way) : Type 0 where
  pub place : ℕ
  pub number : ℕ
  pub link : Link
  pub way : slice_get ways place ≡ Some (ByLink number)
  pub at : slice_get net.links number ≡ Some link
  pub edge : ¬ IsInner net link

-- each strand feeds the next one, and the last the first
abbrev pub EachFeeds : Net → List Who → Type 0
EachFeeds net walk = (k : ℕ) (s t : Who) → IsStep walk k s t → (j : ℕ) × (l : Link) × (slice_get net.links j ≡ Some l) × (l.from ≡ s) × (l.to ≡ t)

-- the same where the walk is read from its end
abbrev pub EachIsFed : Net → List Who → Type 0
EachIsFed net walk = (k : ℕ) (s t : Who) → IsStep walk k s t → (j : ℕ) × (l : Link) × (slice_get net.links j ≡ Some l) × (l.from ≡ t) × (l.to ≡ s)

-- strands without repeats, where each two neighbours stand at the two ends of a link or in one group, and no link serves twice; an edge serves, or each strand feeds the next one, one way or the other
pub record IsRound (net : Net) (walk : List Who) : Type 0 where
  pub some : 0 < length walk
  pub once : (j k : ℕ) (s : Who) → slice_get walk j ≡ Some s → slice_get walk k ≡ Some s → j ≡ k
  pub ways : List Way
  pub count : length ways ≡ length walk
  pub goes : (k : ℕ) (way : Way) (s t : Who) → slice_get ways k ≡ Some way → IsStep walk k s t → Goes net s way t
  pub no_twice : (j k n : ℕ) → slice_get ways j ≡ Some (ByLink n) → slice_get ways k ≡ Some (ByLink n) → j ≡ k
  pub closes : UsesEdge net ways ⊎ (EachFeeds net walk ⊎ EachIsFed net walk)

-- it begins with its least strand, and the lesser of that one's two neighbours comes second
pub record IsTurned (walk : List Who) : Type 0 where
  pub least : (k : ℕ) (first s : Who) → slice_get walk 0 ≡ Some first → slice_get walk k ≡ Some s → first ≤ s
  pub lesser : (second last : Who) → slice_get walk 1 ≡ Some second → slice_get walk (length walk - 1) ≡ Some last → second ≤ last

-- a round that begins and turns so
abbrev pub IsClosedWalk : Net → List Who → Type 0
IsClosedWalk net walk = IsRound net walk × IsTurned walk
