-- The inside: a search for a ring, back along the links.
use Rattle.std.specs.Prelude.{◌≡◌, ◌⊎◌, ℕ, suc, ◌+◌, ◌<◌, ◌≤◌, List, drop, length, slice_get, sum_by}
use Rattle.std.specs.declared.option.Option.TheVariants.{Some}
use Rattle.pipe_model.specs.declared.net.Net.{Net}
use Rattle.pipe_model.specs.declared.net.Link.{Link}
use Rattle.pipe_model.specs.State.{Who}
use Rattle.stall_lint.specs.ClosedWalks.{IsRound}
use Rattle.stall_lint.specs.declared.rings.Look.{Look}
use Rattle.stall_lint.specs.declared.rings.Look.TheVariants.{New, On, Done}

-- it was looked at, and so were all that lead to it
abbrev pub IsDone : List Look → Who → Type 0
IsDone looks s = slice_get looks s ≡ Some Done

-- the link of number j waits with t
pub record Waits (waiting : List (List ℕ)) (t : Who) (j : ℕ) : Type 0 where
  pub numbers : List ℕ
  pub here : slice_get waiting t ≡ Some numbers
  pub place : ℕ
  pub at : slice_get numbers place ≡ Some j

-- those that wait with a strand lead to it
abbrev pub AreLed : Net → List (List ℕ) → Type 0
AreLed net waiting = (t : Who) (j : ℕ) → Waits waiting t j → (l : Link) × (slice_get net.links j ≡ Some l) × (l.to ≡ t)

-- of the links the first n wait, each with its consumer
pub record AllWait (net : Net) (n : ℕ) (waiting : List (List ℕ)) : Type 0 where
  pub places : length waiting ≡ length net.strands
  pub led : AreLed net waiting
  pub all : (j : ℕ) (l : Link) → j < n → slice_get net.links j ≡ Some l → Waits waiting l.to j

-- a link leads to s from t
abbrev pub IsFed : Net → Who → Who → Type 0
IsFed net s t = (j : ℕ) × (l : Link) × (slice_get net.links j ≡ Some l) × (l.from ≡ t) × (l.to ≡ s)

-- a search that has gone back this way so far
pub record IsSearch (net : Net) (waiting : List (List ℕ)) (looks : List Look) (way : List Who) : Type 0 where
  pub places : length waiting ≡ length net.strands
  pub led : AreLed net waiting
  pub count : length looks ≡ length net.strands
  -- on the way stand the strands of which that is known, each at its place
  pub stands : (k : ℕ) (s : Who) → slice_get way k ≡ Some s → slice_get looks s ≡ Some (On k)
  pub on_way : (k : ℕ) (s : Who) → slice_get looks s ≡ Some (On k) → slice_get way k ≡ Some s
  -- each of them is fed by the next
  pub fed : (k : ℕ) (s t : Who) → slice_get way k ≡ Some s → slice_get way (suc k) ≡ Some t → IsFed net s t
  -- with those that are done no link waits
  pub none : (s : Who) (j : ℕ) → IsDone looks s → ¬ Waits waiting s j
  -- they have ranks below the next one, which rise along links
  pub rank : Who → ℕ
  pub next : ℕ
  pub below : (s : Who) → IsDone looks s → rank s < next
  pub known : (j : ℕ) (l : Link) → slice_get net.links j ≡ Some l → Waits waiting l.to j ⊎ (IsDone looks l.from × (IsDone looks l.to → rank l.from < rank l.to))

-- what is new was new before
abbrev pub NoneIsNew : List Look → List Look → Type 0
NoneIsNew before looks = (s : Who) → slice_get looks s ≡ Some New → slice_get before s ≡ Some New

-- how often a strand is still entered or left
abbrev pub steps_left : Look → ℕ
steps_left New = 2
steps_left (On place) = 1
steps_left Done = 0

-- how many steps are left at most
abbrev pub work : List (List ℕ) → List Look → ℕ
work waiting looks = sum_by length waiting + sum_by steps_left looks

-- the search went on by a step
pub record GoesOn (net : Net) (waiting_before : List (List ℕ)) (before : List Look) (waiting : List (List ℕ)) (looks : List Look) (way : List Who) : Type 0 where
  pub search : IsSearch net waiting looks way
  pub less : work waiting looks < work waiting_before before
  pub known : NoneIsNew before looks

-- what stands on the way from this place on is a ring
pub record ClosesAt (net : Net) (way : List Who) (place : ℕ) : Type 0 where
  pub within : place ≤ length way
  pub ring : IsRound net (drop place way)

-- a search from a strand that has gone back this way so far
pub record IsLooking (net : Net) (start : Who) (before : List Look) (waiting : List (List ℕ)) (looks : List Look) (way : List Who) : Type 0 where
  pub search : IsSearch net waiting looks way
  pub known : NoneIsNew before looks
  pub itself : slice_get looks start ≡ Some New → ⊥
