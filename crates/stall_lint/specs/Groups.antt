-- Groups of strands: a strand that takes what comes first, the one at which the ways to it part, and all that stand between.
use Rattle.std.specs.Prelude.{◌≡◌, ◌≢◌, ℕ, true}
use Rattle.std.specs.declared.option.Option.TheVariants.{Some}
use Rattle.pipe_model.specs.declared.net.Net.{Net}
use Rattle.pipe_model.specs.declared.net.Link.{Link}
use Rattle.pipe_model.specs.declared.net.Strand.{Strand}
use Rattle.pipe_model.specs.Form.Meeting.{Braided}
use Rattle.pipe_model.specs.Settled.{fork, is_thin}
use Rattle.pipe_model.specs.State.{Who, link_into, strand_in}
use Rattle.pipe_model.specs.Table.{form}

-- the strands on the walks from s back to d: the producers of its inputs, and from a strand that isn't d the next one on its walk
pub data StandsOn (net : Net) (s d : Who) : Who → Type 0 where
  begins : (i : ℕ) (l : Link) → link_into net s i ≡ Some l → StandsOn net s d l.from
  goes_through : {t : Who} (p : Strand) (l : Link) → StandsOn net s d t → t ≢ d → strand_in net t ≡ Some p → is_thin p ≡ true → link_into net t 0 ≡ Some l → StandsOn net s d l.from
  goes_over : {t m : Who} → StandsOn net s d t → t ≢ d → fork net t ≡ Some m → StandsOn net s d m

-- the links that these walks follow
pub data IsFollowed (net : Net) (s d : Who) (l : Link) : Type 0 where
  at_join : (i : ℕ) → link_into net s i ≡ Some l → IsFollowed net s d l
  onward : (t : Who) (p : Strand) → StandsOn net s d t → t ≢ d → strand_in net t ≡ Some p → is_thin p ≡ true → link_into net t 0 ≡ Some l → IsFollowed net s d l

-- the link is inner: a walk follows it from a strand that takes what comes first back to where its ways part. Every other link is an edge
pub record IsInner (net : Net) (l : Link) : Type 0 where
  pub join : Who
  pub strand : Strand
  pub there : strand_in net join ≡ Some strand
  pub takes_first : (form strand).meeting ≡ Braided
  pub parts : Who
  pub parts_is : fork net join ≡ Some parts
  pub followed : IsFollowed net join parts l

-- the strands of the group of s: a chain of inner links leads to them, each one way or the other
pub data InOneGroup (net : Net) (s : Who) : Who → Type 0 where
  alone : InOneGroup net s s
  down : (l : Link) → IsInner net l → InOneGroup net s l.from → InOneGroup net s l.to
  up : (l : Link) → IsInner net l → InOneGroup net s l.to → InOneGroup net s l.from
