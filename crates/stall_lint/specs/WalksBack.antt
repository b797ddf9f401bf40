-- The inside: walks back from the producers of each strand that takes what comes first, and the strands that they pass.
use Rattle.std.specs.Prelude.{◌≡◌, ◌≢◌, ◌<◌, ◌≤◌, ◌⊎◌, ℕ, Bool, true, ◌||◌, List, length, slice_get, is_some}
use Rattle.std.specs.declared.option.Option.{Option}
use Rattle.std.specs.declared.option.Option.TheVariants.{Some}
use Rattle.pipe_model.specs.declared.net.Net.{Net}
use Rattle.pipe_model.specs.declared.net.Link.{Link}
use Rattle.pipe_model.specs.Members.{flag_at}
use Rattle.pipe_model.specs.Settled.{fork}
use Rattle.pipe_model.specs.State.{Who}
use Rattle.braid_check.specs.Walks.{Nexts, next_at, stood}

-- for each strand where the ways to it part
pub record AreForks (net : Net) (forks : List (Option Who)) : Type 0 where
  pub count : length forks ≡ length net.strands
  pub each : (s : Who) → next_at forks s ≡ fork net s

-- t stands on the walk from a strand before the strand d, less than n steps away
pub record IsBefore (nexts : Nexts) (n : ℕ) (start d t : Who) : Type 0 where
  pub steps : ℕ
  pub few : steps < n
  pub there : stood nexts steps (Some start) ≡ Some t
  pub before : (k : ℕ) → k ≤ steps → stood nexts k (Some start) ≢ Some d

-- these strands are marked, besides those that were before
pub record AreMarked (nexts : Nexts) (n : ℕ) (start d : Who) (old new : List Bool) : Type 0 where
  pub count : length new ≡ length old
  pub keeps : (t : Who) → slice_get old t ≡ Some true → slice_get new t ≡ Some true
  pub only : (t : Who) → slice_get new t ≡ Some true → (slice_get old t ≡ Some true) ⊎ IsBefore nexts n start d t
  pub all : (t : Who) → IsBefore nexts n start d t → slice_get new t ≡ Some true

-- t stands on a walk back from one of the first n links, which leads to a strand to which the ways part, before the strand where they do
pub record IsPassed (net : Net) (nexts : Nexts) (n : ℕ) (t : Who) : Type 0 where
  pub number : ℕ
  pub few : number < n
  pub link : Link
  pub at : slice_get net.links number ≡ Some link
  pub parts : Who
  pub parts_is : fork net link.to ≡ Some parts
  pub before : IsBefore nexts (length nexts) link.from parts t

-- these strands are marked
pub record ArePassed (net : Net) (nexts : Nexts) (n : ℕ) (passed : List Bool) : Type 0 where
  pub count : length passed ≡ length nexts
  pub only : (t : Who) → slice_get passed t ≡ Some true → IsPassed net nexts n t
  pub all : (t : Who) → IsPassed net nexts n t → slice_get passed t ≡ Some true

-- the first n links are marked where they lead to a strand to which the ways part, or to one that is marked
pub record AreMarkedLinks (net : Net) (passed : List Bool) (n : ℕ) (inner : List Bool) : Type 0 where
  pub count : length inner ≡ n
  pub each : (j : ℕ) (l : Link) → j < n → slice_get net.links j ≡ Some l → slice_get inner j ≡ Some (is_some (fork net l.to) || flag_at passed l.to)
