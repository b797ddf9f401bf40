-- What a core stands for, and which strands are out.
use Rattle.std.specs.Prelude.{◌≡◌, ℕ, zero, suc, ◌≤◌, ◌==◌, Bool, true, false, not, List, [], ◌∷◌, ◌++◌, length, Option, Some, None, slice_get, filter}
use Rattle.std.specs.List.{list_any}
use Rattle.std.specs.Option.{option_map_or}
use Rattle.pipe_model.specs.declared.net.Net.{Net}
use Rattle.pipe_model.specs.declared.net.Strand.{Strand}
use Rattle.pipe_model.specs.declared.step.Entry.{Entry}
use Rattle.pipe_model.specs.Event.{Event, Want}
use Rattle.pipe_model.specs.State.{Who, State, nothing_yet, strand_at}
use Rattle.pipe_model.specs.Table.{form}
use Rattle.pipe_model.specs.Licence.{Left, licence, want_at}
use Rattle.pipe_model.specs.Play.{play, IsLegal}

pub record Machine : Type 0 where
  pub net : Net
  -- the most entries of the journal
  pub budget : ℕ
  pub journal : List Entry
  -- the places of the jobs that are out, counted from 1
  pub out : List ℕ
  pub is_broken : Bool

-- the entry is the strand's
abbrev pub is_of : Who → Option Entry → Bool
is_of s None = false
is_of s (Some e) = e.strand == s

-- the entry at the place, counted from 1, is the strand's
abbrev pub is_at : List Entry → Who → ℕ → Bool
is_at journal s zero = false
is_at journal s (suc p) = is_of s (slice_get journal p)

-- the strands that are out
abbrev pub left_by : List Entry → List ℕ → Left
left_by journal out s = list_any (is_at journal s) out

-- the places but this one
abbrev pub without : ℕ → List ℕ → List ℕ
without p out = filter (λ q. not (q == p)) out

abbrev pub is_among : ℕ → List ℕ → Bool
is_among p out = list_any (λ q. q == p) out

-- the histories so far
abbrev pub state_of : Machine → State
state_of m = play m.net m.journal

-- the event that a strand may have on a stream, where those that are out are left out
abbrev pub licence_of : Machine → Who → ℕ → Option Event
licence_of m s k = licence m.net (state_of m) (left_by m.journal m.out) s k

-- what a strand wants, unless it is out
abbrev pub want_of : Machine → Who → Option Want
want_of m s = want_at m.net (state_of m) (left_by m.journal m.out) s

-- the strand is given the bytes of what it sees, where the stage table says that it looks
abbrev pub looks_at : Net → Who → Bool
looks_at net s = option_map_or (λ (p : Strand). (form p).looks) (strand_at net nothing_yet s) false

-- no strand is out, and none may have an event
abbrev pub HasStopped : Machine → Type 0
HasStopped m = (m.out ≡ []) × ((s k : ℕ) → licence_of m s k ≡ None)

-- the journal is legal and within the budget, which counts at most fifty million entries
pub record IsLawful (m : Machine) : Type 0 where
  pub legal : IsLegal m.net m.journal
  pub within : length m.journal ≤ m.budget
  pub bounded : m.budget ≤ 50000000

-- a core before the first step
abbrev pub started : Net → ℕ → Machine
started net budget = record { net = net; budget = budget; journal = []; out = []; is_broken = false }

-- after one more entry, whose strand is out
abbrev pub turned : Machine → Entry → Machine
turned m e = record m { journal = m.journal ++ e ∷ []; out = m.out ++ suc (length m.journal) ∷ [] }

-- after the job of a place came home
abbrev pub came_home : Machine → ℕ → Machine
came_home m p = record m { out = without p m.out }

-- after want of memory
abbrev pub broke_down : Machine → Machine
broke_down m = record m { is_broken = true }
