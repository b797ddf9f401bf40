-- The rule that each step of a board keeps. Word 0 is the journal's length, and word 1 is 0 while the slot is at home. It serves the inside.
use Rattle.std.specs.Prelude.{◌≡◌, ℕ, ◌+◌, ◌<◌, ◌≤◌, Bool, ◌||◌, List, [], length, slice_index, nat_lt, is_some, count_by, sum_by, Option, Some, None}
use mathlib.Core.Option.{none, some}
use mathlib.Core.List.{IsPrefix}
use lib.ListN.{get_elem?}
use Rattle.atomic_table.specs.Table.{State}
use Rattle.core_machine.specs.Machine.{Machine, IsLawful}
use Rattle.board.specs.Counts.{times, places, places_after, signum, all_shares, all_tries}
use Rattle.board.specs.declared.view.View.{View}

-- a core, and how often it was given back
abbrev pub Kept : Type 0
Kept = Machine × ℕ

-- what the slot holds: nothing only once the board was closed
abbrev pub Slot : Type 0
Slot = Option Kept

-- the core as the view last saw it
abbrev pub machine_of : View → Machine
machine_of v = record { net = v.net; budget = v.budget; journal = v.seen; out = v.out; is_broken = v.is_broken }

-- the slot is out with this view
abbrev pub is_holder : View → Bool
is_holder v = is_some v.held

-- the view of one who has no share
pub record IsIdle (v : View) : Type 0 where
  pub held : v.held ≡ None
  pub mine : v.mine ≡ []
  pub lost : v.lost ≡ []
  pub numbers : (v.holds ≡ 0) × (v.used ≡ 0) × (v.tries ≡ 0)

-- what holds of each view by itself, beside the core and its number
pub record Fits (now : Kept) (v : View) : Type 0 where
  pub net : 0 < v.shares → (now.0.net ≡ v.net) × (now.0.budget ≡ v.budget)
  pub seen : IsPrefix v.seen now.0.journal
  pub told : IsPrefix v.told v.seen
  -- the places brought home and those lost are among those made, and none is both
  pub parts : (p : ℕ) → times p v.home + times p v.lost ≤ times p v.mine
  pub turn : v.turn ≤ now.1
  pub used : v.holds ≤ v.used
  pub idle : v.shares ≡ 0 → IsIdle v

-- some view with shares was the last to give the slot back, or was told of it
pub record HasLatest (now : Kept) (views : List View) : Type 0 where
  pub seat : ℕ
  pub view : View
  pub is : get_elem? views seat ≡ some view
  pub shares : 0 < view.shares
  pub turn : view.turn ≡ now.1

-- the rule
pub record IsOrdered (s : State Slot View) : Type 0 where
  -- the core at home, or as the holder's last step left it
  pub now : Kept
  pub words : length s.words ≡ 2
  pub long : slice_index s.words 0 ≡ length now.0.journal
  pub lawful : IsLawful now.0
  pub home : slice_index s.words 1 ≡ 0 → get_elem? s.homes 0 ≡ some (some (Some now))
  pub away : 0 < slice_index s.words 1 → get_elem? s.homes 0 ≡ some none
  -- one view is the holder's while the slot is out, and none while it is at home
  pub holders : count_by is_holder s.views ≡ signum (slice_index s.words 1)
  pub held : (j : ℕ) (v : View) (k : Kept) → get_elem? s.views j ≡ some v → v.held ≡ Some k → k ≡ now
  pub fits : (j : ℕ) (v : View) → get_elem? s.views j ≡ some v → Fits now v
  -- at home, a view of the latest turn shows the core as it is, and there is such a view
  pub fresh : slice_index s.words 1 ≡ 0 → (j : ℕ) (v : View) → get_elem? s.views j ≡ some v → 0 < v.shares → v.turn ≡ now.1 → machine_of v ≡ now.0
  pub latest : slice_index s.words 1 ≡ 0 → HasLatest now s.views
  -- each entry was made by one view, and its job is out or one view brought it home
  pub mine : (p : ℕ) → sum_by (λ (v : View). times p v.mine) s.views ≡ times p (places (length now.0.journal))
  pub jobs : (p : ℕ) → sum_by (λ (v : View). times p v.home) s.views + times p now.0.out ≡ times p (places (length now.0.journal))
  pub lost : now.0.is_broken ≡ nat_lt 0 (sum_by (λ (v : View). length v.lost) s.views)
  pub turns : sum_by (λ (v : View). v.holds) s.views ≡ now.1
  pub tries : sum_by (λ (v : View). v.tries) s.views + sum_by (λ (v : View). v.used) s.views + slice_index s.words 1 ≡ all_tries
  pub shares : sum_by (λ (v : View). v.shares) s.views ≡ all_shares

-- the places of the entries that k has beyond those of h
abbrev pub made_since : Kept → Kept → List ℕ
made_since h k = places_after (length h.0.journal) (length k.0.journal)

-- the holder of h made entries, so that the core is k; of its jobs those of the places in home came home and those in lost were lost. The length word is still to be raised
pub record HasMade (v : View) (h k : Kept) (home lost : List ℕ) : Type 0 where
  pub held : v.held ≡ Some h
  pub shares : 0 < v.shares
  pub turns : k.1 ≡ h.1
  pub net : (k.0.net ≡ h.0.net) × (k.0.budget ≡ h.0.budget)
  pub journal : IsPrefix h.0.journal k.0.journal
  pub lawful : IsLawful k.0
  pub jobs : (p : ℕ) → times p home + times p k.0.out ≡ times p (made_since h k) + times p h.0.out
  pub parts : (p : ℕ) → times p v.home + times p home + (times p v.lost + times p lost) ≤ times p v.mine + times p (made_since h k)
  pub broken : k.0.is_broken ≡ (h.0.is_broken || nat_lt 0 (length lost))

-- the holder of h may give k back, with the places that it brought home and those that it lost
pub record MayGive (v : View) (h k : Kept) (home lost : List ℕ) : Type 0 where
  pub held : v.held ≡ Some h
  pub shares : 0 < v.shares
  pub turns : k.1 ≡ h.1 + 1
  pub journal : k.0.journal ≡ h.0.journal
  pub net : (k.0.net ≡ h.0.net) × (k.0.budget ≡ h.0.budget)
  pub jobs : (p : ℕ) → times p home + times p k.0.out ≡ times p h.0.out
  pub parts : (p : ℕ) → times p v.home + times p home + (times p v.lost + times p lost) ≤ times p v.mine
  -- the core is broken where it was, or where a place is lost
  pub broken : k.0.is_broken ≡ (h.0.is_broken || nat_lt 0 (length lost))
