-- The passes of many workers on many boards: each has one of each board. It serves the inside.
use Rattle.std.specs.Prelude.{◌≡◌, ℕ, ◌+◌, ◌-◌, ◌<◌, ◌≤◌, All, Bool, List, [], ◌∷◌, ◌++◌, length, slice_index_or, sum_by, vec_capacity}
use Rattle.core_machine.specs.Machine.{Machine}
use Rattle.board.specs.Names.{view, board_id}
use Rattle.board.specs.Plays.{founder}
use Rattle.board.specs.declared.board.Board.{Board}
use Rattle.board.specs.declared.pass.Pass.{Pass}
use Rattle.board.specs.declared.view.View.{View}
use Rattle.workers.specs.Hands.{IsWorker, LeftTo, MayWork, worker_tries}
use Rattle.workers.specs.Work.{TurnsSo}
use Rattle.workers.specs.declared.turns.AfterTurn.TheVariants.{Done}
use Rattle.many_sets.specs.declared.hands.Hand.{Hand}

-- the worker's pass of the board at this place
abbrev pub pass_at : ℕ → Pass → Hand → Pass
pass_at j d h = slice_index_or h.passes.items j d

-- its last one
abbrev pub last_pass : Pass → Hand → Pass
last_pass d h = pass_at (length h.passes.items - 1) d h

-- the shares that all have of the board at this place
abbrev pub shares_at : ℕ → Pass → List Hand → ℕ
shares_at j d hands = sum_by (λ (h : Hand). (view (pass_at j d h)).shares) hands

-- the shares of all last passes
abbrev pub last_shares : Pass → List Hand → ℕ
last_shares d hands = sum_by (λ (h : Hand). (view (last_pass d h)).shares) hands

-- each pass is what the one at its place was before it worked
pub record AreLeftTo (old new : List Pass) : Type 0 where
  pub len : length new ≡ length old
  pub each : (j : ℕ) (d : Pass) → j < length old → LeftTo (slice_index_or old j d) (slice_index_or new j d)

-- the pass at this place made a turn that is done, with a room of so many bytes before it and after it
abbrev pub HasTurnedOn : Bool → ℕ → List Pass → ℕ → List Pass → ℕ → Type 0
HasTurnedOn sights j old before new after = (j < length old) × ((d : Pass) → TurnsSo sights Done (view (slice_index_or old j d)) before (view (slice_index_or new j d)) after)

module _ {S : Type 0} where
  -- each pass may work on the board at its place
  pub record MayWorkOn (boards : List (Board S)) (passes : List Pass) : Type 0 where
    pub long : length passes ≡ length boards
    pub each : (j : ℕ) (b : Board S) (d : Pass) → j < length boards → MayWork (board_id (slice_index_or boards j b)) (slice_index_or passes j d)

  -- the worker was given a pass of the board b, which knows what that of the view v knew
  pub record WasGiven (b : Board S) (v : View) (h k : Hand) : Type 0 where
    pub given : Pass
    pub passes : k.passes.items ≡ h.passes.items ++ given ∷ []
    pub works : IsWorker (board_id b) v given
    pub tries : worker_tries ≤ (view given).tries
    pub capacity : vec_capacity k.passes ≡ vec_capacity h.passes

  -- each worker was, and together they have all shares of that view
  pub record WereGiven (b : Board S) (v : View) (old new : List Hand) : Type 0 where
    pub len : length new ≡ length old
    pub each : (i : ℕ) (d : Hand) → i < length old → WasGiven b v (slice_index_or old i d) (slice_index_or new i d)
    pub shares : (d : Pass) → last_shares d new ≡ v.shares

  -- the workers' passes at this place are of the board b with which the core m was founded, and have all its shares
  pub record AreDealt (b : Board S) (m : Machine) (j : ℕ) (d : Pass) (hands : List Hand) : Type 0 where
    pub works : All (λ (h : Hand). IsWorker (board_id b) (founder m) (pass_at j d h)) hands
    pub shares : shares_at j d hands ≡ (founder m).shares

  -- the boards are those of the last cores, from the last on, and each worker has a pass of each board
  pub record IsFounded (cores : List Machine) (boards : List (Board S)) (hands : List Hand) : Type 0 where
    pub few : length boards ≤ length cores
    pub long : All (λ (h : Hand). length h.passes.items ≡ length boards) hands
    pub dealt : (j : ℕ) (b : Board S) (m : Machine) (d : Pass) → j < length boards
        → AreDealt (slice_index_or boards j b) (slice_index_or cores (length cores - (j + 1)) m) j d hands
