-- What a call does with the core while it has the slot in hand, and how it gives it back. It serves the inside.
use Rattle.std.specs.Prelude.{◌≡◌, ◌⊎◌, ℕ, ◌+◌, ◌-◌, ◌<◌, ◌≤◌, Bool, true, false, List, [], ◌∷◌, ◌++◌, length, Some, None}
use Rattle.core_machine.specs.Machine.{Machine, IsLawful}
use Rattle.board.specs.Counts.{all_shares, all_tries, places_after}
use Rattle.board.specs.Rule.{Kept, machine_of, MayGive, HasMade}
use Rattle.board.specs.Plays.{Sat, Sees, AreNew, new_places, after_take, after_raise, after_give}
use Rattle.board.specs.Pass.{HasParts}
use Rattle.board.specs.Calls.{Held, IsBusy, less_one_try}
use Rattle.board.specs.declared.view.View.{View}
use Rattle.board.specs.declared.change.Change.{Change}
use Rattle.board.specs.declared.change.Change.TheVariants.{Nothing, Step, Home, Short, Lost}

-- Seats

-- the seat of a pass that may try to take the slot
pub record IsAtRest (m : Sat) : Type 0 where
  pub free : m.1 ≡ []
  pub held : m.0.held ≡ None
  pub shares : 0 < m.0.shares
  pub tries : 0 < m.0.tries
  pub parts : HasParts m.0

-- the seat has no slot in hand, and its view says so
abbrev pub HasLetGo : Sat → Type 0
HasLetGo m = (m.1 ≡ []) × (m.0.held ≡ None)

-- the seat has the slot, with a core and its number
abbrev pub HasKept : Sat → (Kept → Type 0) → Type 0
HasKept m P = (k : Kept) × (m.1 ≡ (0, Some k) ∷ []) × P k

-- what holds of each core and number that the seat may have there
abbrev pub IfKept : Sat → (Kept → Type 0) → Type 0
IfKept m P = (k : Kept) → m.1 ≡ (0, Some k) ∷ [] → P k

-- the seat, with k in the slot
abbrev pub with_kept : View → Kept → Sat
with_kept v k = (v, (0, Some k) ∷ [])

-- the core with its number, once it is given back
abbrev pub counted : Kept → Kept
counted k = (k.0, k.1 + 1)

-- Steps of the holder, with the places that come home and that are lost

-- the seat may raise the length word by so many entries
abbrev pub MayRaise : ℕ → List ℕ → List ℕ → Sat → Type 0
MayRaise made home lost m = HasKept m (λ k. (h : Kept) × HasMade m.0 h k home lost × (length k.0.journal ≡ length h.0.journal + made))

-- and did so
abbrev pub HasRaised : List ℕ → List ℕ → Sat → Sat → Type 0
HasRaised home lost m n = IfKept m (λ k. (n ≡ with_kept (after_raise home lost m.0 k) k) × AreNew m.0 (new_places m.0 k))

-- the seat may put the slot home
abbrev pub MayPutHome : List ℕ → List ℕ → Sat → Type 0
MayPutHome home lost m = HasKept m (λ k. (k.1 ≤ all_tries) × ((h : Kept) × MayGive m.0 h (counted k) home lost))

-- and did so
abbrev pub HasPutHome : List ℕ → List ℕ → Sat → Sat → Type 0
HasPutHome home lost m n = IfKept m (λ k. (r : ℕ) × (n ≡ (after_give home lost r m.0 (counted k), [])))

-- Changes

-- how many entries were made
abbrev pub made_by : Change → ℕ
made_by Nothing = 0
made_by Step = 1
made_by (Home place made len) = made
made_by (Short place made len) = made
made_by (Lost place) = 0

-- the places that came home
abbrev pub home_by : Change → List ℕ
home_by Nothing = []
home_by Step = []
home_by (Home place made len) = place ∷ places_after (len - made) len
home_by (Short place made len) = place ∷ places_after (len - made) (len - 1)
home_by (Lost place) = []

-- the places that were lost
abbrev pub lost_by : Change → List ℕ
lost_by Nothing = []
lost_by Step = []
lost_by (Home place made len) = []
lost_by (Short place made len) = len ∷ []
lost_by (Lost place) = place ∷ []

-- the holder of h changed the core so that it is k; the length word is still to be raised by the entries made
pub record HasChanged (v : View) (h k : Kept) (c : Change) : Type 0 where
  pub made : HasMade v h k (home_by c) (lost_by c)
  pub longer : length k.0.journal ≡ length h.0.journal + made_by c

-- the seat may give the slot back after the change
abbrev pub MayGiveBack : Change → Sat → Type 0
MayGiveBack c m = HasKept m (λ k. (k.1 ≤ all_tries) × ((h : Kept) × HasChanged m.0 h k c))

-- the view of the one who gave k back, r being what the turn word was
abbrev pub after_hold : Change → ℕ → View → Kept → View
after_hold c r v k = record v {
  seen = k.0.journal;
  mine = v.mine ++ new_places v k;
  home = v.home ++ home_by c;
  lost = v.lost ++ lost_by c;
  out = k.0.out;
  is_broken = k.0.is_broken;
  turn = k.1 + 1;
  holds = v.holds + 1;
  used = v.used + r;
  held = None;
}

-- and did so
abbrev pub GaveBack : Change → Sat → Sat → Type 0
GaveBack c m n = IfKept m (λ k. ((r : ℕ) × (n ≡ (after_hold c r m.0 k, []))) × AreNew m.0 (new_places m.0 k))

-- Holds

-- the call held the slot once: it found m there, and gave n back after the change. Its try is counted in v
pub record HasHeld (v : View) (m n : Machine) (c : Change) (w : View) : Type 0 where
  pub held : Held v m w
  pub core : machine_of w ≡ n
  pub mine : w.mine ≡ v.mine ++ places_after (length m.journal) (length n.journal)
  pub home : w.home ≡ v.home ++ home_by c
  pub lost : w.lost ≡ v.lost ++ lost_by c
  pub new : AreNew v (places_after (length m.journal) (length n.journal))
  pub sound : v.shares ≡ all_shares → v.lost ≡ [] → m.is_broken ≡ false

-- Of a task that answers with an A and fills an O: may is what it asks of the core that it is given, and did what it did
module _ {A O : Type 0} where
  -- the task may be done with each core that a pass of this view may find, and leaves one that may be given back
  abbrev pub MayDo : (Machine → Type 0) → (Machine → A → Machine → O → Change → Type 0) → View → Type 0
  MayDo may did v = (k : Kept) → Sees v k → 0 < v.shares → may k.0 × ((a : A) (n : Machine) (o : O) (c : Change) → did k.0 a n o c → IsLawful n → HasChanged (after_take v k) k (n, k.1) c)

  -- the call held the slot once, and did the task
  pub record HasDone (did : Machine → A → Machine → O → Change → Type 0) (v : View) (a : A) (w : View) (o : O) : Type 0 where
    pub found : Machine
    pub left : Machine
    pub change : Change
    pub held : HasHeld (less_one_try v) found left change w
    pub so : did found a left o change

  -- or it may fail, found the slot out, and answered so
  abbrev pub HasAnswered : Bool → (Machine → A → Machine → O → Change → Type 0) → A → O → View → A → View → O → Type 0
  HasAnswered may_fail did left before v a w o = HasDone did v a w o ⊎ ((may_fail ≡ true) × IsBusy v w × (a ≡ left) × (o ≡ before))
