-- What the calls of a board say of a pass: v is its view before the call, w its view after, and m the core that the call found in the slot.
use Rattle.std.specs.Prelude.{◌≡◌, ◌≢◌, ℕ, zero, suc, ◌+◌, ◌-◌, ◌<◌, ◌≤◌, Bool, true, false, List, [], ◌∷◌, ◌++◌, length, Some, None, is_some, ◌⊎◌}
use mathlib.Core.List.{IsPrefix}
use Rattle.pipe_model.specs.declared.net.Strand.{Strand}
use Rattle.pipe_model.specs.declared.step.Entry.{Entry}
use Rattle.pipe_model.specs.Event.{Event}
use Rattle.pipe_model.specs.State.{Who}
use Rattle.core_machine.specs.declared.job.Turned.TheVariants as Turn
use Rattle.core_machine.specs.Machine.{Machine, IsLawful, licence_of, looks_at, came_home, broke_down}
use Rattle.core_machine.specs.Jobs.{JobState, FinishedState}
use Rattle.core_machine.specs.Answered.{IsLook, TurnedAs, LeastReady, HasRunOnRecords, HasBrokenOnRecords, IsEndOnRecords}
use Rattle.board.specs.Counts.{times, places, places_after, all_shares}
use Rattle.board.specs.Rule.{machine_of}
use Rattle.board.specs.Plays.{after_busy, without_slot, IsNew}
use Rattle.board.specs.Pass.{HasParts}
use Rattle.board.specs.declared.view.View.{View}
use Rattle.board.specs.declared.answers.TryTurn.{TryTurn}
use Rattle.board.specs.declared.answers.TryTurn.TheVariants.{Work, NotReady, Spent, Room, Broken, Busy}
use Rattle.board.specs.declared.answers.TryAny.{TryAny}
use Rattle.board.specs.declared.answers.AtOnce.{AtOnce}
use Rattle.board.specs.declared.answers.TryAny.TheVariants as OfAny
use Rattle.board.specs.declared.answers.TryFinish.{TryFinish}
use Rattle.board.specs.declared.answers.TryFinish.TheVariants as End

-- how many steps are made at once at most, where so many other jobs are out
abbrev pub most_beside : AtOnce → ℕ → ℕ
most_beside at_once zero = at_once.alone
most_beside at_once (suc out) = at_once.beside

-- and after the job of this place came home
abbrev pub most_after : AtOnce → Machine → ℕ → ℕ
most_after at_once m place = most_beside at_once (length (came_home m place).out)

-- what each call that takes the slot, or tries to, leaves: the net, the budget and the shares stay, one try is used, and the pass knows no less than before
pub record GoesOn (v w : View) : Type 0 where
  pub net : (w.net ≡ v.net) × (w.budget ≡ v.budget)
  pub shares : w.shares ≡ v.shares
  pub tries : w.tries + 1 ≡ v.tries
  pub seen : IsPrefix v.seen w.seen

-- the slot was in another pass's hand: one try is used, and all else is as before. A pass that has all shares never finds it so
abbrev pub IsBusy : View → View → Type 0
IsBusy v w = (w ≡ after_busy v) × (v.shares ≢ all_shares)

-- the view with one try less, and no slot in hand
abbrev pub less_one_try : View → View
less_one_try v = without_slot (after_busy v)

-- the call held the slot, once: it found there a core whose journal the pass had seen a beginning of, and gave it back as the machine of its new view. Its try is counted in v
pub record Held (v : View) (m : Machine) (w : View) : Type 0 where
  pub holds : w.holds ≡ v.holds + 1
  pub tries : w.tries ≡ v.tries
  pub shares : w.shares ≡ v.shares
  pub net : (w.net ≡ v.net) × (w.budget ≡ v.budget)
  pub found : (m.net ≡ v.net) × (m.budget ≡ v.budget)
  pub began : IsPrefix v.seen m.journal
  pub seen : IsPrefix v.seen w.seen
  pub lawful : IsLawful (machine_of w)
  -- of each entry that the pass made the job is out, or it brought it home
  pub jobs : (p : ℕ) → 0 < times p w.mine → times p w.home + times p w.out ≡ 1
  pub parts : HasParts w

-- and gave the core back as it was
abbrev pub Unchanged : View → Machine → View → Type 0
Unchanged v m w = (machine_of w ≡ m) × (w.mine ≡ v.mine) × (w.home ≡ v.home) × (w.lost ≡ v.lost)

-- Why a turn makes no entry, said of the core as the pass knows it then

-- an earlier finish wanted memory: a pass that has all shares has lost a place then
abbrev pub IsBroken : View → Type 0
IsBroken w = (w.is_broken ≡ true) × (w.shares ≡ all_shares → w.lost ≢ [])

-- the strand is out, or has no licence on this stream
abbrev pub IsUnready : Machine → Who → ℕ → Type 0
IsUnready m s k = (m.is_broken ≡ false) × (licence_of m s k ≡ None)

-- it has one, and the journal has as many entries as the budget allows
abbrev pub IsSpent : Machine → Who → ℕ → Type 0
IsSpent m s k = (m.is_broken ≡ false) × (is_some (licence_of m s k) ≡ true) × (length m.journal ≡ m.budget)

-- it would see a record of n bytes that it looks at, and the room holds fewer without growing
abbrev pub WantsRoom : Machine → Who → ℕ → ℕ → ℕ → Type 0
WantsRoom m s k room n = (m.is_broken ≡ false) × (looks_at m.net s ≡ true) × IsLook (licence_of m s k) n × (length m.journal < m.budget) × (room < n)

module _ {S : Type 0} (stands : S → Strand → List Event → Type 0) where
  -- the core was turned as a core answers it, and the new entry is the pass's; the room held so many bytes without growing, and holds these now
  pub record Worked (v : View) (m : Machine) (strand stream room : ℕ) (job : JobState S) (place : ℕ) (w : View) (bytes : List ℕ) : Type 0 where
    pub held : Held v m w
    pub turned : TurnedAs stands m strand stream room (Turn.Work job) (machine_of w) bytes
    pub place_is : (place ≡ length w.seen) × (job.place ≡ place)
    pub longer : length v.seen < length w.seen
    pub last : (front : List Entry) × (w.seen ≡ front ++ (record { strand = strand; stream = stream }) ∷ [])
    pub mine : w.mine ≡ v.mine ++ place ∷ []
    pub new : IsNew v place
    pub others : (w.home ≡ v.home) × (w.lost ≡ v.lost)

  -- what a turn of a strand says that held the slot
  abbrev pub HeldTurn : View → Machine → Who → ℕ → ℕ → TryTurn S → View → List ℕ → Type 0
  HeldTurn v m s k room (Work job receipt) w bytes = Worked v m s k room job receipt.place w bytes
  HeldTurn v m s k room NotReady w bytes = Held v m w × Unchanged v m w × IsUnready (machine_of w) s k
  HeldTurn v m s k room Spent w bytes = Held v m w × Unchanged v m w × IsSpent (machine_of w) s k
  HeldTurn v m s k room (Room n) w bytes = Held v m w × Unchanged v m w × WantsRoom (machine_of w) s k room n
  HeldTurn v m s k room Broken w bytes = Held v m w × Unchanged v m w × IsBroken w
  HeldTurn v m s k room Busy w bytes = ⊥

  -- what a turn says that waits for the slot
  abbrev pub TurnTold : View → Who → ℕ → ℕ → TryTurn S → View → List ℕ → Type 0
  TurnTold v s k room answer w bytes = (m : Machine) × HeldTurn (less_one_try v) m s k room answer w bytes

  -- what a turn says that tries once to take the slot
  abbrev pub TryTurnTold : View → Who → ℕ → ℕ → TryTurn S → View → List ℕ → Type 0
  TryTurnTold v s k room (Work job receipt) w bytes = TurnTold v s k room (Work job receipt) w bytes
  TryTurnTold v s k room NotReady w bytes = TurnTold v s k room NotReady w bytes
  TryTurnTold v s k room Spent w bytes = TurnTold v s k room Spent w bytes
  TryTurnTold v s k room (Room n) w bytes = TurnTold v s k room (Room n) w bytes
  TryTurnTold v s k room Broken w bytes = TurnTold v s k room Broken w bytes
  TryTurnTold v s k room Busy w bytes = IsBusy v w

  -- what a turn of the least strand that may have an event says that held the slot
  abbrev pub HeldAny : View → Machine → ℕ → TryAny S → View → List ℕ → Type 0
  HeldAny v m room (OfAny.Work job receipt) w bytes = (k : ℕ) × LeastReady m (Some (job.strand, k)) × Worked v m job.strand k room job receipt.place w bytes
  HeldAny v m room (OfAny.Idle out) w bytes = Held v m w × Unchanged v m w × (w.is_broken ≡ false) × LeastReady (machine_of w) None × (out ≡ length w.out)
  HeldAny v m room OfAny.Spent w bytes = Held v m w × Unchanged v m w × ((r : ℕ × ℕ) × LeastReady (machine_of w) (Some r) × IsSpent (machine_of w) r.0 r.1)
  HeldAny v m room (OfAny.Room n) w bytes = Held v m w × Unchanged v m w × ((r : ℕ × ℕ) × LeastReady (machine_of w) (Some r) × WantsRoom (machine_of w) r.0 r.1 room n)
  HeldAny v m room OfAny.Broken w bytes = Held v m w × Unchanged v m w × IsBroken w
  HeldAny v m room OfAny.Busy w bytes = ⊥

  -- what such a turn says that waits for the slot
  abbrev pub AnyTold : View → ℕ → TryAny S → View → List ℕ → Type 0
  AnyTold v room answer w bytes = (m : Machine) × HeldAny (less_one_try v) m room answer w bytes

  -- what such a turn says that tries once to take the slot
  abbrev pub TryAnyTold : View → ℕ → TryAny S → View → List ℕ → Type 0
  TryAnyTold v room (OfAny.Work job receipt) w bytes = AnyTold v room (OfAny.Work job receipt) w bytes
  TryAnyTold v room (OfAny.Idle out) w bytes = AnyTold v room (OfAny.Idle out) w bytes
  TryAnyTold v room OfAny.Spent w bytes = AnyTold v room OfAny.Spent w bytes
  TryAnyTold v room (OfAny.Room n) w bytes = AnyTold v room (OfAny.Room n) w bytes
  TryAnyTold v room OfAny.Broken w bytes = AnyTold v room OfAny.Broken w bytes
  TryAnyTold v room OfAny.Busy w bytes = IsBusy v w

-- the answer has no job
abbrev pub HasNoJob : {S : Type 0} → TryTurn S → Type 0
HasNoJob (Work job receipt) = ⊥
HasNoJob _ = Unit {0}

-- the same of a turn of any strand
abbrev pub HasNone : {S : Type 0} → TryAny S → Type 0
HasNone (OfAny.Work job receipt) = ⊥
HasNone _ = Unit {0}

-- the place is of an entry that the pass made, whose job is neither home nor lost
abbrev pub CanFinish : View → ℕ → Type 0
CanFinish v p = (0 < times p v.mine) × (times p v.home ≡ 0) × (times p v.lost ≡ 0)

-- the job came home to the core, and its place is home; the journal and all else of the pass's places stay
pub record CameHome (v : View) (m : Machine) (place : ℕ) (w : View) : Type 0 where
  pub held : Held v m w
  pub sound : m.is_broken ≡ false
  pub core : machine_of w ≡ came_home m place
  pub home : w.home ≡ v.home ++ place ∷ []
  pub others : (w.mine ≡ v.mine) × (w.lost ≡ v.lost)

-- there was no memory, so the core is broken, and the place is lost; the journal and all else of the pass's places stay
pub record WasLost (v : View) (m : Machine) (place : ℕ) (w : View) : Type 0 where
  pub held : Held v m w
  pub core : machine_of w ≡ broke_down m
  pub lost : w.lost ≡ v.lost ++ place ∷ []
  pub others : (w.mine ≡ v.mine) × (w.home ≡ v.home)

-- the job came home to the core, which then made so many steps by which a record was taken or put, or, with sights, seen, at most as many as it might; its place and theirs are home
pub record WentOn (v : View) (m : Machine) (place : ℕ) (sights : Bool) (most : ℕ) (w : View) : Type 0 where
  pub held : Held v m w
  pub sound : m.is_broken ≡ false
  pub made : ℕ
  pub few : made ≤ most
  pub core : HasRunOnRecords sights (came_home m place) made (machine_of w)
  pub ends : IsEndOnRecords most made (machine_of w)
  pub mine : w.mine ≡ v.mine ++ places_after (length m.journal) (length w.seen)
  pub home : w.home ≡ v.home ++ place ∷ places_after (length m.journal) (length w.seen)
  pub lost : w.lost ≡ v.lost

-- the job came home to the core, which then made such steps, at most as many, and the last one wanted memory: the core is broken, and the place of that step is lost; the others are home
pub record FellShort (v : View) (m : Machine) (place : ℕ) (sights : Bool) (most : ℕ) (w : View) : Type 0 where
  pub held : Held v m w
  pub sound : m.is_broken ≡ false
  pub core : HasBrokenOnRecords sights most (came_home m place) (machine_of w)
  pub mine : w.mine ≡ v.mine ++ places_after (length m.journal) (length w.seen)
  pub home : w.home ≡ v.home ++ place ∷ places_after (length m.journal) (length w.seen - 1)
  pub lost : w.lost ≡ v.lost ++ length w.seen ∷ []

module _ {S : Type 0} where
  -- what a finish says that held the slot
  abbrev pub HeldFinish : View → Machine → ℕ → TryFinish S → View → Type 0
  HeldFinish v m place End.Home w = CameHome v m place w
  HeldFinish v m place End.NoMemory w = WasLost v m place w
  HeldFinish v m place (End.Busy back) w = ⊥

  -- what a finish says that waits for the slot
  abbrev pub FinishTold : View → ℕ → TryFinish S → View → Type 0
  FinishTold v place answer w = (m : Machine) × HeldFinish (less_one_try v) m place answer w

  -- what a finish says that held the slot and went on, by so many steps at most
  abbrev pub HeldFinishOn : View → Machine → ℕ → Bool → ℕ → TryFinish S → View → Type 0
  HeldFinishOn v m place sights most End.Home w = WentOn v m place sights most w
  HeldFinishOn v m place sights most End.NoMemory w = WasLost v m place w ⊎ FellShort v m place sights most w
  HeldFinishOn v m place sights most (End.Busy back) w = ⊥

  -- what such a finish says, which waits for the slot
  abbrev pub FinishOnTold : View → ℕ → Bool → AtOnce → TryFinish S → View → Type 0
  FinishOnTold v place sights at_once answer w = (m : Machine) × HeldFinishOn (less_one_try v) m place sights (most_after at_once m place) answer w

  -- what a finish says that tries once to take the slot: where it is busy, the job is handed back
  abbrev pub TryFinishTold : View → FinishedState S → TryFinish S → View → Type 0
  TryFinishTold v done End.Home w = FinishTold v done.place End.Home w
  TryFinishTold v done End.NoMemory w = FinishTold v done.place End.NoMemory w
  TryFinishTold v done (End.Busy back) w = IsBusy v w × (back ≡ done)

-- what is known of the core m with which a board was closed by the pass of this view
pub record Ends (v : View) (m : Machine) : Type 0 where
  pub net : (m.net ≡ v.net) × (m.budget ≡ v.budget)
  pub lawful : IsLawful m
  pub seen : IsPrefix v.seen m.journal
  -- the journal has each of the pass's places, once, and with all shares no other
  pub mine : (p : ℕ) → times p v.mine ≤ times p (places (length m.journal))
  pub all : v.shares ≡ all_shares → (p : ℕ) → times p v.mine ≡ times p (places (length m.journal))
  -- with all shares: where each place is home no strand is out, and where each is home or lost none is out or the core is broken
  pub home : v.shares ≡ all_shares → ((p : ℕ) → times p v.mine ≡ times p v.home) → m.out ≡ []
  pub settled : v.shares ≡ all_shares → ((p : ℕ) → times p v.mine ≡ times p v.home + times p v.lost) → (m.out ≡ []) ⊎ (m.is_broken ≡ true)
  pub sound : v.shares ≡ all_shares → v.lost ≡ [] → m.is_broken ≡ false
  pub broken : 0 < length v.lost → m.is_broken ≡ true
