-- What the answers of a core tell.
use Rattle.std.specs.Prelude.{◌≡◌, ◌⊎◌, ℕ, ◌<◌, ◌≤◌, Bool, true, false, List, [], ◌∷◌, ◌++◌, length, Option, Some, None, is_some, ℤ, if◌then◌else◌}
use Rattle.pipe_model.specs.declared.net.Strand.{Strand}
use Rattle.pipe_model.specs.declared.step.Entry.{Entry}
use Rattle.pipe_model.specs.declared.step.Out.TheVariants.{Fresh}
use Rattle.pipe_model.specs.declared.step.Seen.{Seen}
use Rattle.pipe_model.specs.declared.step.Seen.TheVariants.{Took, Put}
use Rattle.pipe_model.specs.declared.step.Seen.TheVariants.{Saw as Sees}
use Rattle.pipe_model.specs.declared.step.Want.{Want as Asked}
use Rattle.pipe_model.specs.declared.step.Want.TheVariants as Ask
use Rattle.pipe_model.specs.Event.{Event, Want, has_ended, code_of}
use Rattle.pipe_model.specs.Event.Event.{Saw}
use Rattle.pipe_model.specs.Event.Want.{Write}
use Rattle.pipe_model.specs.State.{Who, past}
use Rattle.stage_steps.specs.Coroutine.{told, meaning, last_seen, bytes_with}
use Rattle.core_machine.specs.declared.job.Turned.{Turned}
use Rattle.core_machine.specs.declared.job.Turned.TheVariants.{Broken, NotReady, Spent, Room, Work}
use Rattle.core_machine.specs.declared.job.RunEnd.{RunEnd}
use Rattle.core_machine.specs.declared.job.RunEnd.TheVariants.{Complete}
use Rattle.core_machine.specs.declared.job.RunEnd.TheVariants as End
use Rattle.core_machine.specs.Machine.{Machine, licence_of, looks_at, state_of, HasStopped, turned}
use Rattle.core_machine.specs.Jobs.{JobStands}

-- the event is a look of this many bytes
abbrev pub IsLook : Option Event → ℕ → Type 0
IsLook e n = (i : ℕ) × (rec : List ℕ) × (e ≡ Some (Saw i rec)) × (length rec ≡ n)

-- what a turn answers, from the core and the room before it to those after it; the room holds so many bytes without growing
abbrev pub TurnedAs : {S : Type 0} → (S → Strand → List Event → Type 0) → Machine → Who → ℕ → ℕ → Turned S → Machine → List ℕ → Type 0
TurnedAs stands m s k room Broken n bytes = (m.is_broken ≡ true) × (n ≡ m)
TurnedAs stands m s k room NotReady n bytes = (m.is_broken ≡ false) × (licence_of m s k ≡ None) × (n ≡ m)
TurnedAs stands m s k room Spent n bytes =
    (m.is_broken ≡ false) × (is_some (licence_of m s k) ≡ true) × (length m.journal ≡ m.budget) × (n ≡ m)
TurnedAs stands m s k room (Room size) n bytes =
    (m.is_broken ≡ false) × (looks_at m.net s ≡ true) × IsLook (licence_of m s k) size × (length m.journal < m.budget) × (room < size) × (n ≡ m)
TurnedAs stands m s k room (Work job) n bytes =
    (m.is_broken ≡ false) × (length m.journal < m.budget) × (n ≡ turned m (record { strand = s; stream = k }))
    × (job.strand ≡ s) × (length bytes ≤ room) × JobStands stands n.net n.journal job
    × ((e : Event) × (licence_of m s k ≡ Some e) × (bytes ≡ bytes_with (looks_at m.net s) e))

-- the turn gives no job
abbrev pub IsRefusal : {S : Type 0} → Turned S → Type 0
IsRefusal (Work job) = ⊥
IsRefusal _ = Unit {0}

-- the least strand that may have an event, with its least stream, or there is none
abbrev pub LeastReady : Machine → Option (ℕ × ℕ) → Type 0
LeastReady m None = (s k : ℕ) → licence_of m s k ≡ None
LeastReady m (Some r) =
    (is_some (licence_of m r.0 r.1) ≡ true)
    × ((k : ℕ) → k < r.1 → licence_of m r.0 k ≡ None)
    × ((t k : ℕ) → t < r.0 → licence_of m t k ≡ None)

-- the same, with what the strand is told of the event
abbrev pub LeastEvent : Machine → Option (ℕ × ℕ × Seen) → Type 0
LeastEvent m None = LeastReady m None
LeastEvent m (Some r) = LeastReady m (Some (r.0, r.1)) × ((e : Event) × (licence_of m r.0 r.1 ≡ Some e) × (told e ≡ r.2))

-- what a turn of the least strand that may have an event answers, on its least stream
abbrev pub LeastTurnedAs : {S : Type 0} → (S → Strand → List Event → Type 0) → Machine → ℕ → Turned S → Machine → List ℕ → Type 0
LeastTurnedAs stands m room Broken n bytes = (m.is_broken ≡ true) × (n ≡ m)
LeastTurnedAs stands m room NotReady n bytes = (m.is_broken ≡ false) × LeastReady m None × (n ≡ m)
LeastTurnedAs stands m room Spent n bytes = (r : ℕ × ℕ) × LeastReady m (Some r) × TurnedAs stands m r.0 r.1 room Spent n bytes
LeastTurnedAs stands m room (Room size) n bytes = (r : ℕ × ℕ) × LeastReady m (Some r) × TurnedAs stands m r.0 r.1 room (Room size) n bytes
LeastTurnedAs stands m room (Work job) n bytes = (k : ℕ) × LeastReady m (Some (job.strand, k)) × TurnedAs stands m job.strand k room (Work job) n bytes

-- the least stream of a strand on which it may have an event, or there is none
abbrev pub LeastStream : Machine → Who → Option ℕ → Type 0
LeastStream m s None = (k : ℕ) → licence_of m s k ≡ None
LeastStream m s (Some j) = (is_some (licence_of m s j) ≡ true) × ((k : ℕ) → k < j → licence_of m s k ≡ None)

-- the one journal is the beginning of the other
abbrev pub IsLonger : List Entry → List Entry → Type 0
IsLonger old new = (more : List Entry) × (new ≡ old ++ more)

-- each entry that was added was that of the least strand that might have an event, on its least stream
abbrev pub AreLeast : Machine → List Entry → Type 0
AreLeast m [] = Unit {0}
AreLeast m (e ∷ es) = LeastReady m (Some (e.strand, e.stream)) × AreLeast (record m { journal = m.journal ++ e ∷ [] }) es

-- the core went on by the least steps, each time
pub record HasRun (m n : Machine) : Type 0 where
  pub more : List Entry
  pub least : AreLeast m more
  pub after : n ≡ record m { journal = m.journal ++ more }

-- it broke on the way, with the entries made so far: the job of the last one is out, beside those that were
pub record HasBroken (m n : Machine) : Type 0 where
  pub broken : n.is_broken ≡ true
  pub net : n.net ≡ m.net
  pub budget : n.budget ≡ m.budget
  pub longer : IsLonger m.journal n.journal
  pub more : length m.journal < length n.journal
  pub out : n.out ≡ m.out ++ length n.journal ∷ []

-- it broke on the way of the least steps
pub record HasBrokenLeast (m n : Machine) : Type 0 where
  pub broke : HasBroken m n
  pub least : AreLeast m broke.longer.0

-- a record was taken or put, or, with sights, seen
abbrev pub is_of_record : Bool → Seen → Bool
is_of_record sights (Took i) = true
is_of_record sights (Put o) = true
is_of_record sights (Sees i) = sights
is_of_record sights _ = false

-- each entry that was added was that of the least event that might be, by which a record was taken or put, or, with sights, seen
abbrev pub AreOnRecords : Bool → Machine → List Entry → Type 0
AreOnRecords sights m [] = Unit {0}
AreOnRecords sights m (e ∷ es) =
    ((seen : Seen) × LeastEvent m (Some (e.strand, e.stream, seen)) × (is_of_record sights seen ≡ true)) × AreOnRecords sights (record m { journal = m.journal ++ e ∷ [] }) es

-- the core went on so, by so many steps
pub record HasRunOnRecords (sights : Bool) (m : Machine) (made : ℕ) (n : Machine) : Type 0 where
  pub more : List Entry
  pub steps : AreOnRecords sights m more
  pub after : n ≡ record m { journal = m.journal ++ more }
  pub made_is : made ≡ length more

-- it broke on the way so, by at most so many steps
pub record HasBrokenOnRecords (sights : Bool) (most : ℕ) (m n : Machine) : Type 0 where
  pub broke : HasBroken m n
  pub steps : AreOnRecords sights m broke.longer.0
  pub few : length broke.longer.0 ≤ most

-- why it goes on no further: all steps that it might make are made, or the budget is used up, or no strand may have an event, or by the least no record is taken or put
abbrev pub IsEndOnRecords : ℕ → ℕ → Machine → Type 0
IsEndOnRecords most made m =
    (made ≡ most) ⊎ ((length m.journal ≡ m.budget) ⊎ (LeastEvent m None ⊎ ((r : ℕ × ℕ × Seen) × LeastEvent m (Some r) × (is_of_record false r.2 ≡ false))))

-- the event of the entry was made, and maybe a second of the strand, by which it took a record
abbrev pub HasMade : Machine → Entry → Machine → Type 0
HasMade m e n =
    (n ≡ record m { journal = m.journal ++ e ∷ [] })
    ⊎ ((i : ℕ) × LeastEvent (record m { journal = m.journal ++ e ∷ [] }) (Some (e.strand, i, Took i))
    × (n ≡ record m { journal = (m.journal ++ e ∷ []) ++ (record { strand = e.strand; stream = i }) ∷ [] }))

-- how a run ended
abbrev pub Ends : RunEnd → Machine → Type 0
Ends Complete m = HasStopped m
Ends End.Spent m = (length m.journal ≡ m.budget) × ((r : ℕ × ℕ) × LeastReady m (Some r))

-- the want is that of the strand, but that a new record is shown as an empty one
abbrev pub Shows : List Event → Asked → Want → Type 0
Shows h (Ask.Write o (Fresh rec)) want = (rec ≡ []) × ((bytes : List ℕ) × (want ≡ Write o bytes))
Shows h asked want = want ≡ meaning asked (last_seen h)

-- the code with which a strand ended
abbrev pub end_of : Machine → Who → Option ℤ
end_of m s = if has_ended (past (state_of m) s) then Some (code_of (past (state_of m) s)) else None
