-- What a stage's coroutine promises: it asks for what its strand wants.
use Rattle.std.specs.Prelude.{◌≡◌, ℕ, ◌<◌, ◌==◌, if◌then◌else◌, Bool, true, List, [], ◌∷◌, length, IsSome}
use Rattle.std.specs.declared.option.Option.{Option}
use Rattle.std.specs.declared.option.Option.TheVariants.{Some, None}
use Rattle.pipe_model.specs.declared.net.Strand.{Strand}
use Rattle.pipe_model.specs.declared.step.Want.{Want as Asked}
use Rattle.pipe_model.specs.declared.step.Want.TheVariants as Ask
use Rattle.pipe_model.specs.declared.step.Seen.{Seen}
use Rattle.pipe_model.specs.declared.step.Seen.TheVariants as Told
use Rattle.pipe_model.specs.declared.step.Out.{Out}
use Rattle.pipe_model.specs.declared.step.Out.TheVariants.{Same, Fresh}
use Rattle.pipe_model.specs.Event.{Event, Want, answers, last_seen_on, taken_from}
use Rattle.pipe_model.specs.Event.Event.{Up, Saw, SawEnd, SawAllEnd, Took, Put, Refused, Primed, Opened, Joined, Severed, Ended}
use Rattle.pipe_model.specs.Event.Want.{Commit, Read, Any, Gate, Take, Write, Prime, Issue, Join, Sever, Done}
use Rattle.pipe_model.specs.Records.{text}
use Rattle.pipe_model.specs.Shape.{Keeping}
use Rattle.pipe_model.specs.Shape.Keeping.{Nothing, Console, File}
use Rattle.pipe_model.specs.Next.{next}
use Rattle.pipe_model.specs.Table.{form}

-- the records last seen on the inputs
abbrev pub last_seen : List Event → ℕ → List ℕ
last_seen h = λ i. last_seen_on i h

-- the record last seen on an input, where one was seen
abbrev pub record_seen_on : ℕ → List Event → Option (List ℕ)
record_seen_on i [] = None
record_seen_on i (Saw i' rec ∷ h) = if i' == i then Some rec else record_seen_on i h
record_seen_on i (_ ∷ h) = record_seen_on i h

-- the record that is to be written, by the records last seen
abbrev pub written : Out → (ℕ → List ℕ) → List ℕ
written (Same i) sight = sight i
written (Fresh rec) sight = rec

-- what the code asks for, by the records last seen
abbrev pub meaning : Asked → (ℕ → List ℕ) → Want
meaning (Ask.Commit level) sight = Commit level
meaning (Ask.Read i) sight = Read i
meaning Ask.Any sight = Any
meaning Ask.Gate sight = Gate
meaning (Ask.Take i) sight = Take i
meaning (Ask.Write o out) sight = Write o (written out sight)
meaning Ask.Primed sight = Prime
meaning (Ask.Issue command) sight = Issue command
meaning (Ask.Join k) sight = Join k
meaning (Ask.Cut s) sight = Sever s
meaning (Ask.Done code) sight = Done code

-- where a record that was seen is to be written, one was seen
abbrev pub IsSeenBefore : Asked → List Event → Type 0
IsSeenBefore (Ask.Write o (Same i)) h = IsSome (record_seen_on i h)
IsSeenBefore _ h = Unit {0}

-- what the code is told of an event
abbrev pub told : Event → Seen
told (Up level code) = Told.Up level code
told (Saw i rec) = Told.Saw i
told (SawEnd i) = Told.SawEnd i
told SawAllEnd = Told.SawAllEnd
told (Took i) = Told.Took i
told (Put o rec) = Told.Put o
told (Refused o) = Told.Refused o
told (Primed b) = Told.Primed b
told (Opened k) = Told.Opened k
told (Joined k code) = Told.Joined k code
told (Severed s) = Told.Cut s
told (Ended code) = Told.Ended code

-- the bytes that come with an event: those of the record that was seen, where the strand looks
abbrev pub bytes_with : Bool → Event → List ℕ
bytes_with true (Saw i rec) = rec
bytes_with _ _ = []

-- what is to be asked for after an event: what the strand wants, and after its end the end again
abbrev pub owed : Strand → List Event → Option Want
owed s (Ended code ∷ h) = Some (Done code)
owed s h = next s h

-- the text of the records that a strand took, where it keeps them
abbrev pub kept_by : Keeping → List Event → List ℕ
kept_by Nothing h = []
kept_by Console h = text (taken_from 0 h)
kept_by (File name) h = text (taken_from 0 h)

-- the value x stands for a strand's history, and this event answers what is wanted there
pub record IsTold {S : Type 0} (stands : S → Strand → List Event → Type 0) (x : S) (seen : Seen) (bytes : List ℕ) (s : Strand) (h : List Event) (e : Event) : Type 0 where
  pub stood : stands x s h
  pub answer : answers (next s h) e ≡ true
  pub seen_is : told e ≡ seen
  pub bytes_are : bytes_with (form s).looks e ≡ bytes
  pub room : length h < 50000000

-- there is such a strand, history and event
abbrev pub CanResume : {S : Type 0} → (S → Strand → List Event → Type 0) → S → Seen → List ℕ → Type 0
CanResume stands x seen bytes = (s : Strand) × (h : List Event) × (e : Event) × IsTold stands x seen bytes s h e

-- for each such strand, history and event, the new value stands for the history with that event, asks for what is wanted then, and writes no record as one seen that was never seen
abbrev pub Resumes : {S : Type 0} → (S → Strand → List Event → Type 0) → S → S → Seen → List ℕ → Asked → Type 0
Resumes stands x y seen bytes asked = (s : Strand) (h : List Event) (e : Event) → IsTold stands x seen bytes s h e →
    stands y s (e ∷ h) × (Some (meaning asked (last_seen (e ∷ h))) ≡ owed s (e ∷ h)) × IsSeenBefore asked (e ∷ h)
