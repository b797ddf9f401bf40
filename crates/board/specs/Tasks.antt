-- What each task does with the core m, which is n afterwards. It serves the inside.
use Rattle.std.specs.Prelude.{◌≡◌, ◌⊎◌, ℕ, ◌+◌, ◌≤◌, Bool, true, false, List, length, take}
use Rattle.pipe_model.specs.declared.net.Strand.{Strand}
use Rattle.pipe_model.specs.Event.{Event}
use Rattle.pipe_model.specs.State.{Who}
use Rattle.core_machine.specs.declared.job.Turned.TheVariants as Turn
use Rattle.core_machine.specs.Machine.{Machine, came_home, broke_down, is_among}
use Rattle.core_machine.specs.Jobs.{FinishedState, DoneStands}
use Rattle.core_machine.specs.Answered.{TurnedAs, LeastTurnedAs, HasRunOnRecords, HasBrokenOnRecords, IsEndOnRecords}
use Rattle.board.specs.declared.change.Change.{Change}
use Rattle.board.specs.declared.change.Change.TheVariants.{Nothing, Step, Home, Short, Lost}
use Rattle.board.specs.declared.answers.TryTurn.{TryTurn}
use Rattle.board.specs.declared.answers.TryTurn.TheVariants as One
use Rattle.board.specs.declared.answers.TryAny.{TryAny}
use Rattle.board.specs.declared.answers.TryAny.TheVariants as OfAny
use Rattle.board.specs.declared.answers.TryFinish.{TryFinish}
use Rattle.board.specs.declared.answers.TryFinish.TheVariants as End

-- a room never gets smaller, and where there is no job it stays
pub record KeepsRoom (no_job : Type 0) (bytes : List ℕ) (room : ℕ) (bytes' : List ℕ) (room' : ℕ) : Type 0 where
  pub same : no_job → (bytes' ≡ bytes) × (room' ≡ room)
  pub capacity : room ≤ room'

module _ {S : Type 0} (stands : S → Strand → List Event → Type 0) where
  -- a turn of a strand, as the core answers it
  abbrev pub TurnDid : Machine → Who → ℕ → ℕ → TryTurn S → Machine → List ℕ → Change → Type 0
  TurnDid m s k room (One.Work job receipt) n bytes c = TurnedAs stands m s k room (Turn.Work job) n bytes × (receipt.place ≡ job.place) × (c ≡ Step)
  TurnDid m s k room One.NotReady n bytes c = TurnedAs stands m s k room Turn.NotReady n bytes × (c ≡ Nothing)
  TurnDid m s k room One.Spent n bytes c = TurnedAs stands m s k room Turn.Spent n bytes × (c ≡ Nothing)
  TurnDid m s k room (One.Room size) n bytes c = TurnedAs stands m s k room (Turn.Room size) n bytes × (c ≡ Nothing)
  TurnDid m s k room One.Broken n bytes c = TurnedAs stands m s k room Turn.Broken n bytes × (c ≡ Nothing)
  TurnDid m s k room One.Busy n bytes c = ⊥

  -- a turn of the least strand that may have an event
  abbrev pub AnyDid : Machine → ℕ → TryAny S → Machine → List ℕ → Change → Type 0
  AnyDid m room (OfAny.Work job receipt) n bytes c = LeastTurnedAs stands m room (Turn.Work job) n bytes × (receipt.place ≡ job.place) × (c ≡ Step)
  AnyDid m room (OfAny.Idle out) n bytes c = LeastTurnedAs stands m room Turn.NotReady n bytes × (out ≡ length n.out) × (c ≡ Nothing)
  AnyDid m room OfAny.Spent n bytes c = LeastTurnedAs stands m room Turn.Spent n bytes × (c ≡ Nothing)
  AnyDid m room (OfAny.Room size) n bytes c = LeastTurnedAs stands m room (Turn.Room size) n bytes × (c ≡ Nothing)
  AnyDid m room OfAny.Broken n bytes c = LeastTurnedAs stands m room Turn.Broken n bytes × (c ≡ Nothing)
  AnyDid m room OfAny.Busy n bytes c = ⊥

  -- a job may be brought home to the core
  abbrev pub MayFinish : FinishedState S → Machine → Type 0
  MayFinish done m = (is_among done.place m.out ≡ true) × DoneStands stands m.net (take done.place m.journal) done

module _ {S : Type 0} where
  -- a job is brought home, where there is memory
  abbrev pub FinishDid : Machine → ℕ → TryFinish S → Machine → Change → Type 0
  FinishDid m place End.Home n c = (m.is_broken ≡ false) × (n ≡ came_home m place) × (c ≡ Home place 0 (length n.journal))
  FinishDid m place End.NoMemory n c = (n ≡ broke_down m) × (c ≡ Lost place)
  FinishDid m place (End.Busy back) n c = ⊥

  -- and the core goes on by steps on records, at most so many
  abbrev pub GoOnDid : Bool → ℕ → Machine → ℕ → TryFinish S → Machine → Change → Type 0
  GoOnDid sights most m place End.Home n c =
      (made : ℕ) × (m.is_broken ≡ false) × HasRunOnRecords sights (came_home m place) made n × (made ≤ most) × IsEndOnRecords most made n × (c ≡ Home place made (length n.journal))
  GoOnDid sights most m place End.NoMemory n c =
      ((n ≡ broke_down m) × (c ≡ Lost place))
      ⊎ ((made : ℕ) × (m.is_broken ≡ false) × HasBrokenOnRecords sights most (came_home m place) n × (length n.journal ≡ length m.journal + made) × (c ≡ Short place made (length n.journal)))
  GoOnDid sights most m place (End.Busy back) n c = ⊥
