-- What a job that is out is, what it stands for, and what it stands for when its coroutine went on.
use Rattle.std.specs.Prelude.{◌≡◌, ℕ, ◌<◌, true, false, List, [], ◌∷◌, ◌++◌, length, Some, Result, IfOk}
use Rattle.pipe_model.specs.declared.memory.NoMemory.{NoMemory}
use Rattle.pipe_model.specs.declared.net.Net.{Net}
use Rattle.pipe_model.specs.declared.net.Strand.{Strand}
use Rattle.pipe_model.specs.declared.step.Entry.{Entry}
use Rattle.pipe_model.specs.declared.step.Seen.{Seen}
use Rattle.pipe_model.specs.declared.step.Want.{Want}
use Rattle.pipe_model.specs.Event.{Event, has_ended}
use Rattle.pipe_model.specs.Next.{next}
use Rattle.pipe_model.specs.State.{Who, past, strand_at, nothing_yet}
use Rattle.pipe_model.specs.Licence.{licence, none_left}
use Rattle.pipe_model.specs.Play.{play}
use Rattle.stage_steps.specs.Coroutine.{told, meaning, last_seen, IsSeenBefore}
use Rattle.core_machine.specs.Machine.{is_at}

-- a coroutine that is out, with what it is to be told
pub record JobState (S : Type 0) : Type 0 where
  pub strand : Who
  -- the place of its entry in the journal, counted from 1
  pub place : ℕ
  pub seen : Seen
  pub stage : S

-- a coroutine that was told it, with what it asks for then
pub record FinishedState (S : Type 0) : Type 0 where
  pub strand : Who
  -- the place of its entry in the journal, counted from 1
  pub place : ℕ
  pub seen : Seen
  pub stage : S
  pub want : Result Want NoMemory

module _ {S : Type 0} (stands : S → Strand → List Event → Type 0) (net : Net) (journal : List Entry) where
  -- a job stands for the last entry: its coroutine for the strand's history before it, and what it is told is that entry's event
  pub record JobStands (job : JobState S) : Type 0 where
    pub place_is : job.place ≡ length journal
    pub before : List Entry
    pub entry : Entry
    pub entry_is : entry.strand ≡ job.strand
    pub journal_is : journal ≡ before ++ entry ∷ []
    pub event : Event
    pub licensed : licence net (play net before) none_left job.strand entry.stream ≡ Some event
    pub seen_is : told event ≡ job.seen
    pub stood : (p : Strand) → strand_at net nothing_yet job.strand ≡ Some p → stands job.stage p (past (play net before) job.strand)
    pub room : length (past (play net before) job.strand) < 50000000

  -- a coroutine went on: it stands for the strand's history with the entry, asks for what the strand wants now, and writes no record as one seen that the strand never saw
  pub record HasGoneOn (strand : Who) (place : ℕ) (stage : S) (want : Want) : Type 0 where
    pub place_is : place ≡ length journal
    pub mine : is_at journal strand place ≡ true
    pub stood : (p : Strand) → strand_at net nothing_yet strand ≡ Some p → stands stage p (past (play net journal) strand)
    pub asks : (p : Strand) → strand_at net nothing_yet strand ≡ Some p → has_ended (past (play net journal) strand) ≡ false →
        Some (meaning want (last_seen (past (play net journal) strand))) ≡ next p (past (play net journal) strand)
    pub seen : (p : Strand) → strand_at net nothing_yet strand ≡ Some p → IsSeenBefore want (past (play net journal) strand)

  -- a job that was run stands so, unless there was no memory
  abbrev pub DoneStands : FinishedState S → Type 0
  DoneStands done = IfOk done.want (HasGoneOn done.strand done.place done.stage)
