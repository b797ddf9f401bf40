-- What a core keeps: its coroutines, its desk and its pool stand for its journal and the jobs that are out.
use Rattle.std.specs.Prelude.{◌≡◌, ℕ, ◌<◌, ◌≤◌, true, false, List, [], ◌∷◌, length, Option, Some, slice_get, take, is_some}
use Rattle.pipe_model.specs.declared.net.Net.{Net}
use Rattle.pipe_model.specs.declared.net.Strand.{Strand}
use Rattle.pipe_model.specs.declared.step.Entry.{Entry}
use Rattle.pipe_model.specs.Event.{Event, Want, has_seen_end}
use Rattle.pipe_model.specs.State.{Who, past, strand_at}
use Rattle.pipe_model.specs.Table.{form}
use Rattle.pipe_model.specs.Licence.{want_at}
use Rattle.pipe_model.specs.Play.{play, IsLegal}
use Rattle.pipe_model.specs.WellFormed.{IsWellFormed}
use Rattle.record_pool.specs.PoolState.{PoolState}
use Rattle.run_desk.specs.Desk.{DeskState}
use Rattle.run_desk.specs.Holding.{RunStands, waiting_of}
use Rattle.core_machine.specs.declared.actor.Actor.{Actor}
use Rattle.core_machine.specs.Machine.{is_at, left_by}
use Rattle.core_machine.specs.Actors.{DoesPass}
use Rattle.core_machine.specs.Answered.{Shows}

-- the place is of the journal, and its strand has done nothing since
pub record IsLast (net : Net) (journal : List Entry) (p : ℕ) : Type 0 where
  pub some : 0 < p
  pub there : p ≤ length journal
  pub whose : (s : Who) × (s < length net.strands) × (is_at journal s p ≡ true)
  pub since : (s : Who) → is_at journal s p ≡ true → past (play net journal) s ≡ past (play net (take p journal)) s

abbrev pub AreLast : Net → List Entry → List ℕ → Type 0
AreLast net journal [] = Unit {0}
AreLast net journal (p ∷ ps) = IsLast net journal p × AreLast net journal ps

-- no two places are one strand's
abbrev pub AreApart : List Entry → List ℕ → Type 0
AreApart journal [] = Unit {0}
AreApart journal (p ∷ ps) = ((s : Who) → is_at journal s p ≡ true → left_by journal ps s ≡ false) × AreApart journal ps

-- what is kept of a strand is that of its history, and of its want where it is home
pub record IsActor {S : Type 0} (stands : S → Strand → List Event → Type 0) (h : List Event) (want : Option Want) (p : Strand) (actor : Actor S) : Type 0 where
  pub saw_end : actor.saw_end ≡ has_seen_end 0 h
  pub asked : (w : Want) → want ≡ Some w → Shows h actor.asked w
  pub stands_for : (stage : S) → actor.stage ≡ Some stage → stands stage p h
  pub looks : actor.looks ≡ (form p).looks
  pub passes : DoesPass stands actor

-- every strand has an actor, whose coroutine is there unless the strand is out
pub record AreActors {S : Type 0} (stands : S → Strand → List Event → Type 0) (net : Net) (journal : List Entry) (out : List ℕ) (actors : List (Actor S)) : Type 0 where
  pub count : length actors ≡ length net.strands
  pub each : (s : Who) (p : Strand) (actor : Actor S) → strand_at net (play net journal) s ≡ Some p → slice_get actors s ≡ Some actor →
      IsActor stands (past (play net journal) s) (want_at net (play net journal) (left_by journal out) s) p actor
  pub home : (s : Who) (actor : Actor S) → slice_get actors s ≡ Some actor → left_by journal out s ≡ false → is_some actor.stage ≡ true

-- all that a core keeps
pub record IsSound {S : Type 0} (stands : S → Strand → List Event → Type 0) (net : Net) (budget : ℕ) (journal : List Entry) (out : List ℕ) (actors : List (Actor S)) (d : DeskState) (pool : PoolState) : Type 0 where
  pub formed : IsWellFormed net
  pub legal : IsLegal net journal
  pub within : length journal ≤ budget
  pub bounded : budget ≤ 50000000
  pub last : AreLast net journal out
  pub apart : AreApart journal out
  pub run : RunStands net (play net journal) (left_by journal out) d pool
  -- no more records wait in queues than there are entries
  pub waiting : waiting_of d.wires ≤ length journal
  pub strands : AreActors stands net journal out actors
