-- What a core is started with, and how far its strands have come while it starts.
use Rattle.std.specs.Prelude.{◌≡◌, ℕ, false, List, [], ◌∷◌, length, slice_get, Some}
use Rattle.pipe_model.specs.declared.net.Net.{Net}
use Rattle.pipe_model.specs.declared.net.Strand.{Strand}
use Rattle.pipe_model.specs.Event.{Event}
use Rattle.pipe_model.specs.State.{Who, nothing_yet, strand_at}
use Rattle.pipe_model.specs.Table.{form}
use Rattle.pipe_model.specs.Licence.{want_at}
use Rattle.record_pool.specs.PoolState.{PoolState}
use Rattle.run_desk.specs.Desk.{DeskState}
use Rattle.run_desk.specs.Holding.{RunStands, out_from}
use Rattle.core_machine.specs.declared.actor.Actor.{Actor}
use Rattle.core_machine.specs.Sound.{IsActor}

-- each strand has its coroutine, which stands for the empty history
pub record AreFresh {S : Type 0} (stands : S → Strand → List Event → Type 0) (strands : List Strand) (stages : List S) : Type 0 where
  pub count : length stages ≡ length strands
  pub each : (s : ℕ) (p : Strand) (stage : S) → slice_get strands s ≡ Some p → slice_get stages s ≡ Some stage → stands stage p []

-- what is kept of a fresh coroutine before it has asked for anything
pub record IsNew {S : Type 0} (stands : S → Strand → List Event → Type 0) (stage : S) (actor : Actor S) : Type 0 where
  pub stage_is : actor.stage ≡ Some stage
  pub looks : (p : Strand) → stands stage p [] → actor.looks ≡ (form p).looks
  pub saw_end : actor.saw_end ≡ false
  pub passes : actor.passes ≡ false

-- the same of each of these coroutines
abbrev pub AreNew : {S : Type 0} → (S → Strand → List Event → Type 0) → List S → List (Actor S) → Type 0
AreNew stands [] [] = Unit {0}
AreNew stands (stage ∷ stages) (actor ∷ actors) = IsNew stands stage actor × AreNew stands stages actors
AreNew stands _ _ = ⊥

-- the strands below a number have asked for what they want first, and the others are out
pub record IsCalled {S : Type 0} (stands : S → Strand → List Event → Type 0) (net : Net) (s : Who) (actors : List (Actor S)) (d : DeskState) (pool : PoolState) : Type 0 where
  pub run : RunStands net nothing_yet (out_from s (length net.strands)) d pool
  pub count : length actors ≡ length net.strands
  pub each : (t : Who) (p : Strand) (actor : Actor S) → strand_at net nothing_yet t ≡ Some p → slice_get actors t ≡ Some actor →
      IsActor stands [] (want_at net nothing_yet (out_from s (length net.strands)) t) p actor
  pub home : (t : Who) (actor : Actor S) → slice_get actors t ≡ Some actor → (stage : S) × (actor.stage ≡ Some stage)
