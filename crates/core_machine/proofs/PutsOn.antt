-- A strand whose coroutine passes its record on puts it, and takes the one at hand at once: two events in one, of which its coroutine isn't told.
use Rattle.std.proofs.Common.{◌≡◌, Bool, ℕ, ◌+◌, ◌<◌, true, false, List, [], ◌∷◌, ◌++◌, length, refl, sym, ◌∙◌, ap, subst, Some, slice_set}
use Rattle.pipe_model.specs.declared.net.Net.{Net}
use Rattle.pipe_model.specs.declared.net.Strand.{Strand}
use Rattle.pipe_model.specs.declared.step.Entry.{Entry}
use Rattle.pipe_model.specs.declared.step.Seen.TheVariants.{Took, Put}
use Rattle.pipe_model.specs.declared.step.Want.TheVariants.{Take, Read}
use Rattle.pipe_model.specs.Event.{Event}
use Rattle.pipe_model.specs.State.{Who}
use Rattle.record_pool.specs.PoolState.{PoolState}
use Rattle.stage_steps.specs.Coroutine.{Resumes}
use Rattle.stage_steps.specs.PassesOn.{PassesOn}
use Rattle.run_desk.specs.Desk.{DeskState}
use Rattle.run_desk.specs.Passing.{desk_taking, desk_passed, pool_passed}
use Rattle.run_desk.specs.Turns.{desk_after_turn, pool_after_turn}
use Rattle.core_machine.specs.declared.actor.Actor.{Actor}
use Rattle.core_machine.specs.Actors.{gone_on, asking_for, bytes_told}
use Rattle.core_machine.specs.Ahead.{HasSeenOrPut}
use Rattle.core_machine.specs.Answered.{LeastEvent}
use Rattle.core_machine.specs.Floor.{IsInUse, CanMake, StaysEarly}
use Rattle.core_machine.specs.Sound.{IsSound}
use Rattle.core_machine.specs.Woken.{LeastEventAwake}
use Rattle.core_machine.proofs.Advanced.{gone_on_kept, resumes_put, resumes_took}
use Rattle.core_machine.proofs.TakesOn as Two
use Rattle.core_machine.proofs.Tellings.{IsTelling, used_out, does}

-- no bytes go with a record that was put
pub no_bytes_put : (looks : Bool) (d : DeskState) (pool : PoolState) (s o : ℕ) → [] ≡ bytes_told looks d pool s (Put o)
no_bytes_put true d pool s o = refl
no_bytes_put false d pool s o = refl

-- The strand is told that its record was put, its coroutine passes that on, and it didn't put it into a queue
module _ {S : Type 0} {stands : S → Strand → List Event → Type 0} {net : Net} {budget : ℕ} {journal : List Entry} {out : List ℕ} {actors : List (Actor S)} {d : DeskState} {pool : PoolState}
    {s : Who} {o : ℕ} {a : Actor S} (t : IsTelling stands net budget journal out actors d pool s o (Put o) a)
    (passes : a.passes ≡ true) (space : length journal + 1 < budget) (plain : HasSeenOrPut net d s (Put o)) where
  abbrev longer : List Entry
  longer = journal ++ (record { strand = s; stream = o }) ∷ []

  passing : PassesOn stands t.stage
  passing = does t t.stage passes t.was

  first : Resumes stands t.stage t.stage (Put o) [] (Take 0)
  first = resumes_put stands t.stage [] passing.0 o

  second : Resumes stands t.stage t.stage (Took 0) [] (Read 0)
  second = resumes_took stands t.stage [] passing.1 0

  bytes_are : [] ≡ bytes_told a.looks (desk_after_turn d s (Put o)) (pool_after_turn d pool s (Put o)) s (Put o)
  bytes_are = no_bytes_put a.looks (desk_after_turn d s (Put o)) (pool_after_turn d pool s (Put o)) s o

  -- the desk after it stands for a state
  pub used : IsInUse net (desk_after_turn d s (Put o))
  used = used_out t t.stage (Take 0) a.passes

  -- no strand asks for another commit level once the strand came home
  pub early : StaysEarly (desk_after_turn d s (Put o)) (pool_after_turn d pool s (Put o)) s (Take 0)
  early = Two.first_early t space refl plain 0 t.stage a.passes [] bytes_are first (λ is. passing)

  -- the second event can be made
  pub takes : CanMake net (desk_taking d s (Put o) 0) (pool_after_turn d pool s (Put o)) s (Took 0)
  takes = Two.second_can t space refl plain 0 t.stage a.passes [] bytes_are first (λ is. passing)

  -- and is the least then
  pub takes_next : LeastEventAwake (desk_taking d s (Put o) 0) (Some (s, 0, Took 0))
  takes_next = Two.takes_next t space refl plain 0 t.stage a.passes [] bytes_are first (λ is. passing)

  -- in the words of the core
  pub takes_least : (b : Bool) → LeastEvent (record { net = net; budget = budget; journal = longer; out = out; is_broken = b }) (Some (s, 0, Took 0))
  takes_least = Two.takes_least t space refl plain 0 t.stage a.passes [] bytes_are first (λ is. passing)

  -- the desk after it stands for a state
  pub used_last : IsInUse net (desk_after_turn (desk_taking d s (Put o) 0) s (Took 0))
  used_last = Two.second_used t space refl plain 0 t.stage a.passes [] bytes_are first (λ is. passing)

  -- no strand asks for another commit level once the strand came home again
  pub early_last : StaysEarly (desk_after_turn (desk_taking d s (Put o) 0) s (Took 0)) (pool_passed d pool s (Put o) 0) s (Read 0)
  early_last = Two.second_early t space refl plain 0 t.stage a.passes [] bytes_are first (λ is. passing) t.stage a.passes second

  -- what is kept of the strand is as if its coroutine had been told both
  kept : asking_for (Read 0) a ≡ gone_on (Took 0) t.stage (Read 0) a.passes (gone_on (Put o) t.stage (Take 0) a.passes a)
  kept =
      ap (asking_for (Read 0)) (gone_on_kept a t.stage (Put o) (Take 0) t.was refl)
      ∙ gone_on_kept (gone_on (Put o) t.stage (Take 0) a.passes a) t.stage (Took 0) (Read 0) refl refl

  -- and the core is sound after both
  pub sound_after : (b : Actor S) → b ≡ asking_for (Read 0) a →
      IsSound stands net budget (longer ++ (record { strand = s; stream = 0 }) ∷ []) out (slice_set actors s b) (desk_passed d s (Put o) 0) (pool_passed d pool s (Put o) 0)
  sound_after b is =
      subst (λ (z : Actor S). IsSound stands net budget (longer ++ (record { strand = s; stream = 0 }) ∷ []) out (slice_set actors s z) (desk_passed d s (Put o) 0) (pool_passed d pool s (Put o) 0)) (sym (is ∙ kept))
      (Two.sound_after t space refl plain 0 t.stage a.passes [] bytes_are first (λ is. passing) t.stage a.passes second (λ is. passing))
