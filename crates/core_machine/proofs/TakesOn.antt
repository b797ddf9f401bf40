-- A strand that saw a record, or put one, and came home to take the one at hand, takes that at once and looks at the next: two events in one.
use Rattle.std.proofs.Common.{◌≡◌, Bool, ℕ, ◌+◌, ◌<◌, inr, true, false, ◌&&◌, not, arith, List, [], ◌∷◌, ◌++◌, length, refl, ◌∙◌, ap, subst, Some, is_some, slice_get, slice_set}
use Rattle.pipe_model.specs.declared.net.Net.{Net}
use Rattle.pipe_model.specs.declared.net.Strand.{Strand}
use Rattle.pipe_model.specs.declared.step.Entry.{Entry}
use Rattle.pipe_model.specs.declared.step.Seen.{Seen}
use Rattle.pipe_model.specs.declared.step.Seen.TheVariants.{Took}
use Rattle.pipe_model.specs.declared.step.Want.TheVariants.{Take, Read}
use Rattle.pipe_model.specs.Event.{Event}
use Rattle.pipe_model.specs.State.{Who}
use Rattle.pipe_model.proofs.Truths.{neither}
use Rattle.pipe_model.proofs.Lists.{get_set_same, length_more}
use Rattle.record_pool.specs.PoolState.{PoolState}
use Rattle.stage_steps.specs.Coroutine.{CanResume, Resumes}
use Rattle.stage_steps.specs.PassesOn.{PassesOn}
use Rattle.run_desk.specs.Desk.{DeskState}
use Rattle.run_desk.specs.Passing.{desk_taking, desk_passed, pool_passed}
use Rattle.run_desk.specs.Telling as Telling
use Rattle.run_desk.specs.Turns.{desk_after_turn, pool_after_turn, ends, sees}
use Rattle.core_machine.specs.declared.actor.Actor.{Actor}
use Rattle.core_machine.specs.Actors.{gone_on, bytes_told}
use Rattle.core_machine.specs.Ahead.{HasGoneQuietly, HasSeenOrPut}
use Rattle.core_machine.specs.Answered.{LeastEvent}
use Rattle.core_machine.specs.Floor.{IsInUse, CanMake, StaysEarly}
use Rattle.core_machine.specs.Machine.{looks_at}
use Rattle.core_machine.specs.Sound.{IsSound}
use Rattle.core_machine.specs.Woken.{HasReturned, LeastEventAwake, may_settle}
use Rattle.core_machine.proofs.Aheads.{take_next}
use Rattle.core_machine.proofs.GoesOn.{set_set, gone_quietly}
use Rattle.core_machine.proofs.Sounds.{event_is, its_looks}
use Rattle.core_machine.proofs.Tellings.{IsTelling, makes, resumes_it, used_out, going, early, came_home}

-- no bytes go with a record that was taken
pub no_bytes : (looks : Bool) (d : DeskState) (pool : PoolState) (s i : ℕ) → [] ≡ bytes_told looks d pool s (Took i)
no_bytes true d pool s i = refl
no_bytes false d pool s i = refl

-- The strand is told of the first event, and asks to take the record of input i
module _ {S : Type 0} {stands : S → Strand → List Event → Type 0} {net : Net} {budget : ℕ} {journal : List Entry} {out : List ℕ} {actors : List (Actor S)} {d : DeskState} {pool : PoolState}
    {s : Who} {k : ℕ} {seen : Seen} {a : Actor S} (t : IsTelling stands net budget journal out actors d pool s k seen a)
    (space : length journal + 1 < budget) (quiet : may_settle d s seen ≡ false) (saw_or_put : HasSeenOrPut net d s seen)
    (i : ℕ) (next : S) (passes : Bool) (bytes : List ℕ) (bytes_are : bytes ≡ bytes_told a.looks (desk_after_turn d s seen) (pool_after_turn d pool s seen) s seen)
    (resumed : Resumes stands t.stage next seen bytes (Take i)) (passing : passes ≡ true → PassesOn stands next) where
  abbrev entry : Entry
  entry = record { strand = s; stream = k }

  abbrev longer : List Entry
  longer = journal ++ entry ∷ []

  abbrev d' : DeskState
  d' = desk_after_turn d s seen

  abbrev pool' : PoolState
  pool' = pool_after_turn d pool s seen

  abbrev d1 : DeskState
  d1 = desk_taking d s seen i

  abbrev actor1 : Actor S
  actor1 = gone_on seen next (Take i) passes a

  abbrev actors1 : List (Actor S)
  actors1 = slice_set actors s actor1

  space_second : length longer < budget
  space_second = let more = length_more journal entry in omega (arith, space, more)

  plain : ends seen ≡ false
  plain = (neither (ends seen) (sees seen && not (is_some (Telling.primed_of (slice_get d.seats s)))) quiet).0

  bytes_right : bytes ≡ bytes_told (looks_at net s) d' pool' s seen
  bytes_right = bytes_are ∙ ap (λ b. bytes_told b d' pool' s seen) (its_looks stands net budget journal out actors d pool t.sound s a t.there)

  returned : HasReturned d' pool' s (Take i) d1 pool'
  returned = inr (going t next (Take i) passes bytes bytes_are resumed plain, (refl, refl))

  -- no strand asks for another commit level once the strand came home
  pub first_early : StaysEarly d' pool' s (Take i)
  first_early = early t next (Take i) passes bytes bytes_are resumed plain

  -- the core is sound between the two
  pub sound_between : IsSound stands net budget longer out actors1 d1 pool'
  sound_between = came_home t next (Take i) passes bytes bytes_are resumed plain passing d1 pool' returned

  gone : HasGoneQuietly net d pool s k seen (Take i) d1 pool'
  gone =
      gone_quietly stands net budget journal out actors d pool t.sound s k t.event t.may a t.stage t.there t.was seen t.seen_is t.space d' pool' refl refl
      next (Take i) passes bytes bytes_right resumed t.least quiet d1 pool' returned

  -- the least event is then that it takes the record
  pub takes_next : LeastEventAwake d1 (Some (s, i, Took i))
  takes_next = take_next net d pool s k seen (Take i) d1 pool' gone saw_or_put i refl

  -- in the words of the core
  pub takes_least : (b : Bool) → LeastEvent (record { net = net; budget = budget; journal = longer; out = out; is_broken = b }) (Some (s, i, Took i))
  takes_least b = event_is stands net budget longer out actors1 d1 pool' sound_between b (Some (s, i, Took i)) takes_next

  -- which is told to the strand as that is home again
  pub second : IsTelling stands net budget longer out actors1 d1 pool' s i (Took i) actor1
  second =
      let taking = (takes_least false).1 in
      record {
        sound = sound_between;
        event = taking.0;
        may = taking.1;
        seen_is = taking.2;
        stage = next;
        there = get_set_same actors s actor1 a t.there;
        was = refl;
        space = space_second;
        least = takes_next;
      }

  -- so it can be made
  pub second_can : CanMake net d1 pool' s (Took i)
  second_can = makes second

  abbrev d2 : DeskState
  d2 = desk_after_turn d1 s (Took i)

  abbrev pool2 : PoolState
  pool2 = pool_passed d pool s seen i

  no_more : [] ≡ bytes_told a.looks d2 pool2 s (Took i)
  no_more = no_bytes a.looks d2 pool2 s i

  -- its coroutine may be told that it took the record
  pub can_take : CanResume stands next (Took i) []
  unfolding second
  can_take = resumes_it second [] no_more

  -- the desk after it stands for a state
  pub second_used : IsInUse net d2
  second_used = used_out second next (Read i) passes

  -- It took the record, and asks to look at the next one
  module _ (last : S) (passes_still : Bool) (took : Resumes stands next last (Took i) [] (Read i)) where
    -- no strand asks for another commit level once it came home again
    pub second_early : StaysEarly d2 pool2 s (Read i)
    unfolding second
    second_early = early second last (Read i) passes_still [] no_more took refl

    abbrev actor2 : Actor S
    actor2 = gone_on (Took i) last (Read i) passes_still actor1

    -- and the core is sound after both
    pub sound_after : (passes_still ≡ true → PassesOn stands last) →
        IsSound stands net budget (longer ++ (record { strand = s; stream = i }) ∷ []) out (slice_set actors s actor2) (desk_passed d s seen i) pool2
    unfolding second
    sound_after passing_still =
        subst (λ (l : List (Actor S)). IsSound stands net budget (longer ++ (record { strand = s; stream = i }) ∷ []) out l (desk_passed d s seen i) pool2) (set_set actors s actor1 actor2)
        (came_home second last (Read i) passes_still [] no_more took refl passing_still (desk_passed d s seen i) pool2 (inr (going second last (Read i) passes_still [] no_more took refl, (refl, refl))))
