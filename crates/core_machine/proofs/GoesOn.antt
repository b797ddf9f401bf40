-- A strand that is told an event goes on in place: its turn and its coming home in one.
use Rattle.std.proofs.Common.{◌≡◌, Bool, ℕ, zero, suc, ◌<◌, true, false, cond, ◌&&◌, ◌||◌, ◌==◌, not, arith, List, [], ◌∷◌, ◌++◌, length, refl, sym, ◌∙◌, ap, subst, Some, None, is_some, slice_get, slice_set}
use Rattle.std.proofs.lemmas.Bool.{ne_eqb}
use Rattle.std.specs.Prelude.{take}
use Rattle.pipe_model.specs.declared.net.Net.{Net}
use Rattle.pipe_model.specs.declared.net.Strand.{Strand}
use Rattle.pipe_model.specs.declared.step.Entry.{Entry}
use Rattle.pipe_model.specs.declared.step.Seen.{Seen}
use Rattle.pipe_model.specs.declared.step.Seen.TheVariants.{Saw as Sees}
use Rattle.pipe_model.specs.declared.step.Want.{Want as Asked}
use Rattle.pipe_model.specs.Event.{Event, has_ended}
use Rattle.pipe_model.specs.Event.Event.{Up, Saw, SawEnd, SawAllEnd, Took, Put, Refused, Primed, Opened, Joined, Severed, Ended}
use Rattle.pipe_model.specs.State.{Who, past}
use Rattle.pipe_model.specs.Licence.{licence}
use Rattle.pipe_model.specs.Play.{play}
use Rattle.pipe_model.proofs.Truths.{neither, or_second}
use Rattle.pipe_model.proofs.Numbers.{test_same}
use Rattle.pipe_model.proofs.Lists.{get_set_same}
use Rattle.record_pool.specs.PoolState.{PoolState}
use Rattle.stage_steps.specs.Coroutine.{told, bytes_with, CanResume, Resumes}
use Rattle.stage_steps.specs.PassesOn.{PassesOn}
use Rattle.stage_steps.specs.Replies.{CanSee}
use Rattle.run_desk.specs.Desk.{DeskState}
use Rattle.run_desk.specs.Telling.{sight_through}
use Rattle.run_desk.specs.Turns.{desk_after_turn, pool_after_turn, CanCome, bare, ends, sees}
use Rattle.run_desk.specs.Telling as Telling
use Rattle.connectors.specs.WireState.{IsHeldIn}
use Rattle.core_machine.specs.declared.actor.Actor.{Actor}
use Rattle.core_machine.specs.Actors.{is_end, gone_out, gone_on, given_up, bytes_told}
use Rattle.core_machine.specs.Ahead.{HasGoneQuietly}
use Rattle.core_machine.specs.Floor.{IsInUse, CanMake, StaysEarly}
use Rattle.core_machine.specs.Jobs.{JobState, JobStands, HasGoneOn}
use Rattle.core_machine.specs.Machine.{left_by, without, is_among, looks_at}
use Rattle.core_machine.specs.Sound.{AreLast, IsSound}
use Rattle.core_machine.specs.Woken.{HasReturned, LeastEventAwake, may_settle}
use Rattle.core_machine.proofs.Jobs.{can_run, can_see, done_take}
use Rattle.core_machine.proofs.Sounds.{can_make, sight_held, told_are, can_home, ended_is, came_early, in_use, sound_home, turned_past, goes_on, sound_turned, job_turned, job_event}

-- what is set twice is set once
pub set_set : {A : Type 0} (xs : List A) (i : ℕ) (x y : A) → slice_set (slice_set xs i x) i y ≡ slice_set xs i y
set_set [] i x y = refl
set_set (z ∷ zs) zero x y = refl
set_set (z ∷ zs) (suc i) x y = ap (λ l. z ∷ l) (set_set zs i x y)

-- a place is all that is out, and is taken out again
pub none_without : (p : ℕ) → without p (p ∷ []) ≡ []
none_without p = ap (λ b. cond (not b) (p ∷ []) []) (test_same p)

-- the place of a new entry is taken out again, and those that were out before are left
pub without_end : (net : Net) (journal : List Entry) (out : List ℕ) → AreLast net journal out → without (suc (length journal)) (out ++ suc (length journal) ∷ []) ≡ out
without_end net journal [] last = none_without (suc (length journal))
without_end net journal (q ∷ out) last =
    let here : ℕ = suc (length journal) in
    let rest : List ℕ = without here (out ++ here ∷ []) in
    let there = last.0.there in
    ap (λ b. cond (not b) (q ∷ rest) rest) (ne_eqb q here (λ e. omega (arith, e, there))) ∙ ap (λ l. q ∷ l) (without_end net journal out last.1)

-- the last place of those that are out is one of them
pub among_end : (p : ℕ) (out : List ℕ) → is_among p (out ++ p ∷ []) ≡ true
among_end p [] = ap (λ b. b || false) (test_same p)
among_end p (q ∷ out) = or_second (q == p) (is_among p (out ++ p ∷ [])) (among_end p out)

-- an event ends a strand just where what is told of it is the end
end_told : (e : Event) (h : List Event) → has_ended h ≡ false → has_ended (e ∷ h) ≡ ends (told e)
end_told (Ended c) h going = refl
end_told (Up l c) h going = going
end_told (Saw i r) h going = going
end_told (SawEnd i) h going = going
end_told SawAllEnd h going = going
end_told (Took i) h going = going
end_told (Put o r) h going = going
end_told (Refused o) h going = going
end_told (Primed p) h going = going
end_told (Opened k) h going = going
end_told (Joined k c) h going = going
end_told (Severed s) h going = going

module _ {S : Type 0} (stands : S → Strand → List Event → Type 0) (net : Net) (budget : ℕ) (journal : List Entry) (out : List ℕ) (actors : List (Actor S)) (d : DeskState) (pool : PoolState)
    (sound : IsSound stands net budget journal out actors d pool)
    (s : Who) (k : ℕ) (e : Event) (may : licence net (play net journal) (left_by journal out) s k ≡ Some e)
    (a : Actor S) (stage : S) (there : slice_get actors s ≡ Some a) (was : a.stage ≡ Some stage) (seen : Seen) (seen_at : told e ≡ seen)
    (space : length journal < budget) (d' : DeskState) (pool' : PoolState) (desk_is : d' ≡ desk_after_turn d s seen) (pool_is : pool' ≡ pool_after_turn d pool s seen) where
  abbrev pub longer : List Entry
  longer = journal ++ (record { strand = s; stream = k }) ∷ []

  abbrev pub here : ℕ
  here = suc (length journal)

  -- After the turn

  was_out : IsSound stands net budget longer (out ++ here ∷ []) (slice_set actors s (gone_out seen a)) d' pool'
  was_out = sound_turned stands net budget journal out actors d pool sound s k e may a stage there was seen seen_at (gone_out seen a) refl refl refl space d' pool' desk_is pool_is

  pub sights : (i : ℕ) → IsHeldIn pool' (sight_through d'.sights (Telling.sight_door d' s i))
  sights i = sight_held stands net budget longer (out ++ here ∷ []) (slice_set actors s (gone_out seen a)) d' pool' was_out s i

  -- the bytes at hand are those of the event
  pub right_bytes : bytes_with (looks_at net s) e ≡ bytes_told (looks_at net s) d' pool' s seen
  right_bytes =
      sym (told_are stands net budget longer (out ++ here ∷ []) (slice_set actors s (gone_out seen a)) d' pool' was_out (looks_at net s) s e (past (play net journal) s) seen
      (turned_past stands net budget journal out actors d pool sound s k e may) (goes_on stands net budget journal out actors d pool sound s k e may) seen_at)

  abbrev its : JobState S
  its = record { strand = s; place = here; seen = seen; stage = stage }

  abbrev job : (b : Actor S) → b.stage ≡ None → b.looks ≡ a.looks → b.saw_end ≡ (a.saw_end || is_end seen) → JobStands stands net longer its
  job b b_out b_looks b_end = job_turned stands net budget journal out actors d pool sound s k e may a stage there was seen seen_at b b_out b_looks b_end space d' pool' desk_is pool_is

  job_bytes : (b : Actor S) (b_out : b.stage ≡ None) (b_looks : b.looks ≡ a.looks) (b_end : b.saw_end ≡ (a.saw_end || is_end seen)) (bytes : List ℕ) → bytes ≡ bytes_told (looks_at net s) d' pool' s seen →
      bytes_with (looks_at net s) (job b b_out b_looks b_end).event ≡ bytes
  job_bytes b b_out b_looks b_end bytes is =
      ap (bytes_with (looks_at net s)) (job_event stands net budget journal out actors d pool sound s k e may a stage there was seen seen_at b b_out b_looks b_end space d' pool' desk_is pool_is)
      ∙ right_bytes ∙ sym is

  pub can_go : (bytes : List ℕ) → bytes ≡ bytes_told (looks_at net s) d' pool' s seen → CanResume stands stage seen bytes
  can_go bytes is = can_run stands net longer its (job (gone_out seen a) refl refl refl) bytes (job_bytes (gone_out seen a) refl refl refl bytes is)

  -- and told of a record that it sees, with room for one event more
  pub can_look : (i : ℕ) → seen ≡ Sees i → length longer < 50000000 → (bytes : List ℕ) → bytes ≡ bytes_told (looks_at net s) d' pool' s seen → CanSee stands stage i bytes
  can_look i sees few bytes is = can_see stands net longer its (job (gone_out seen a) refl refl refl) i sees few bytes (job_bytes (gone_out seen a) refl refl refl bytes is)

  -- After the coroutine went on

  module _ (next : S) (asked : Asked) (passes : Bool) where
    abbrev off : Actor S
    off = given_up (gone_on seen next asked passes a)

    -- the coroutine is given up
    pub lost : IsSound stands net budget longer (out ++ here ∷ []) (slice_set actors s off) d' pool'
    lost = sound_turned stands net budget journal out actors d pool sound s k e may a stage there was seen seen_at off refl refl refl space d' pool' desk_is pool_is

    pub went_out : IsInUse net d'
    went_out = in_use stands net budget longer (out ++ here ∷ []) (slice_set actors s off) d' pool' lost

    module _ (bytes : List ℕ) (bytes_are : bytes ≡ bytes_told (looks_at net s) d' pool' s seen) (resumed : Resumes stands stage next seen bytes asked) where
      abbrev out' : List ℕ
      out' = out ++ here ∷ []

      among : is_among here out' ≡ true
      among = among_end here out

      done : HasGoneOn stands net (take here longer) s here next asked
      done = done_take stands net longer its (job off refl refl refl) bytes (job_bytes off refl refl refl bytes bytes_are) next asked resumed

      -- it has ended just where that is what it was told
      pub home_ended : ends seen ≡ Telling.ended_at d' s
      home_ended =
          sym (ended_is stands net budget longer out' (slice_set actors s off) d' pool' lost s here next asked among done
          ∙ ap has_ended (turned_past stands net budget journal out actors d pool sound s k e may)
          ∙ end_told e (past (play net journal) s) (goes_on stands net budget journal out actors d pool sound s k e may) ∙ ap ends seen_at)

      -- while it is out the desk and the pool are any for which the core is sound
      module _ (d2 : DeskState) (pool2 : PoolState) (sound2 : IsSound stands net budget longer out' (slice_set actors s off) d2 pool2) where
        pub any_can : Telling.ended_at d2 s ≡ false → CanCome d2 pool2 s asked
        any_can = can_home stands net budget longer out' (slice_set actors s off) d2 pool2 sound2 s here next asked among done

        pub any_early : Telling.ended_at d2 s ≡ false → StaysEarly d2 pool2 s asked
        any_early = came_early stands net budget longer out' (slice_set actors s off) d2 pool2 sound2 s here next asked among done

        -- and its strand came home
        pub any_home : (shown : Asked) → (passes ≡ true → PassesOn stands next) → (Telling.ended_at d2 s ≡ false → shown ≡ bare asked) →
            (d3 : DeskState) (pool3 : PoolState) → HasReturned d2 pool2 s asked d3 pool3 →
            IsSound stands net budget longer out (slice_set actors s (gone_on seen next shown passes a)) d3 pool3
        any_home shown passing bared d3 pool3 returned =
            let new : Actor S = gone_on seen next shown passes a in
            let home = sound_home stands net budget longer out' (slice_set actors s off) d2 pool2 sound2 s here next asked among done d3 pool3 off (get_set_same actors s off a there)
            returned shown bared passes passing in
            let before : without here out' ≡ out = without_end net journal out sound.last in
            subst (λ (l : List (Actor S)). IsSound stands net budget longer out l d3 pool3) (set_set actors s off new)
            (subst (λ o. IsSound stands net budget longer o (slice_set (slice_set actors s off) s new) d3 pool3) before home)

      -- as those after the turn are
      pub home_can : Telling.ended_at d' s ≡ false → CanCome d' pool' s asked
      home_can = any_can d' pool' lost

      pub home_early : Telling.ended_at d' s ≡ false → StaysEarly d' pool' s asked
      home_early = any_early d' pool' lost

      pub went_home : (shown : Asked) → (passes ≡ true → PassesOn stands next) → (Telling.ended_at d' s ≡ false → shown ≡ bare asked) →
          (d2 : DeskState) (pool2 : PoolState) → HasReturned d' pool' s asked d2 pool2 →
          IsSound stands net budget longer out (slice_set actors s (gone_on seen next shown passes a)) d2 pool2
      went_home = any_home d' pool' lost

      -- and what it did is all that happened, where it settled nothing for many
      pub gone_quietly : LeastEventAwake d (Some (s, k, seen)) → may_settle d s seen ≡ false → (d2 : DeskState) (pool2 : PoolState) → HasReturned d' pool' s asked d2 pool2 →
          HasGoneQuietly net d pool s k seen asked d2 pool2
      gone_quietly least quiet d2 pool2 returned = record {
        formed = sound.formed;
        used = made.used;
        can = made.can;
        live = made.live;
        strand = made.strand;
        least = least;
        quiet = quiet;
        used_out = subst (IsInUse net) desk_is went_out;
        early = turned (λ x y. StaysEarly x y s asked) (home_early (sym home_ended ∙ no_end));
        returned = turned (λ x y. HasReturned x y s asked d2 pool2) returned;
      }
        where
          made : CanMake net d pool s seen
          made = can_make stands net budget journal out actors d pool sound s k e may seen seen_at

          no_end : ends seen ≡ false
          no_end = (neither (ends seen) (sees seen && not (is_some (Telling.primed_of (slice_get d.seats s)))) quiet).0

          turned : (P : DeskState → PoolState → Type 0) → P d' pool' → P (desk_after_turn d s seen) (pool_after_turn d pool s seen)
          turned P holds = subst (λ x. P x (pool_after_turn d pool s seen)) desk_is (subst (P d') pool_is holds)
