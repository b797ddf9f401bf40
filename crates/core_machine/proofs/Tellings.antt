-- A strand that is home is told the least event: what that asks of its coroutine, of the floor and of the core, where the desk isn't turned yet.
use Rattle.std.proofs.Common.{◌≡◌, Bool, ℕ, ◌+◌, ◌<◌, arith, suc, true, false, inr, List, [], ◌∷◌, ◌++◌, length, refl, sym, ◌∙◌, ap, subst, Some, slice_get, slice_set}
use Rattle.std.specs.Prelude.{slice_index_or}
use Rattle.pipe_model.specs.declared.net.Net.{Net}
use Rattle.pipe_model.specs.declared.net.Strand.{Strand}
use Rattle.pipe_model.specs.declared.step.Entry.{Entry}
use Rattle.pipe_model.specs.declared.step.Seen.{Seen}
use Rattle.pipe_model.specs.declared.step.Seen.TheVariants.{Saw as Sees}
use Rattle.pipe_model.specs.declared.step.Want.{Want as Asked}
use Rattle.pipe_model.specs.Event.{Event}
use Rattle.pipe_model.specs.State.{Who}
use Rattle.pipe_model.specs.Licence.{licence}
use Rattle.pipe_model.specs.Play.{play}
use Rattle.pipe_model.proofs.Lists.{length_more}
use Rattle.record_pool.specs.PoolState.{PoolState}
use Rattle.stage_steps.specs.Coroutine.{told, CanResume, Resumes}
use Rattle.stage_steps.specs.PassesOn.{PassesOn}
use Rattle.stage_steps.specs.Replies.{CanSee}
use Rattle.run_desk.specs.Desk.{DeskState}
use Rattle.run_desk.specs.Telling as Telling
use Rattle.connectors.specs.WireState.{IsHeldIn}
use Rattle.run_desk.specs.Telling.{sight_through}
use Rattle.run_desk.specs.Turns.{desk_after_turn, pool_after_turn, CanCome, HasCome, bare, ends}
use Rattle.run_desk.proofs.Tells.{Fact, tells}
use Rattle.core_machine.specs.declared.actor.Actor.{Actor}
use Rattle.core_machine.specs.Actors.{gone_on, given_up, bytes_told, DoesPass}
use Rattle.core_machine.specs.Answered.{LeastEvent}
use Rattle.core_machine.specs.Floor.{IsInUse, CanMake, StaysEarly}
use Rattle.core_machine.specs.Machine.{left_by, looks_at, IsLawful}
use Rattle.core_machine.specs.Sound.{IsSound}
use Rattle.core_machine.specs.Woken.{HasReturned, LeastEventAwake}
use Rattle.core_machine.proofs.GoesOn.{sights, can_go, can_look, lost, went_out, home_ended, home_can, home_early, went_home, any_can, any_early, any_home}
use Rattle.core_machine.proofs.Sounds.{actor_at, can_make, does_pass, event_back, in_range, in_use, its_looks, lawful_turned, out_room, stage_at}

-- the core is sound and has room for an entry, the strand is home, and the least event that may be is its own
pub record IsTelling {S : Type 0} (stands : S → Strand → List Event → Type 0) (net : Net) (budget : ℕ) (journal : List Entry) (out : List ℕ) (actors : List (Actor S))
    (d : DeskState) (pool : PoolState)
    (s : Who) (k : ℕ) (seen : Seen) (a : Actor S) : Type 0 where
  pub sound : IsSound stands net budget journal out actors d pool
  pub event : Event
  pub may : licence net (play net journal) (left_by journal out) s k ≡ Some event
  pub seen_is : told event ≡ seen
  pub stage : S
  pub there : slice_get actors s ≡ Some a
  pub was : a.stage ≡ Some stage
  pub space : length journal < budget
  pub least : LeastEventAwake d (Some (s, k, seen))

-- it is so where the least event that may be is of that strand
pub telling : {S : Type 0} (stands : S → Strand → List Event → Type 0) (net : Net) (budget : ℕ) (journal : List Entry) (out : List ℕ) (actors : List (Actor S))
    (d : DeskState) (pool : PoolState) (b : Bool)
    (s : Who) (k : ℕ) (seen : Seen) (a : Actor S) → IsSound stands net budget journal out actors d pool →
    LeastEvent (record { net = net; budget = budget; journal = journal; out = out; is_broken = b }) (Some (s, k, seen)) → length journal < budget → a ≡ slice_index_or actors s a →
    IsTelling stands net budget journal out actors d pool s k seen a
telling stands net budget journal out actors d pool b s k seen a sound least space read =
    let event = least.1 in
    let there = actor_at stands net budget journal out actors d pool sound s a (in_range stands net budget journal out actors d pool sound s k event.0 event.1) read in
    let its = stage_at stands net budget journal out actors d pool sound s k event.0 event.1 a there in
    record {
      sound = sound;
      event = event.0;
      may = event.1;
      seen_is = event.2;
      stage = its.0;
      there = there;
      was = its.1;
      space = space;
      least = event_back stands net budget journal out actors d pool sound b (s, k, seen) least;
    }

module _ {S : Type 0} {stands : S → Strand → List Event → Type 0} {net : Net} {budget : ℕ} {journal : List Entry} {out : List ℕ} {actors : List (Actor S)} {d : DeskState} {pool : PoolState}
    {s : Who} {k : ℕ} {seen : Seen} {a : Actor S} (t : IsTelling stands net budget journal out actors d pool s k seen a) where
  abbrev d' : DeskState
  d' = desk_after_turn d s seen

  abbrev pool' : PoolState
  pool' = pool_after_turn d pool s seen

  -- the strand is one of the net
  pub within : s < length net.strands
  within = in_range stands net budget journal out actors d pool t.sound s k t.event t.may

  -- it can be made
  pub makes : CanMake net d pool s seen
  makes = can_make stands net budget journal out actors d pool t.sound s k t.event t.may seen t.seen_is

  -- there is room for one more that is out
  pub room_out : length out < length net.strands
  room_out = out_room stands net budget journal out actors d pool t.sound s k t.event t.may

  -- and the journal stays lawful
  pub lawful_out : (b : Bool) →
      IsLawful (record { net = net; budget = budget; journal = journal ++ (record { strand = s; stream = k }) ∷ []; out = out ++ suc (length journal) ∷ []; is_broken = b })
  lawful_out = lawful_turned stands net budget journal out actors d pool t.sound s k t.event t.may t.space

  -- its coroutine, as another call found it
  abbrev pub with_stage : (x : S) → a.stage ≡ Some x → IsTelling stands net budget journal out actors d pool s k seen a
  with_stage x was =
      record { sound = t.sound; event = t.event; may = t.may; seen_is = t.seen_is; stage = x; there = t.there; was = was; space = t.space; least = t.least }

  -- what has to be so of the desk for it is so
  pub fact : Fact d s seen
  fact = tells d s k seen (Telling.ask_at d s) t.least.1

  -- where it says that its coroutine passes a record on, that does
  pub does : DoesPass stands a
  does = does_pass stands net budget journal out actors d pool t.sound s a within t.there

  -- what it saw is held after the turn
  pub held : (i : ℕ) → IsHeldIn pool' (sight_through d'.sights (Telling.sight_door d' s i))
  held = sights stands net budget journal out actors d pool t.sound s k t.event t.may a t.stage t.there t.was seen t.seen_is t.space d' pool' refl refl

  right : (bytes : List ℕ) → bytes ≡ bytes_told a.looks d' pool' s seen → bytes ≡ bytes_told (looks_at net s) d' pool' s seen
  right bytes is = is ∙ ap (λ b. bytes_told b d' pool' s seen) (its_looks stands net budget journal out actors d pool t.sound s a t.there)

  -- its coroutine may be told it, with the bytes at hand after the turn
  pub resumes_it : (bytes : List ℕ) → bytes ≡ bytes_told a.looks d' pool' s seen → CanResume stands t.stage seen bytes
  resumes_it bytes is = can_go stands net budget journal out actors d pool t.sound s k t.event t.may a t.stage t.there t.was seen t.seen_is t.space d' pool' refl refl bytes (right bytes is)

  -- and told of a record that it sees, with room for one event more
  pub looks_it : (i : ℕ) → seen ≡ Sees i → length journal + 1 < budget → (bytes : List ℕ) → bytes ≡ bytes_told a.looks d' pool' s seen → CanSee stands t.stage i bytes
  looks_it i sees space bytes is =
      let e : Entry = record { strand = s; stream = k } in
      let one = length_more journal e in
      let most = t.sound.bounded in
      can_look stands net budget journal out actors d pool t.sound s k t.event t.may a t.stage t.there t.was seen t.seen_is t.space d' pool' refl refl
      i sees (omega (arith, one, most, space)) bytes (right bytes is)

  -- The coroutine went on
  module _ (next : S) (asked : Asked) (passes : Bool) where
    -- it is given up, after the turn
    pub given : (d2 : DeskState) (pool2 : PoolState) → d2 ≡ d' → pool2 ≡ pool' →
        IsSound stands net budget (journal ++ (record { strand = s; stream = k }) ∷ []) (out ++ suc (length journal) ∷ []) (slice_set actors s (given_up (gone_on seen next asked passes a))) d2 pool2
    given d2 pool2 desk_is pool_is =
        lost stands net budget journal out actors d pool t.sound s k t.event t.may a t.stage t.there t.was seen t.seen_is t.space d2 pool2 desk_is pool_is next asked passes

    -- the desk after the turn is in use
    pub used_out : IsInUse net d'
    used_out = went_out stands net budget journal out actors d pool t.sound s k t.event t.may a t.stage t.there t.was seen t.seen_is t.space d' pool' refl refl next asked passes

    module _ (bytes : List ℕ) (bytes_are : bytes ≡ bytes_told a.looks d' pool' s seen) (resumed : Resumes stands t.stage next seen bytes asked) (plain : ends seen ≡ false) where
      -- it hasn't ended
      pub going : Telling.ended_at d' s ≡ false
      going =
          sym (home_ended stands net budget journal out actors d pool t.sound s k t.event t.may a t.stage t.there t.was seen t.seen_is t.space d' pool' refl refl
          next asked passes bytes (right bytes bytes_are) resumed) ∙ plain

      -- it can come home with what it asks for
      pub comes : CanCome d' pool' s asked
      comes =
          home_can stands net budget journal out actors d pool t.sound s k t.event t.may a t.stage t.there t.was seen t.seen_is t.space d' pool' refl refl
          next asked passes bytes (right bytes bytes_are) resumed going

      -- no strand asks for another commit level then
      pub early : StaysEarly d' pool' s asked
      early =
          home_early stands net budget journal out actors d pool t.sound s k t.event t.may a t.stage t.there t.was seen t.seen_is t.space d' pool' refl refl
          next asked passes bytes (right bytes bytes_are) resumed going

      -- and the core is sound once it came home
      pub came_home : (passes ≡ true → PassesOn stands next) → (d2 : DeskState) (pool2 : PoolState) → HasReturned d' pool' s asked d2 pool2 →
          IsSound stands net budget (journal ++ (record { strand = s; stream = k }) ∷ []) out (slice_set actors s (gone_on seen next (bare asked) passes a)) d2 pool2
      came_home passing d2 pool2 returned =
          went_home stands net budget journal out actors d pool t.sound s k t.event t.may a t.stage t.there t.was seen t.seen_is t.space d' pool' refl refl
          next asked passes bytes (right bytes bytes_are) resumed (bare asked) passing (λ live. refl) d2 pool2 returned

      -- and the desk is in use then
      pub used_home : (passes ≡ true → PassesOn stands next) → (d2 : DeskState) (pool2 : PoolState) → HasCome d' pool' s asked d2 pool2 → IsInUse net d2
      used_home passing d2 pool2 come =
          in_use stands net budget (journal ++ (record { strand = s; stream = k }) ∷ []) out (slice_set actors s (gone_on seen next (bare asked) passes a)) d2 pool2
          (came_home passing d2 pool2 (inr (going, come)))

      -- While it is out the desk and the pool are others for which the core is sound
      module _ (d2 : DeskState) (pool2 : PoolState)
          (sound2 : IsSound stands net budget (journal ++ (record { strand = s; stream = k }) ∷ []) (out ++ suc (length journal) ∷ []) (slice_set actors s (given_up (gone_on seen next asked passes a))) d2 pool2)
          (live : Telling.ended_at d2 s ≡ false) where
        -- it can come home with what it asks for
        pub comes_by : CanCome d2 pool2 s asked
        comes_by =
            any_can stands net budget journal out actors d pool t.sound s k t.event t.may a t.stage t.there t.was seen t.seen_is t.space d' pool' refl refl
            next asked passes bytes (right bytes bytes_are) resumed d2 pool2 sound2 live

        -- no strand asks for another commit level then
        pub early_by : StaysEarly d2 pool2 s asked
        early_by =
            any_early stands net budget journal out actors d pool t.sound s k t.event t.may a t.stage t.there t.was seen t.seen_is t.space d' pool' refl refl
            next asked passes bytes (right bytes bytes_are) resumed d2 pool2 sound2 live

        -- and the core is sound once it came home
        pub home_by : (passes ≡ true → PassesOn stands next) → (d3 : DeskState) (pool3 : PoolState) → HasReturned d2 pool2 s asked d3 pool3 →
            IsSound stands net budget (journal ++ (record { strand = s; stream = k }) ∷ []) out (slice_set actors s (gone_on seen next (bare asked) passes a)) d3 pool3
        home_by passing d3 pool3 returned =
            any_home stands net budget journal out actors d pool t.sound s k t.event t.may a t.stage t.there t.was seen t.seen_is t.space d' pool' refl refl
            next asked passes bytes (right bytes bytes_are) resumed d2 pool2 sound2 (bare asked) passing (λ live. refl) d3 pool3 returned

-- a core that is made of equal parts is sound too
pub sound_at : {S : Type 0} {stands : S → Strand → List Event → Type 0} {budget : ℕ} {net net2 : Net} {journal journal2 : List Entry} {out out2 : List ℕ} {actors actors2 : List (Actor S)}
    {d d2 : DeskState} {pool pool2 : PoolState} → net2 ≡ net → journal2 ≡ journal → out2 ≡ out → actors2 ≡ actors → d2 ≡ d → pool2 ≡ pool →
    IsSound stands net budget journal out actors d pool → IsSound stands net2 budget journal2 out2 actors2 d2 pool2
sound_at {S} {stands} {budget} {net} {net2} {journal} {journal2} {out} {out2} {actors} {actors2} {d} {d2} {pool} {pool2} nets journals outs actors_are desks pools sound =
    subst (λ x. IsSound stands x budget journal2 out2 actors2 d2 pool2) (sym nets)
    (subst (λ x. IsSound stands net budget x out2 actors2 d2 pool2) (sym journals)
    (subst (λ x. IsSound stands net budget journal x actors2 d2 pool2) (sym outs)
    (subst (λ x. IsSound stands net budget journal out x d2 pool2) (sym actors_are)
    (subst (λ x. IsSound stands net budget journal out actors x pool2) (sym desks)
    (subst (λ x. IsSound stands net budget journal out actors d x) (sym pools) sound)))))
