-- A strand is told the least event, and goes on in place: what coming home asks, and that the core is sound after it, or broken.
use Rattle.std.proofs.Common.{◌≡◌, ◌<◌, ◌≤◌, ◌+◌, Bool, ℕ, suc, true, false, List, [], ◌∷◌, ◌++◌, arith, length, refl, sym, ◌∙◌, ap, subst, Some, slice_set}
use Rattle.pipe_model.specs.declared.net.Net.{Net}
use Rattle.pipe_model.specs.declared.net.Strand.{Strand}
use Rattle.pipe_model.specs.declared.step.Entry.{Entry}
use Rattle.pipe_model.specs.declared.step.Seen.{Seen}
use Rattle.pipe_model.specs.declared.step.Want.{Want as Asked}
use Rattle.pipe_model.specs.Event.{Event}
use Rattle.pipe_model.specs.State.{Who}
use Rattle.pipe_model.proofs.Lists.{length_more}
use Rattle.record_pool.specs.PoolState.{PoolState}
use Rattle.stage_steps.specs.Coroutine.{Resumes}
use Rattle.stage_steps.specs.PassesOn.{PassesOn}
use Rattle.run_desk.specs.Desk.{DeskState}
use Rattle.run_desk.specs.Telling as Telling
use Rattle.run_desk.specs.Turns.{desk_after_turn, pool_after_turn, CanCome, HasCome, bare, ends}
use Rattle.core_machine.specs.declared.actor.Actor.{Actor}
use Rattle.core_machine.specs.Actors.{gone_on, given_up, asking_for, bytes_told}
use Rattle.core_machine.specs.Floor.{IsInUse, StaysEarly}
use Rattle.core_machine.specs.Machine.{Machine, IsLawful}
use Rattle.core_machine.specs.Sound.{IsSound}
use Rattle.core_machine.specs.Woken.{HasReturned}
use Rattle.core_machine.proofs.Tellings.{IsTelling, with_stage, lawful_out, given, going, comes, early, came_home, used_home, sound_at}

module _ {S : Type 0} {stands : S → Strand → List Event → Type 0} {net : Net} {budget : ℕ} {journal : List Entry} {out : List ℕ} {actors : List (Actor S)} {d : DeskState} {pool : PoolState}
    {s : Who} {k : ℕ} {seen : Seen} {a : Actor S} (t : IsTelling stands net budget journal out actors d pool s k seen a) where
  abbrev longer : List Entry
  longer = journal ++ (record { strand = s; stream = k }) ∷ []

  abbrev d' : DeskState
  d' = desk_after_turn d s seen

  abbrev pool' : PoolState
  pool' = pool_after_turn d pool s seen

  -- a core that broke there is lawful
  pub lawful_broken : {net2 : Net} {journal2 : List Entry} (out2 : List ℕ) → net2 ≡ net → journal2 ≡ longer →
      IsLawful (record { net = net2; budget = budget; journal = journal2; out = out2; is_broken = true })
  lawful_broken {net2} {journal2} out2 nets journals =
      let law = lawful_out t true in
      subst (λ n. IsLawful (record { net = n; budget = budget; journal = journal2; out = out2; is_broken = true })) (sym nets)
      (subst (λ j. IsLawful (record { net = net; budget = budget; journal = j; out = out2; is_broken = true })) (sym journals)
      (record { legal = law.legal; within = law.within; bounded = law.bounded }))

  -- The coroutine went on
  module _ (x y : S) (asked : Asked) (passes : Bool) (was : a.stage ≡ Some x) where
    -- and is given up: the core is sound
    pub sound_broken : {net2 : Net} {journal2 : List Entry} {out2 : List ℕ} {b : Actor S} {d2 : DeskState} {pool2 : PoolState} (place : ℕ) → place ≡ suc (length journal) →
        net2 ≡ net → journal2 ≡ longer → out2 ≡ out ++ place ∷ [] → b ≡ given_up (gone_on seen y asked passes a) → d2 ≡ d' → pool2 ≡ pool' →
        IsSound stands net2 budget journal2 out2 (slice_set actors s b) d2 pool2
    sound_broken place at nets journals outs is desks pools =
        sound_at nets journals (outs ∙ ap (λ p. out ++ p ∷ []) at) (ap (slice_set actors s) is) desks pools (given (with_stage t x was) y asked passes d' pool' refl refl)

    module _ (bytes : List ℕ) (bytes_are : bytes ≡ bytes_told a.looks d' pool' s seen) (resumed : Resumes stands x y seen bytes asked) (plain : ends seen ≡ false)
        {b : Actor S} (is : b ≡ gone_on seen y asked passes a) where
      asked_is : b.asked ≡ asked
      asked_is = ap (λ (z : Actor S). z.asked) is

      -- it hasn't ended
      pub live : Telling.ended_at d' s ≡ false
      live = going (with_stage t x was) y asked passes bytes bytes_are resumed plain

      -- it can come home
      pub home : CanCome d' pool' s b.asked
      home = subst (CanCome d' pool' s) (sym asked_is) (comes (with_stage t x was) y asked passes bytes bytes_are resumed plain)

      -- no strand asks for another commit level then
      pub home_early : StaysEarly d' pool' s b.asked
      home_early = subst (StaysEarly d' pool' s) (sym asked_is) (early (with_stage t x was) y asked passes bytes bytes_are resumed plain)

      module _ (passing : passes ≡ true → PassesOn stands y) where
        -- the desk is in use then
        pub home_used : (d2 : DeskState) (pool2 : PoolState) → HasCome d' pool' s b.asked d2 pool2 → IsInUse net d2
        home_used d2 pool2 come =
            used_home (with_stage t x was) y asked passes bytes bytes_are resumed plain passing d2 pool2 (subst (λ w. HasCome d' pool' s w d2 pool2) asked_is come)

        -- and the core is sound
        pub home_sound : {net2 : Net} {journal2 : List Entry} {want : Asked} {d2 : DeskState} {pool2 : PoolState} → net2 ≡ net → journal2 ≡ longer → want ≡ bare b.asked →
            HasReturned d' pool' s b.asked d2 pool2 → IsSound stands net2 budget journal2 out (slice_set actors s (asking_for want b)) d2 pool2
        home_sound {net2} {journal2} {want} {d2} {pool2} nets journals bared returned =
            let kept : asking_for want b ≡ gone_on seen y (bare asked) passes a =
            ap (λ w. asking_for w b) (bared ∙ ap bare asked_is) ∙ ap (λ (z : Actor S). asking_for (bare asked) z) is in
            sound_at nets journals refl (ap (slice_set actors s) kept) refl refl
            (came_home (with_stage t x was) y asked passes bytes bytes_are resumed plain passing d2 pool2 (subst (λ w. HasReturned d' pool' s w d2 pool2) asked_is returned))

-- Room for what is added

pub fewer : (count limit : ℕ) → count + 1 < limit → count < limit
fewer count limit space = omega (arith, space)

pub below : (count limit room : ℕ) → count < limit → limit ≤ room → count < room
below count limit room few fits = omega (arith, few, fits)

pub one_more : (journal next : List Entry) (e : Entry) (limit room room' : ℕ) → next ≡ journal ++ e ∷ [] → length journal + 1 < limit → limit ≤ room → room' ≡ room → length next < room'
one_more journal next e limit room room' is space fits same =
    let long : length next ≡ length (journal ++ e ∷ []) = ap (λ (l : List Entry). length l) is in
    let last = length_more journal e in
    omega (arith, long, last, space, fits, same)

-- a core that went on has an entry more
pub went_so : (m : Machine) (e : Entry) (net : Net) (budget : ℕ) (journal : List Entry) (out : List ℕ) (broken : Bool) →
    ◌≡◌ {A = Machine} (record { net = net; budget = budget; journal = journal; out = out; is_broken = broken }) m →
    {net' : Net} → net' ≡ net → {journal' : List Entry} → journal' ≡ journal ++ e ∷ [] →
    ◌≡◌ {A = Machine} (record { net = net'; budget = budget; journal = journal'; out = out; is_broken = broken }) (record m { journal = m.journal ++ e ∷ [] })
went_so m e net budget journal out broken v net_is journal_is =
    (λ i. record { net = net_is i; budget = budget; journal = journal_is i; out = out; is_broken = broken }) ∙ ap (λ (z : Machine). record z { journal = z.journal ++ e ∷ [] }) v
