-- A driver of lists goes on to the next record, once the one at hand was taken.
use Rattle.std.proofs.Common.{◌≡◌, Bool, true, false, cond, List, [], ◌++◌, refl, sym, ◌∙◌, ap, subst, None, option_map, ◌⊎◌, inl, inr}
use Rattle.pipe_model.specs.declared.step.Seen.TheVariants.{Took}
use Rattle.pipe_model.specs.declared.step.Want.TheVariants.{Read}
use Rattle.pipe_model.specs.Row.{Act}
use Rattle.pipe_model.specs.Shape.{Records, Stream, at_hand_of}
use Rattle.stage_steps.specs.declared.listed.Listed.{Listed}
use Rattle.stage_steps.specs.declared.order.Order.TheVariants.{TakesFirst}
use Rattle.stage_steps.specs.declared.place.Place.{Place}
use Rattle.stage_steps.specs.declared.place.Follow.TheVariants.{Look}
use Rattle.stage_steps.specs.declared.place.Place.TheVariants.{Looking, Writing, Taking, Passing, Ending}
use Rattle.stage_steps.specs.declared.walk.Walk.{Walk}
use Rattle.stage_steps.specs.Coroutine.{Resumes}
use Rattle.stage_steps.specs.Drivers.{ListedStands}
use Rattle.stage_steps.specs.Kept.{kept_after}
use Rattle.stage_steps.specs.Group.{held_acts}
use Rattle.stage_steps.specs.Lists.{IsSpent, Tells}
use Rattle.stage_steps.specs.Outputs.{live}
use Rattle.stage_steps.specs.Places.{taken_place}
use Rattle.stage_steps.specs.Walk.{Hears, Asks, Fetches, CanGoOn, HasSpent, HasWrittenFirst, IsGoingOn}
use Rattle.stage_steps.proofs.Drives.{steps}

module _ {L : Type 0} (stands : L → Bool → Stream → Records → List Act → Type 0) (is_looking : L → Bool) (x : L) (w : Walk) where
  abbrev with_walk : L → Walk → Listed L
  with_walk y v = record { lists = y; walk = v }

  abbrev looking_on : Walk
  looking_on = record w { place = Looking; kept = option_map (kept_after (Took 0) []) w.kept }

  abbrev Resumed : L → Walk → Type 0
  Resumed y v = Resumes (λ z s h. ListedStands stands is_looking z s h) (with_walk x w) (with_walk y v) (Took 0) [] (Read 0)

  abbrev HearsAt : Place → Bool → Place → Type 0
  HearsAt from gives_up place = Hears stands (is_looking x) w.order gives_up x from (Took 0) [] x place

  -- the driver's step, where it hears so and asks for the next record
  stepped : (y : L) → is_looking y ≡ is_looking x → (from : Place) → ((gives_up : Bool) → HearsAt w.place gives_up from) → Asks stands (λ _. None) w.outputs.flags.items x w.hand from y w.hand Looking (Read 0) → Resumed y looking_on
  stepped y looks_same from hears asks s h e told =
      steps stands (λ _. None) (is_looking x) x x y (Took 0) [] w looking_on.kept w.outputs from looking_on (is_looking y) (Read 0) s h e looks_same refl
      (record { stood = told.stood; answer = told.answer; seen_is = told.seen_is; bytes_are = told.bytes_are; room = told.room })
      refl refl refl (hears _) asks

  module _ (has : HasWrittenFirst stands x w) where
    -- when the record was taken the next one is looked at
    looks_behind : Tells stands x Looking (taken_place w.order)
    looks_behind over t recs acts is =
        sym (ap (λ order. taken_place order t recs) has.1 ∙ ap (λ b. cond b (Ending (t.code recs)) Looking) (sym (has.2 over t recs acts is)))

    -- it hears so in either of the two places
    heard : (gives_up : Bool) → ((w.place ≡ Taking) ⊎ (w.place ≡ Passing)) → HearsAt w.place gives_up Looking
    heard gives_up (inl at) = subst (λ from. HearsAt from gives_up Looking) (sym at) (refl, looks_behind)
    heard gives_up (inr at) = subst (λ from. HearsAt from gives_up Looking) (sym at) (refl, looks_behind)

    written : Resumed x looking_on
    written = stepped x refl Looking (λ gives_up. heard gives_up has.0) (refl, refl, refl, refl)

  -- it takes before it writes, and nothing of what is left to write can be done
  module _ (at : w.place ≡ Taking) (none : w.hand ≡ None) (first : w.order ≡ TakesFirst) (goes_on : Tells stands x false (λ t recs. t.stops recs)) (y : L) (spent : HasSpent stands w.outputs.flags.items x y) where
    -- when the record was taken its pairs are to be written
    heard_taking : (gives_up : Bool) → HearsAt w.place gives_up (Writing Look)
    heard_taking gives_up = subst (λ from. HearsAt from gives_up (Writing Look)) (sym at) (refl, λ over t recs acts is. sym (ap (λ order. taken_place order t recs) first))

    -- and there are none
    fetches : Fetches stands (λ _. None) w.outputs.flags.items x w.hand y None
    fetches over t recs acts is =
        let done = spent over t recs acts is in (ap (λ hand. live w.outputs.flags.items (held_acts (at_hand_of recs) hand ++ acts)) none ∙ done.0, done.1)

    pub unwritten : is_looking y ≡ is_looking x → Resumed y looking_on
    unwritten looks_same =
        stepped y looks_same (Writing Look) heard_taking
        (y, None, fetches, (refl, none, λ t recs acts rest was is. ap (λ b. cond b (Ending (t.code recs)) Looking) (goes_on false t recs acts was), refl))

  -- where there are no pairs, they are left out as they are
  has_spent : IsSpent stands x → HasSpent stands w.outputs.flags.items x x
  has_spent spent over t recs acts is = let none = (spent over t recs acts is).0 in (ap (live w.outputs.flags.items) none, subst (λ l. stands x over t recs l) none is)

  resumed : CanGoOn stands x w → Resumed x looking_on
  resumed (inl has) = written has
  resumed (inr has) = unwritten has.0 has.2 has.1 (λ over t recs acts is. sym (has.3 over t recs acts is).1) x (has_spent has.3) refl

  -- where it goes on, it did what it does when it is told that the record was taken
  pub goes : (v : Walk) → IsGoingOn stands x w v true → Resumed x v
  goes v on = subst (Resumed x) (sym on.1) (resumed on.0)
