-- A driver of lists passes the record at hand on, where nothing is left to write.
use Rattle.std.proofs.Common.{◌≡◌, ℕ, Bool, true, false, cond, List, [], ◌∷◌, ◌++◌, refl, sym, ◌∙◌, ap, subst, Some, None, option_map, ◌⊎◌, inl, inr}
use Rattle.pipe_model.specs.declared.net.Strand.{Strand}
use Rattle.pipe_model.specs.declared.step.Want.{Want as Asked}
use Rattle.pipe_model.specs.Event.{Event, Want, answers}
use Rattle.pipe_model.specs.Event.Event.{Took, Put}
use Rattle.pipe_model.specs.Row.{Act}
use Rattle.pipe_model.specs.Shape.{Records, Stream, at_hand_of}
use Rattle.pipe_model.specs.Table.{form}
use Rattle.pipe_model.specs.Next.{Past, past_by, want_in, next}
use Rattle.stage_steps.specs.declared.listed.Listed.{Listed}
use Rattle.stage_steps.specs.declared.order.Order.TheVariants.{WritesFirst}
use Rattle.stage_steps.specs.declared.place.Follow.TheVariants.{Take}
use Rattle.stage_steps.specs.declared.place.Place.{Place}
use Rattle.stage_steps.specs.declared.place.Place.TheVariants.{Looking, Writing, Taking, Passing, Ending}
use Rattle.stage_steps.specs.declared.walk.Walk.{Walk}
use Rattle.stage_steps.specs.Coroutine.{bytes_with, told}
use Rattle.stage_steps.specs.Drivers.{ListedStands}
use Rattle.stage_steps.specs.Group.{held_acts}
use Rattle.stage_steps.specs.KeptText.{KeptText}
use Rattle.stage_steps.specs.Kept.{kept_after}
use Rattle.stage_steps.specs.Lists.{IsSpent, Tells}
use Rattle.stage_steps.specs.Listed.{KeptIs, LooksOn, WritesOn, TakesOn, PlaceIs, ListedIs, list_row}
use Rattle.stage_steps.specs.Outputs.{live}
use Rattle.stage_steps.specs.PassesOn.{PassesOn}
use Rattle.stage_steps.specs.Places.{order_of, taken_place}
use Rattle.stage_steps.specs.Walk.{CanPass, IsPassing, Fetches}
use Rattle.stage_steps.proofs.Drives.{going, goes_on, looks_not, writes_not, takes_not}

module _ {L : Type 0} (stands : L → Bool → Stream → Records → List Act → Type 0) (looks : Bool) (x : L) (w : Walk) (keeps_none : w.kept ≡ None) (in_hand : w.hand ≡ None) (order_is : w.order ≡ WritesFirst) (spent : IsSpent stands x) (s : Strand) where
  -- the walk in this place
  abbrev at_place : Place → Walk
  at_place place = record w { place = place }

  abbrev StandsAt : Place → List Event → Type 0
  StandsAt place h = ListedIs stands looks x (at_place place) s h

  -- nothing is left to fetch
  fetches : (flags : List Bool) → Fetches stands (λ _. None) flags x w.hand x None
  fetches flags over t recs acts is =
      let none_left : acts ≡ [] = (spent over t recs acts is).0 in (
        ap (λ l. live flags (held_acts (at_hand_of recs) w.hand ++ l)) none_left ∙ ap (λ hand. live flags (held_acts (at_hand_of recs) hand ++ [])) in_hand,
        subst (λ l. stands x over t recs l) none_left is,
      )

  -- when the record was taken the next one is looked at
  looks_behind : Tells stands x Looking (taken_place w.order)
  looks_behind over t recs acts is =
      sym (ap (λ order. taken_place order t recs) order_is ∙ ap (λ b. cond b (Ending (t.code recs)) Looking) (spent over t recs acts is).1)

  -- what is kept is nothing, after an event too
  none_kept : (f : KeptText → KeptText) → w.kept ≡ option_map f w.kept
  none_kept f = keeps_none ∙ ap (option_map f) (sym keeps_none)

  -- its past and its place, with these lists
  abbrev PastBy : Bool → Stream → List Event → Past
  PastBy keeps t h = past_by (list_row (order_of w.order) keeps t) s.ports.has_output h

  abbrev PlacedAt : Place → Bool → Stream → List Event → Type 0
  PlacedAt place keeps t h = PlaceIs stands (order_of w.order) t true x place w.hand w.outputs.flags.items (PastBy keeps t h)

  -- where it stands in one place, and that is another one too, it stands there
  moved : (from to : Place) (h : List Event) (is : StandsAt from h) → (PlacedAt from is.keeps is.stream h → PlacedAt to is.keeps is.stream h) → StandsAt to h
  moved from to h is may = record {
    keeps = is.keeps;
    keeps_is = is.keeps_is;
    stream = is.stream;
    past_is = is.past_is;
    connected_is = is.connected_is;
    walk_is = record {
      flags_are = is.walk_is.flags_are;
      sight_is = is.walk_is.sight_is;
      seen_is = is.walk_is.seen_is;
      few = is.walk_is.few;
      place_is = λ on. may (is.walk_is.place_is on);
    };
    looks_are = is.looks_are;
    looking = is.looking;
    kept_is = subst (λ kept. KeptIs to kept (form s).keeping h) (sym keeps_none) (subst (λ kept. KeptIs from kept (form s).keeping h) keeps_none is.kept_is);
  }

  -- where it stands in one of the three places, it stands where it passes the record on
  from_writing : (h : List Event) → StandsAt (Writing Take) h → StandsAt Passing h
  from_writing h is = moved (Writing Take) Passing h is (λ at. (refl, inl at))

  from_taking : (h : List Event) → StandsAt Taking h → StandsAt Passing h
  from_taking h is = moved Taking Passing h is (λ at. (refl, inr (inl at)))

  from_looking : (h : List Event) → StandsAt Looking h → StandsAt Passing h
  from_looking h is = moved Looking Passing h is (λ at. (refl, inr (inr at)))

  -- and of these three it stands in the one that wants what the event answers
  module _ (h : List Event) (is : StandsAt Passing h) (e : Event) (fits : answers (next s h) e ≡ true) where
    abbrev old : Past
    old = PastBy is.keeps is.stream h

    wanted : answers (want_in old.phase) e ≡ true
    wanted = subst (λ (q : Past). answers (want_in q.phase) e ≡ true) (is.past_is h) (going s h e fits).1

    abbrev Writes : Type 0
    Writes = WritesOn stands is.stream true x Take w.hand w.outputs.flags.items old

    abbrev Takes : Type 0
    Takes = TakesOn stands (order_of w.order) is.stream x w.hand w.outputs.flags.items old

    abbrev Looks : Type 0
    Looks = LooksOn stands is.stream x w.hand old

    not_looking : answers (Some (Want.Read 0)) e ≡ false → Looks → ⊥
    not_looking = looks_not stands (order_of w.order) is.stream x w.hand w.outputs.flags.items old e wanted

    writes : answers (Some (Want.Take 0)) e ≡ false → answers (Some (Want.Read 0)) e ≡ false → (Writes ⊎ (Takes ⊎ Looks)) → Writes
    writes takes reads (inl at) = at
    writes takes reads (inr (inl at)) = absurd (takes_not stands (order_of w.order) is.stream x w.hand w.outputs.flags.items old e wanted takes at)
    writes takes reads (inr (inr at)) = absurd (not_looking reads at)

    takes : ((o : ℕ) (rec : List ℕ) → answers (Some (Want.Write o rec)) e ≡ false) → answers (Some (Want.Read 0)) e ≡ false → (Writes ⊎ (Takes ⊎ Looks)) → Takes
    takes put reads (inl at) = absurd (writes_not stands (order_of w.order) is.stream x w.hand w.outputs.flags.items old e wanted put Take at)
    takes put reads (inr (inl at)) = at
    takes put reads (inr (inr at)) = absurd (not_looking reads at)

    to_writing : answers (Some (Want.Take 0)) e ≡ false → answers (Some (Want.Read 0)) e ≡ false → StandsAt (Writing Take) h
    to_writing take reads = moved Passing (Writing Take) h is (λ at. writes take reads at.1)

    to_taking : ((o : ℕ) (rec : List ℕ) → answers (Some (Want.Write o rec)) e ≡ false) → answers (Some (Want.Read 0)) e ≡ false → StandsAt Taking h
    to_taking put reads = moved Passing Taking h is (λ at. takes put reads at.1)

  -- told that the record was put, it takes the one at hand
  put : (h : List Event) (o : ℕ) (rec : List ℕ) → StandsAt (Writing Take) h → answers (next s h) (Put o rec) ≡ true → StandsAt Taking (Put o rec ∷ h) × (next s (Put o rec ∷ h) ≡ Some (Want.Take 0))
  put h o rec is fits =
      let bytes = bytes_with (form s).looks (Put o rec) in
      let done = goes_on stands (λ _. None) looks x x x (told (Put o rec)) bytes (at_place (Writing Take)) w.kept w.outputs (Writing Take) Taking w.hand (Asked.Take 0) s h (Put o rec)
      is fits refl refl (λ i rec' saw. cc) (none_kept (kept_after (told (Put o rec)) bytes)) refl refl (refl, refl)
      (x, None, fetches w.outputs.flags.items, (refl, in_hand, λ t recs acts rest was is. refl, refl)) (going s h (Put o rec) fits).0 in
      (done.0, sym done.1)

  -- told that it was taken, it looks at the next one
  took : (h : List Event) (i : ℕ) → StandsAt Taking h → answers (next s h) (Took i) ≡ true → StandsAt Looking (Took i ∷ h) × (next s (Took i ∷ h) ≡ Some (Want.Read 0))
  took h i is fits =
      let bytes = bytes_with (form s).looks (Took i) in
      let done = goes_on stands (λ _. None) looks x x x (told (Took i)) bytes (at_place Taking) w.kept w.outputs Looking Looking w.hand (Asked.Read 0) s h (Took i)
      is fits refl refl (λ i' rec saw. cc) (none_kept (kept_after (told (Took i)) bytes)) refl refl (refl, looks_behind)
      (refl, refl, refl, refl) (going s h (Took i) fits).0 in
      (done.0, sym done.1)

  -- the same where it passes the record on, and there it stays
  passes_put : (h : List Event) (o : ℕ) (rec : List ℕ) → StandsAt Passing h → answers (next s h) (Put o rec) ≡ true → StandsAt Passing (Put o rec ∷ h) × (next s (Put o rec ∷ h) ≡ Some (Want.Take 0))
  passes_put h o rec is fits = let done = put h o rec (to_writing h is (Put o rec) fits refl refl) fits in (from_taking (Put o rec ∷ h) done.0, done.1)

  passes_took : (h : List Event) (i : ℕ) → StandsAt Passing h → answers (next s h) (Took i) ≡ true → StandsAt Passing (Took i ∷ h) × (next s (Took i ∷ h) ≡ Some (Want.Read 0))
  passes_took h i is fits = let done = took h i (to_taking h is (Took i) fits (λ o rec. refl) refl) fits in (from_looking (Took i ∷ h) done.0, done.1)

module _ {L : Type 0} (stands : L → Bool → Stream → Records → List Act → Type 0) (is_looking : L → Bool) (x : L) (w : Walk) where
  abbrev with_walk : Walk → Listed L
  with_walk v = record { lists = x; walk = v }

  abbrev Stood : Listed L → Strand → List Event → Type 0
  Stood y s h = ListedStands stands is_looking y s h

  abbrev passing : Walk
  passing = record w { place = Passing }

  -- where it stood, whichever of the two places that was
  stood_in : CanPass stands x w → (s : Strand) (h : List Event) → ((w.place ≡ Writing Take) ⊎ (w.place ≡ Taking)) → Stood (with_walk w) s h → Stood (with_walk passing) s h
  stood_in can s h (inl at) is = from_writing stands (is_looking x) x w can.1 can.2 can.3 can.4 s h (subst (λ place. Stood (with_walk (record w { place = place })) s h) at is)
  stood_in can s h (inr at) is = from_taking stands (is_looking x) x w can.1 can.2 can.3 can.4 s h (subst (λ place. Stood (with_walk (record w { place = place })) s h) at is)

  -- it stands for what it stood for
  pub stays : (v : Walk) (b : Bool) → IsPassing stands x w v b → (s : Strand) (h : List Event) → Stood (with_walk w) s h → Stood (with_walk v) s h
  stays v false same s h is = subst (λ u. Stood (with_walk u) s h) (sym same) is
  stays v true on s h is = subst (λ u. Stood (with_walk u) s h) (sym on.1) (stood_in on.0 s h on.0.0 is)

  passes_all : CanPass stands x w → PassesOn Stood (with_walk passing)
  passes_all can = (
    λ s h o rec is fits. passes_put stands (is_looking x) x w can.1 can.2 can.3 can.4 s h o rec is fits,
    λ s h i is fits. passes_took stands (is_looking x) x w can.1 can.2 can.3 can.4 s h i is fits,
  )

  -- where it says so, it passes the record on
  pub told_so : (v : Walk) → IsPassing stands x w v true → PassesOn Stood (with_walk v)
  told_so v on = subst (λ u. PassesOn Stood (with_walk u)) (sym on.1) (passes_all on.0)

  pub passes_on : (v : Walk) (b : Bool) → IsPassing stands x w v b → b ≡ true → PassesOn Stood (with_walk v)
  passes_on v b on says = told_so v (subst (λ c. IsPassing stands x w v c) says on)
