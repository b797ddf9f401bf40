-- The driver of lists, one event on.
use Rattle.std.proofs.Common.{◌≡◌, ℕ, Bool, true, false, cond, ◌&&◌, not, List, ◌∷◌, refl, sym, ◌∙◌, ap, subst, Some, None, Option, ℤ, pos, negsuc, is_none, is_some, option_map, ◌⊎◌, inl, inr}
use Rattle.std.specs.List.{list_any}
use Rattle.std.proofs.lemmas.Bool.Decides.{Decides-int_eq}
use Rattle.pipe_model.specs.declared.net.Strand.{Strand}
use Rattle.pipe_model.specs.declared.step.Seen.{Seen}
use Rattle.pipe_model.specs.declared.step.Want.{Want as Asked}
use Rattle.pipe_model.specs.Event.{Event, Want, answers, has_ended}
use Rattle.pipe_model.specs.Event.Event.{Ended}
use Rattle.pipe_model.specs.Row.{Act}
use Rattle.pipe_model.specs.Shape.{Records, Stream, Order as RowOrder, records_of}
use Rattle.pipe_model.specs.Table.{form}
use Rattle.pipe_model.specs.Next.{Past, past_by, want_in, wanted_by, next}
use Rattle.pipe_model.specs.Next.Phase.{Starting as Reaching}
use Rattle.stage_steps.specs.declared.group.Repeat.{Repeat}
use Rattle.stage_steps.specs.declared.outputs.Outputs.{Outputs}
use Rattle.stage_steps.specs.declared.place.Follow.{Follow}
use Rattle.stage_steps.specs.declared.place.Follow.TheVariants.{Take}
use Rattle.stage_steps.specs.declared.place.Place.{Place}
use Rattle.stage_steps.specs.declared.place.Place.TheVariants.{Starting, Committing, Looking, Writing, Taking, Passing, Ending}
use Rattle.stage_steps.specs.declared.walk.Walk.{Walk}
use Rattle.stage_steps.specs.Coroutine.{meaning, told, bytes_with, last_seen, owed, IsSeenBefore, IsTold}
use Rattle.stage_steps.specs.KeptText.{KeptText}
use Rattle.stage_steps.specs.Kept.{kept_after}
use Rattle.stage_steps.specs.Listed.{list_row, goal_behind, LooksOn, WritesOn, TakesOn, PlaceIs, AllIs, KeptIs, ListedIs}
use Rattle.stage_steps.specs.Outputs.{open_after, open_from, none_left}
use Rattle.stage_steps.specs.Places.{order_of}
use Rattle.stage_steps.specs.Walk.{Hears, Asks}
use Rattle.stage_steps.proofs.Acts.{want_first}
use Rattle.stage_steps.proofs.Walks.{HasRoom, After, by_place, by_want}

-- who is answered has not ended
pub going : (s : Strand) (h : List Event) (e : Event) → answers (next s h) e ≡ true → (has_ended h ≡ false) × (answers (wanted_by (form s).row s.ports.has_output h) e ≡ true)
going s h e it =
    (elim (has_ended h) as (λ b. answers (cond b None (wanted_by (form s).row s.ports.has_output h)) e ≡ true → (b ≡ false) × (answers (wanted_by (form s).row s.ports.has_output h) e ≡ true)) [ true ↦ λ x. cc | false ↦ λ x. (refl, x) ]) it

none_is : (f : KeptText → KeptText) (kept : Option KeptText) (keeps : Bool) → is_some kept ≡ keeps → is_none (option_map f kept) ≡ not keeps
none_is f None keeps is = ap not is
none_is f (Some k) keeps is = ap not is

some_is : (f : KeptText → KeptText) (kept : Option KeptText) → is_some (option_map f kept) ≡ is_some kept
some_is f None = refl
some_is f (Some k) = refl

-- where an event answers what is wanted, it isn't in a place that wants something else
module _ {L : Type 0} (stands : L → Bool → Stream → Records → List Act → Type 0) (order : RowOrder) (t : Stream) (x : L) (hand : Option Repeat) (flags : List Bool) (p : Past) (e : Event) (fits : answers (want_in p.phase) e ≡ true) where
  not_wanted : (want : Want) → want_in p.phase ≡ Some want → answers (Some want) e ≡ false → ⊥
  not_wanted want is not = let z : false ≡ true = sym not ∙ subst (λ w. answers w e ≡ true) is fits in cc

  pub looks_not : answers (Some (Want.Read 0)) e ≡ false → LooksOn stands t x hand p → ⊥
  looks_not not is = not_wanted (Want.Read 0) (ap want_in is.2) not

  pub writes_not : ((o : ℕ) (rec : List ℕ) → answers (Some (Want.Write o rec)) e ≡ false) → (follow : Follow) → WritesOn stands t true x follow hand flags p → ⊥
  writes_not not follow is =
      let doing = is.2 in
      not_wanted (Want.Write doing.1.0 doing.1.1) (ap want_in doing.2 ∙ want_first doing.0 (goal_behind follow t (records_of p.known.seen)) doing.1 doing.3) (not doing.1.0 doing.1.1)

  pub takes_not : answers (Some (Want.Take 0)) e ≡ false → TakesOn stands order t x hand flags p → ⊥
  takes_not not is = not_wanted (Want.Take 0) (ap want_in is.4) not

-- where it ends with a code, it is in the place where it is to end with it
module _ {L : Type 0} (stands : L → Bool → Stream → Records → List Act → Type 0) (order : RowOrder) (t : Stream) (x : L) (hand : Option Repeat) (flags : List Bool) (p : Past) (code : ℤ) (fits : answers (want_in p.phase) (Ended code) ≡ true) where
  ends_looking : LooksOn stands t x hand p → ⊥
  ends_looking is = looks_not stands order t x hand flags p (Ended code) fits refl is

  ends_writing : (follow : Follow) → WritesOn stands t true x follow hand flags p → ⊥
  ends_writing follow is = writes_not stands order t x hand flags p (Ended code) fits (λ o rec. refl) follow is

  ends_taking : TakesOn stands order t x hand flags p → ⊥
  ends_taking is = takes_not stands order t x hand flags p (Ended code) fits refl is

  ends_passing : (WritesOn stands t true x Take hand flags p ⊎ (TakesOn stands order t x hand flags p ⊎ LooksOn stands t x hand p)) → ⊥
  ends_passing (inl is) = ends_writing Take is
  ends_passing (inr (inl is)) = ends_taking is
  ends_passing (inr (inr is)) = ends_looking is

  pub ends_at : (f : Place) → PlaceIs stands order t true x f hand flags p → f ≡ Ending code
  ends_at Starting is = let z : answers (want_in (Reaching (negsuc 0))) (Ended code) ≡ true = subst (λ f. answers (want_in f) (Ended code) ≡ true) is.3 fits in cc
  ends_at Committing is = let z : answers (want_in (Reaching (pos 0))) (Ended code) ≡ true = subst (λ f. answers (want_in f) (Ended code) ≡ true) is.3 fits in cc
  ends_at Looking is = absurd (ends_looking is)
  ends_at (Writing follow) is = absurd (ends_writing follow is)
  ends_at Taking is = absurd (ends_taking is)
  ends_at Passing is = absurd (ends_passing is.1)
  ends_at (Ending code') is = ap Ending (sym ((Decides-int_eq code code').0 (subst (λ f. answers (want_in f) (Ended code) ≡ true) is fits)))

module _ {L : Type 0} (stands : L → Bool → Stream → Records → List Act → Type 0) (made : L → Option (List ℕ)) (looks : Bool) (x y z : L) (seen : Seen) (bytes : List ℕ) (w : Walk) (kept' : Option KeptText) (outputs' : Outputs)
    (place1 place2 : Place) (hand' : Option Repeat) (asked : Asked) (s : Strand) (h : List Event) (e : Event)
    (is : ListedIs stands looks x w s h) (answer : answers (next s h) e ≡ true) (seen_is : told e ≡ seen) (came : bytes_with (form s).looks e ≡ bytes) (room : HasRoom h e)
    (kept_is : kept' ≡ option_map (kept_after seen bytes) w.kept) (flags_is : outputs'.flags.items ≡ open_after seen w.outputs.flags.items) (connected_is : outputs'.connected ≡ w.outputs.connected)
    (hears : Hears stands looks w.order (is_none kept' && none_left outputs'.connected outputs'.flags.items) x w.place seen bytes y place1)
    (asks : Asks stands made outputs'.flags.items y w.hand place1 z hand' place2 asked) where
  abbrev outputs : List Bool
  outputs = s.ports.has_output

  abbrev old : Past
  old = past_by (list_row (order_of w.order) is.keeps is.stream) outputs h

  abbrev new : Past
  new = past_by (list_row (order_of w.order) is.keeps is.stream) outputs (e ∷ h)

  abbrev flags : List Bool
  flags = open_after (told e) (open_from 0 outputs old.refused)

  on : has_ended h ≡ false
  on = (going s h e answer).0

  fits : answers (want_in old.phase) e ≡ true
  fits = subst (λ (q : Past). answers (want_in q.phase) e ≡ true) (is.past_is h) (going s h e answer).1

  was : PlaceIs stands (order_of w.order) is.stream true x w.place w.hand (open_from 0 outputs old.refused) old
  was = subst (λ l. PlaceIs stands (order_of w.order) is.stream true x w.place w.hand l old) is.walk_is.flags_are (is.walk_is.place_is on)

  flags_are : outputs'.flags.items ≡ flags
  flags_are = flags_is ∙ ap (λ k. open_after k w.outputs.flags.items) (sym seen_is) ∙ ap (open_after (told e)) is.walk_is.flags_are

  keeps_is : is_none kept' ≡ not is.keeps
  keeps_is = ap is_none kept_is ∙ none_is (kept_after seen bytes) w.kept is.keeps is.keeps_is

  ends_is : (is_none kept' && none_left outputs'.connected outputs'.flags.items) ≡ (not is.keeps && none_left (list_any (λ flag. flag) outputs) flags)
  ends_is = ap (λ b. b && none_left outputs'.connected outputs'.flags.items) keeps_is ∙ ap (λ b. not is.keeps && none_left b outputs'.flags.items) (connected_is ∙ is.connected_is)
      ∙ ap (λ l. not is.keeps && none_left (list_any (λ flag. flag) outputs) l) flags_are

  heard : Hears stands looks w.order (is_none kept' && none_left outputs'.connected outputs'.flags.items) x w.place (told e) bytes y place1
  heard = subst (λ k. Hears stands looks w.order (is_none kept' && none_left outputs'.connected outputs'.flags.items) x w.place k bytes y place1) (sym seen_is) hears

  bytes_are : bytes_with looks e ≡ bytes
  bytes_are = ap (λ b. bytes_with b e) is.looks_are ∙ came

  abbrev goes : Type 0
  goes = After stands looks is.keeps w.order is.stream outputs h bytes x y w.hand place1 old w.place e new

  gone : goes
  gone = by_place stands looks is.keeps w.order is.stream outputs h bytes (is_none kept' && none_left outputs'.connected outputs'.flags.items) x y w.hand place1 old is.walk_is.sight_is is.walk_is.seen_is is.walk_is.few w.place e was room ends_is fits bytes_are heard

  asked_it : Asks stands made flags y w.hand place1 z hand' place2 asked
  asked_it = subst (λ l. Asks stands made l y w.hand place1 z hand' place2 asked) flags_are asks

  -- what is so while the strand goes on
  wants : has_ended (e ∷ h) ≡ false →
      PlaceIs stands (order_of w.order) is.stream true z place2 hand' flags new × (Some (meaning asked (last_seen (e ∷ h))) ≡ want_in new.phase) × ((all : List ℕ) → AllIs place1 all (e ∷ h) → AllIs place2 all (e ∷ h)) × IsSeenBefore asked (e ∷ h)
  wants goes_on =
      by_want stands made (order_of w.order) is.stream outputs (e ∷ h) y z w.hand hand' place2 flags asked new place1 gone.walk.sight_is gone.walk.seen_is (gone.walk.place_is goes_on) asked_it

  wants_next : has_ended (e ∷ h) ≡ false → Some (meaning asked (last_seen (e ∷ h))) ≡ next s (e ∷ h)
  wants_next goes_on =
      (wants goes_on).1 ∙ ap (λ (q : Past). want_in q.phase) (sym (is.past_is (e ∷ h))) ∙ ap (λ b. cond b None (wanted_by (form s).row outputs (e ∷ h))) (sym goes_on)

  -- at its end it is where it ends, and stays there
  stays : (code : ℤ) → e ≡ Ended code → (place2 ≡ Ending code) × (asked ≡ Asked.Done code)
  stays code it =
      let at : w.place ≡ Ending code = ends_at stands (order_of w.order) is.stream x w.hand (open_from 0 outputs old.refused) old code (subst (λ v. answers (want_in old.phase) v ≡ true) it fits) w.place was in
      let here : Hears stands looks w.order (is_none kept' && none_left outputs'.connected outputs'.flags.items) x (Ending code) (told (Ended code)) bytes y place1 =
      subst (λ f. Hears stands looks w.order (is_none kept' && none_left outputs'.connected outputs'.flags.items) x f (told (Ended code)) bytes y place1) at
      (subst (λ v. Hears stands looks w.order (is_none kept' && none_left outputs'.connected outputs'.flags.items) x w.place (told v) bytes y place1) it heard) in
      let over : Asks stands made flags y w.hand (Ending code) z hand' place2 asked = subst (λ f. Asks stands made flags y w.hand f z hand' place2 asked) here.1 asked_it in
      (over.2, over.3)

  abbrev walk : Walk
  walk = record { order = w.order; place = place2; hand = hand'; outputs = outputs'; kept = kept' }

  abbrev KeepsAll : Place → Type 0
  KeepsAll place = (all : List ℕ) → AllIs place1 all (e ∷ h) → AllIs place all (e ∷ h)

  kept_by_it : (kept : Option KeptText) → (is_some kept ≡ is.keeps) → KeptIs w.place kept (form s).keeping h → KeepsAll place2 → KeptIs place2 (option_map (kept_after (told e) bytes) kept) (form s).keeping (e ∷ h)
  kept_by_it None keeps was_kept all = was_kept
  kept_by_it (Some kept) keeps was_kept all =
      let whole : bytes_with true e ≡ bytes = ap (λ b. bytes_with b e) (sym (is.looking (sym keeps))) ∙ bytes_are in
      (was_kept.0, gone.taken kept was_kept.2 was_kept.1, all (kept_after (told e) bytes kept).all (gone.all kept whole was_kept.2))

  kept_now : KeepsAll place2 → KeptIs place2 kept' (form s).keeping (e ∷ h)
  kept_now all = subst (λ k. KeptIs place2 k (form s).keeping (e ∷ h)) (sym (kept_is ∙ ap (λ v. option_map (kept_after v bytes) w.kept) (sym seen_is))) (kept_by_it w.kept is.keeps_is is.kept_is all)

  stands_for : (has_ended (e ∷ h) ≡ false → PlaceIs stands (order_of w.order) is.stream true z place2 hand' flags new) → KeepsAll place2 → ListedIs stands looks z walk s (e ∷ h)
  stands_for place_is all = record {
    keeps = is.keeps;
    keeps_is = ap is_some kept_is ∙ some_is (kept_after seen bytes) w.kept ∙ is.keeps_is;
    stream = is.stream;
    past_is = is.past_is;
    connected_is = connected_is ∙ is.connected_is;
    walk_is = record {
      flags_are = flags_are ∙ gone.walk.flags_are;
      sight_is = gone.walk.sight_is;
      seen_is = gone.walk.seen_is;
      few = gone.walk.few;
      place_is = λ goes_on. subst (λ l. PlaceIs stands (order_of w.order) is.stream true z place2 hand' l new) (sym flags_are) (place_is goes_on);
    };
    looks_are = is.looks_are;
    looking = is.looking;
    kept_is = kept_now all;
  }

  pub goes_on : has_ended (e ∷ h) ≡ false → ListedIs stands looks z walk s (e ∷ h) × (Some (meaning asked (last_seen (e ∷ h))) ≡ next s (e ∷ h)) × IsSeenBefore asked (e ∷ h)
  goes_on more = (stands_for (λ m. (wants m).0) (wants more).2, wants_next more, (wants more).3)

  ends_here : (code : ℤ) → e ≡ Ended code → ListedIs stands looks z walk s (e ∷ h) × (Some (meaning asked (last_seen (e ∷ h))) ≡ Some (Want.Done code)) × IsSeenBefore asked (e ∷ h)
  ends_here code it =
      let at = stays code it in (
        stands_for (λ more. let no : true ≡ false = ap (λ v. has_ended (v ∷ h)) (sym it) ∙ more in cc) (λ all kept. subst (λ f. AllIs f all (e ∷ h)) (sym at.0) tt),
        ap (λ a. Some (meaning a (last_seen (e ∷ h)))) at.1,
        subst (λ a. IsSeenBefore a (e ∷ h)) (sym at.1) tt,
      )

module _ {L : Type 0} (stands : L → Bool → Stream → Records → List Act → Type 0) (made : L → Option (List ℕ)) (looks : Bool) (x y z : L) (seen : Seen) (bytes : List ℕ) (w : Walk) (kept' : Option KeptText) (outputs' : Outputs)
    (place1 : Place) (v : Walk) (looks' : Bool) (asked : Asked) (s : Strand) (h : List Event) where
  abbrev Stepped : Event → Type 0
  Stepped e = ListedIs stands looks z (record { order = w.order; place = v.place; hand = v.hand; outputs = outputs'; kept = kept' }) s (e ∷ h) × (Some (meaning asked (last_seen (e ∷ h))) ≡ owed s (e ∷ h)) × IsSeenBefore asked (e ∷ h)

  by_event : (e : Event) → IsTold (λ v s h. ListedIs stands looks v w s h) x seen bytes s h e →
      kept' ≡ option_map (kept_after seen bytes) w.kept → outputs'.flags.items ≡ open_after seen w.outputs.flags.items → outputs'.connected ≡ w.outputs.connected →
      Hears stands looks w.order (is_none kept' && none_left outputs'.connected outputs'.flags.items) x w.place seen bytes y place1 →
      Asks stands made outputs'.flags.items y w.hand place1 z v.hand v.place asked → Stepped e
  by_event (Ended code) t kept_is flags_is connected_is hears asks =
      ends_here stands made looks x y z seen bytes w kept' outputs' place1 v.place v.hand asked s h (Ended code) t.stood t.answer t.seen_is t.bytes_are (λ i rec saw. t.room) kept_is flags_is connected_is hears asks code refl
  by_event e t kept_is flags_is connected_is hears asks =
      goes_on stands made looks x y z seen bytes w kept' outputs' place1 v.place v.hand asked s h e t.stood t.answer t.seen_is t.bytes_are (λ i rec saw. t.room) kept_is flags_is connected_is hears asks (going s h e t.answer).0

  -- the driver's one step, from what its parts do
  pub steps : (e : Event) → looks' ≡ looks → v ≡ record { order = w.order; place = v.place; hand = v.hand; outputs = outputs'; kept = kept' } → IsTold (λ v s h. ListedIs stands looks v w s h) x seen bytes s h e →
      kept' ≡ option_map (kept_after seen bytes) w.kept → outputs'.flags.items ≡ open_after seen w.outputs.flags.items → outputs'.connected ≡ w.outputs.connected →
      Hears stands looks w.order (is_none kept' && none_left outputs'.connected outputs'.flags.items) x w.place seen bytes y place1 →
      Asks stands made outputs'.flags.items y w.hand place1 z v.hand v.place asked →
      ListedIs stands looks' z v s (e ∷ h) × (Some (meaning asked (last_seen (e ∷ h))) ≡ owed s (e ∷ h)) × IsSeenBefore asked (e ∷ h)
  steps e same others t kept_is flags_is connected_is hears asks =
      let done = by_event e t kept_is flags_is connected_is hears asks in
      (subst (λ b. ListedIs stands b z v s (e ∷ h)) (sym same) (subst (λ (u : Walk). ListedIs stands looks z u s (e ∷ h)) (sym others) done.0), done.1, done.2)
