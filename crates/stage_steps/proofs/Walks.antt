-- A walk of pairs, one event on.
use Rattle.std.proofs.Common.{◌≡◌, ◌≤◌, ◌<◌, ℕ, suc, ◌+◌, Bool, true, false, cond, ◌&&◌, not, List, [], ◌∷◌, ◌++◌, length, refl, sym, ◌∙◌, ap, subst, arith, Some, None, Option, ℤ, pos, negsuc, append_assoc, ◌⊎◌, inl, inr}
use Rattle.std.proofs.lemmas.List.{map-append, length-append}
use Rattle.std.proofs.lemmas.Bool.{eqb-true}
use Rattle.std.specs.Prelude.{filter, IsSome}
use Rattle.std.specs.List.{list_any}
use Rattle.std.specs.Ordering.{int_eq}
use Rattle.pipe_model.specs.declared.step.Want.{Want as Asked}
use Rattle.pipe_model.specs.Event.{Event, Want, answers, last_seen_on, taken_from}
use Rattle.pipe_model.specs.Event.Event.{Up, Saw, SawEnd, Took, Put, Refused, Ended}
use Rattle.pipe_model.specs.Records.{text}
use Rattle.pipe_model.specs.Row.{Pair, Act, Goal, Known}
use Rattle.pipe_model.specs.Row.Act.{Takes}
use Rattle.pipe_model.specs.Row.Goal.{Asks as Asking, Ends}
use Rattle.pipe_model.specs.Shape.{Records, Stream, Order as RowOrder, records_of, writes, acts_of, in_order, next_record, list_plan, last_pairs, at_hand_of, ends}
use Rattle.pipe_model.specs.Shape.Order.{WritesFirst as RowWritesFirst, TakesFirst as RowTakesFirst}
use Rattle.pipe_model.specs.Next.{Past, nothing_known, begins_plan, hears, want_in, is_live, is_refused}
use Rattle.pipe_model.proofs.Pasts.{after}
use Rattle.pipe_model.specs.Next.Phase.{Doing}
use Rattle.pipe_model.specs.Next.Phase.{Starting as Reaching}
use Rattle.stage_steps.specs.declared.group.Group.{Group}
use Rattle.stage_steps.specs.declared.group.Group.TheVariants.{AtHand, New}
use Rattle.stage_steps.specs.declared.group.Repeat.{Repeat}
use Rattle.stage_steps.specs.declared.order.Order.{Order}
use Rattle.stage_steps.specs.declared.order.Order.TheVariants.{WritesFirst, TakesFirst}
use Rattle.stage_steps.specs.declared.place.Follow.{Follow}
use Rattle.stage_steps.specs.declared.place.Follow.TheVariants.{Take, Look, End}
use Rattle.stage_steps.specs.declared.place.Place.{Place}
use Rattle.stage_steps.specs.declared.place.Place.TheVariants.{Starting, Committing, Looking, Writing, Taking, Passing, Ending}
use Rattle.stage_steps.specs.Coroutine.{meaning, told, bytes_with, last_seen, record_seen_on, IsSeenBefore}
use Rattle.stage_steps.specs.Group.{group_acts, held_acts, is_due, IsOfRecord, IsLeftOfRecord}
use Rattle.stage_steps.specs.KeptText.{KeptText}
use Rattle.stage_steps.specs.Kept.{kept_after}
use Rattle.stage_steps.specs.Lists.{Sees, Finishes, Tells}
use Rattle.stage_steps.specs.Listed.{list_row, first_write, when_written, and_behind, goal_behind, IsBeforeTake, LooksOn, WritesOn, TakesOn, PlaceIs, AllIs, WalkIs}
use Rattle.stage_steps.specs.Outputs.{open_after, open_from, live, none_left}
use Rattle.stage_steps.specs.Places.{order_of, want_at, place_with, is_last, sight_place, look_place, taken_place, place_behind}
use Rattle.stage_steps.specs.Walk.{IsBegun, Hears, Fetches, Puts, Turns, Asks}
use Rattle.stage_steps.proofs.Flags.{closed_open, refused_is}
use Rattle.stage_steps.proofs.Acts.{live_is, live_refused, want_first, after_put, after_refused, live_behind, left_of, left_seen, pair_of, comes}

-- Records

pub at_hand : (recs : Records) (rec : List ℕ) → at_hand_of (recs ++ rec ∷ []) ≡ rec
at_hand [] rec = refl
at_hand (q ∷ []) rec = refl
at_hand (q ∷ r ∷ recs) rec = at_hand (r ∷ recs) rec

pub one_more : (n m : ℕ) → n ≤ m → n ≤ suc m
one_more n m le = omega arith

text-append : (recs : Records) (rec : List ℕ) → text (recs ++ rec ∷ []) ≡ (text recs ++ rec) ++ 10 ∷ []
text-append [] rec = refl
text-append (first ∷ rest) rec = ap (λ t. first ++ (10 ∷ t)) (text-append rest rec) ∙ simp append_assoc

-- what is kept is the same after an event that takes and shows nothing
all_same : (place : Place) (all : List ℕ) (g h : List Event) → taken_from 0 g ≡ taken_from 0 h → last_seen_on 0 g ≡ last_seen_on 0 h → AllIs place all h → AllIs place all g
all_same (Writing Take) all g h taken seen is = is ∙ ap (λ r. text (r ++ last_seen_on 0 h ∷ [])) (sym taken) ∙ ap (λ r. text (taken_from 0 g ++ r ∷ [])) (sym seen)
all_same (Writing Look) all g h taken seen is = is ∙ ap text (sym taken)
all_same (Writing End) all g h taken seen is = is ∙ ap text (sym taken)
all_same Taking all g h taken seen is = is ∙ ap (λ r. text (r ++ last_seen_on 0 h ∷ [])) (sym taken) ∙ ap (λ r. text (taken_from 0 g ++ r ∷ [])) (sym seen)
all_same Starting all g h taken seen is = is ∙ ap text (sym taken)
all_same Committing all g h taken seen is = is ∙ ap text (sym taken)
all_same Looking all g h taken seen is = is ∙ ap text (sym taken)
all_same Passing all g h taken seen is = is
all_same (Ending code) all g h taken seen is = tt

none_before : (order : RowOrder) → IsBeforeTake order []
none_before RowWritesFirst = refl
none_before RowTakesFirst = tt

-- the next record, or the end
look_by : {L : Type 0} (stands : L → Bool → Stream → Records → List Act → Type 0) (order : RowOrder) (t : Stream) (has_asked : Bool) (x : L) (hand : Option Repeat) (flags : List Bool) (p : Past) →
    stands x false t (records_of p.known.seen) [] → hand ≡ None → p.phase ≡ Doing [] (next_record t (records_of p.known.seen)) →
    PlaceIs stands order t has_asked x (look_place t (records_of p.known.seen)) hand flags p
look_by stands order t has_asked x hand flags p stood none is =
    (elim (t.stops (records_of p.known.seen)) as (λ b. p.phase ≡ Doing [] (cond b (Ends (t.code (records_of p.known.seen))) (Asking (Want.Read 0))) →
    PlaceIs stands order t has_asked x (cond b (Ending (t.code (records_of p.known.seen))) Looking) hand flags p) [ true ↦ λ e. e | false ↦ λ e. (stood, none, e) ]) is

-- One event

-- where a record is seen there is room for one more
abbrev pub HasRoom : List Event → Event → Type 0
HasRoom h e = (i : ℕ) (rec : List ℕ) → e ≡ Saw i rec → length h < 50000000

module _ {L : Type 0} (stands : L → Bool → Stream → Records → List Act → Type 0) (looks keeps : Bool) (order : Order) (t : Stream) (outputs : List Bool) (h : List Event) (bytes : List ℕ)
    (x y : L) (hand : Option Repeat) (place' : Place) (p : Past) where
  -- what is so after an event
  pub record After (f : Place) (e : Event) (q : Past) : Type 0 where
    pub walk : WalkIs stands (order_of order) t false outputs y place' hand (open_after (told e) (open_from 0 outputs p.refused)) (e ∷ h) q
    pub all : (kept : KeptText) → bytes_with true e ≡ bytes → AllIs f kept.all h → AllIs place' (kept_after (told e) bytes kept).all (e ∷ h)
    pub taken : (kept : KeptText) → AllIs f kept.all h → kept.taken ≡ text (taken_from 0 h) → (kept_after (told e) bytes kept).taken ≡ text (taken_from 0 (e ∷ h))

module _ {L : Type 0} (stands : L → Bool → Stream → Records → List Act → Type 0) (looks keeps : Bool) (order : Order) (t : Stream) (outputs : List Bool) (h : List Event) (bytes : List ℕ)
    (ends_it : Bool) (x y : L) (hand : Option Repeat) (place' : Place) (p : Past) (sight_is : last_seen_on 0 h ≡ at_hand_of (records_of p.known.seen)) (seen_is : 0 < length (records_of p.known.seen) → IsSome (record_seen_on 0 h)) (few : length (records_of p.known.seen) ≤ length h) where
  abbrev Next : Place → Event → Past → Type 0
  Next f e q = After stands looks keeps order t outputs h bytes x y hand place' p f e q

  abbrev Stood : L → Place → Past → Type 0
  Stood z f q = PlaceIs stands (order_of order) t false z f hand (open_from 0 outputs p.refused) q

  -- the lists and the place are those that the event leaves
  placed : (f : Place) (q : Past) → y ≡ x → place' ≡ f → Stood x f q → Stood y place' q
  placed f q same is stood = subst (λ z. Stood z place' q) (sym same) (subst (λ f. Stood x f q) (sym is) stood)

  -- of nothing in hand nothing is left
  none_left_of : (recs : Records) → hand ≡ None → IsLeftOfRecord recs hand
  none_left_of recs none = subst (λ g. IsLeftOfRecord recs g) (sym none) tt

  from_start : (e : Event) → stands x false t [] [] → hand ≡ None → p.known ≡ nothing_known → answers (Some (Want.Commit (negsuc 0))) e ≡ true → Hears stands looks order ends_it x Starting (told e) bytes y place' →
      Next Starting e (after (list_row (order_of order) keeps t) outputs p (Reaching (negsuc 0)) e)
  from_start (Up l c) stood none known fits heard = record {
    walk = record {
      flags_are = refl;
      sight_is = sight_is;
      seen_is = seen_is;
      few = one_more _ _ few;
      place_is = λ on. placed (cond (int_eq c (pos 0)) Committing (Ending (pos 0))) (record p { phase = cond (int_eq c (pos 0)) (Reaching (pos 0)) (Doing [] (Ends (pos 0))) }) heard.0 heard.1
          (elim (int_eq c (pos 0)) as (λ b. Stood x (cond b Committing (Ending (pos 0))) (record p { phase = cond b (Reaching (pos 0)) (Doing [] (Ends (pos 0))) })) [ true ↦ (stood, none, known, refl) | false ↦ refl ]);
    };
    all = λ kept came is. subst (λ f. AllIs f kept.all (Up l c ∷ h)) (sym heard.1) (elim (int_eq c (pos 0)) as (λ b. AllIs (cond b Committing (Ending (pos 0))) kept.all (Up l c ∷ h)) [ true ↦ is | false ↦ tt ]);
    taken = λ kept is taken. taken;
  }
  from_start _ stood none known fits heard = cc

  begun : hand ≡ None → p.known ≡ nothing_known → stands y false t [] (writes t.before) → Stood y (Writing Look) (record p { phase = begins_plan outputs p.refused (list_plan (order_of order) t p.known p.known.told) })
  begun none known stood =
      subst (λ k. Stood y (Writing Look) (record { known = k; refused = p.refused; phase = begins_plan outputs p.refused (list_plan (order_of order) t k k.told) })) (sym known)
      (writes t.before, stood, ap (λ l. Doing l (next_record t [])) (live_is outputs p.refused (writes t.before)) ∙ ap (λ g. Doing (live (open_from 0 outputs p.refused) (held_acts [] g ++ writes t.before)) (next_record t [])) (sym none), none_left_of [] none)

  from_commit : (e : Event) → stands x false t [] [] → hand ≡ None → p.known ≡ nothing_known → answers (Some (Want.Commit (pos 0))) e ≡ true → Hears stands looks order ends_it x Committing (told e) bytes y place' →
      Next Committing e (after (list_row (order_of order) keeps t) outputs p (Reaching (pos 0)) e)
  from_commit (Up l c) stood none known fits heard = record {
    walk = record {
      flags_are = refl;
      sight_is = (elim (int_eq c (pos 0)) as (λ b. last_seen_on 0 h ≡ at_hand_of (records_of p.known.seen)) [ true ↦ sight_is | false ↦ sight_is ]);
      seen_is = (elim (int_eq c (pos 0)) as (λ b. 0 < length (records_of p.known.seen) → IsSome (record_seen_on 0 h)) [ true ↦ seen_is | false ↦ seen_is ]);
      few = one_more _ _ few;
      place_is = λ on. (elim (int_eq c (pos 0)) as (λ b. IsBegun stands x y place' b →
          Stood y place' (record p { phase = cond b (begins_plan outputs p.refused (list_plan (order_of order) t p.known p.known.told)) (Doing [] (Ends (pos 0))) })) [
            | true ↦ λ heard. subst (λ f. Stood y f (record p { phase = begins_plan outputs p.refused (list_plan (order_of order) t p.known p.known.told) })) (sym heard.1) (begun none known (heard.0 t stood))
            | false ↦ λ heard. subst (λ f. Stood y f (record p { phase = Doing [] (Ends (pos 0)) })) (sym heard.1) refl
          ]) heard;
    };
    all = λ kept came is. (elim (int_eq c (pos 0)) as (λ b. IsBegun stands x y place' b → AllIs place' kept.all (Up l c ∷ h)) [
      | true ↦ λ heard. subst (λ f. AllIs f kept.all (Up l c ∷ h)) (sym heard.1) is
      | false ↦ λ heard. subst (λ f. AllIs f kept.all (Up l c ∷ h)) (sym heard.1) tt
    ]) heard;
    taken = λ kept is taken. taken;
  }
  from_commit _ stood none known fits heard = cc

  -- the place at the sight of a record, by the records with that one
  at_sight_is : (known : Known) (acts : List Act) → stands y false t (records_of known.seen) acts → hand ≡ None → (order' : Order) →
      PlaceIs stands (order_of order') t false y (place_with order') hand (open_from 0 outputs p.refused)
      (record { known = known; refused = p.refused; phase = Doing (filter (is_live outputs p.refused) (in_order (order_of order') acts (Takes 0))) (next_record t (records_of known.seen)) })
  at_sight_is known acts stood none WritesFirst = (
    acts,
    stood,
    ap (λ l. Doing l (next_record t (records_of known.seen))) (live_is outputs p.refused (acts ++ Takes 0 ∷ []))
        ∙ ap (λ g. Doing (live (open_from 0 outputs p.refused) ((held_acts (at_hand_of (records_of known.seen)) g ++ acts) ++ Takes 0 ∷ [])) (next_record t (records_of known.seen))) (sym none),
    none_left_of (records_of known.seen) none,
  )
  at_sight_is known acts stood none TakesFirst = (acts, stood, none, tt, ap (λ l. Doing (Takes 0 ∷ l) (next_record t (records_of known.seen))) (live_is outputs p.refused acts))

  sight_kept : (halts : Bool) (code : ℤ) (order' : Order) (all : List ℕ) (g : List Event) → all ≡ text (taken_from 0 g ++ last_seen_on 0 g ∷ []) → AllIs (cond halts (Ending code) (place_with order')) all g
  sight_kept true code order' all g is = tt
  sight_kept false code WritesFirst all g is = is
  sight_kept false code TakesFirst all g is = is

  sees : (rec : List ℕ) → stands x false t (records_of p.known.seen) [] → hand ≡ None → length (records_of p.known.seen) < 50000000 → (looks ≡ true → bytes ≡ rec) →
      Sees stands looks x y bytes → Tells stands y place' (sight_place order) → Next Looking (Saw 0 rec) (after (list_row (order_of order) keeps t) outputs p (Doing [] (Asking (Want.Read 0))) (Saw 0 rec))
  sees rec stood none room came sight tells =
      let known = hears p.known (Saw 0 rec) in
      let all : records_of known.seen ≡ records_of p.known.seen ++ rec ∷ [] = map-append (λ (q : Pair). q.1) p.known.seen ((0, rec) ∷ []) in
      let new : stands y false t (records_of known.seen) (acts_of t.outs (records_of known.seen)) = subst (λ r. stands y false t r (acts_of t.outs r)) (sym all) (sight t (records_of p.known.seen) rec stood room came) in
      let place_is : place' ≡ sight_place order t (records_of known.seen) = tells false t (records_of known.seen) (acts_of t.outs (records_of known.seen)) new in record {
        walk = record {
          flags_are = refl;
          sight_is = sym (ap at_hand_of all ∙ at_hand (records_of p.known.seen) rec);
          seen_is = λ some. refl;
          few = let n : length (records_of known.seen) ≡ length (records_of p.known.seen) + 1 = ap length all ∙ length-append (records_of p.known.seen) (rec ∷ []) in omega (arith, n, few);
          place_is = λ on. subst (λ f. Stood y f (after (list_row (order_of order) keeps t) outputs p (Doing [] (Asking (Want.Read 0))) (Saw 0 rec))) (sym place_is)
              (elim (t.halts (records_of known.seen)) as (λ b. Stood y (cond b (Ending (t.code (records_of known.seen))) (place_with order)) (record {
                known = known;
                refused = p.refused;
                phase = begins_plan outputs p.refused (cond b (ends (t.code (records_of known.seen))) (record { acts = in_order (order_of order) (acts_of t.outs (records_of known.seen)) (Takes 0); goal = next_record t (records_of known.seen) }));
              })) [ true ↦ refl | false ↦ at_sight_is known (acts_of t.outs (records_of known.seen)) new none order ]);
        };
        all = λ kept bytes_are is. subst (λ f. AllIs f ((kept.all ++ bytes) ++ 10 ∷ []) (Saw 0 rec ∷ h)) (sym place_is)
            (sight_kept (t.halts (records_of known.seen)) (t.code (records_of known.seen)) order ((kept.all ++ bytes) ++ 10 ∷ []) (Saw 0 rec ∷ h)
            (ap (λ l. (l ++ bytes) ++ 10 ∷ []) is ∙ ap (λ l. (text (taken_from 0 h) ++ l) ++ 10 ∷ []) (sym bytes_are) ∙ sym (text-append (taken_from 0 h) rec)));
        taken = λ kept is taken. taken;
      }

  sees_end : stands x false t (records_of p.known.seen) [] → hand ≡ None → Finishes stands x y → place' ≡ Writing End →
      Next Looking (SawEnd 0) (after (list_row (order_of order) keeps t) outputs p (Doing [] (Asking (Want.Read 0))) (SawEnd 0))
  sees_end stood none finishes place_is =
      let acts = writes (last_pairs t.last (records_of p.known.seen)) in
      let goal : Goal = Ends (t.code (records_of p.known.seen)) in record {
        walk = record {
          flags_are = refl;
          sight_is = sight_is;
          seen_is = seen_is;
          few = one_more _ _ few;
          place_is = λ on. subst (λ f. Stood y f (after (list_row (order_of order) keeps t) outputs p (Doing [] (Asking (Want.Read 0))) (SawEnd 0))) (sym place_is) (
            acts,
            finishes t (records_of p.known.seen) stood,
            ap (λ l. Doing l goal) (live_is outputs p.refused acts) ∙ ap (λ g. Doing (live (open_from 0 outputs p.refused) (held_acts (at_hand_of (records_of p.known.seen)) g ++ acts)) goal) (sym none),
            none_left_of (records_of p.known.seen) none,
          );
        };
        all = λ kept came is. subst (λ f. AllIs f kept.all (SawEnd 0 ∷ h)) (sym place_is) is;
        taken = λ kept is taken. taken;
      }

  looked : (e : Event) → stands x false t (records_of p.known.seen) [] → hand ≡ None → HasRoom h e → answers (Some (Want.Read 0)) e ≡ true → bytes_with looks e ≡ bytes → Hears stands looks order ends_it x Looking (told e) bytes y place' →
      Next Looking e (after (list_row (order_of order) keeps t) outputs p (Doing [] (Asking (Want.Read 0))) e)
  looked (Saw i rec) stood none room fits came heard =
      let zero_is : 0 ≡ i = sym (eqb-true i 0 fits) in
      subst (λ j. Next Looking (Saw j rec) (after (list_row (order_of order) keeps t) outputs p (Doing [] (Asking (Want.Read 0))) (Saw j rec))) zero_is
      (sees rec stood none (let less : length h < 50000000 = room i rec refl in omega (arith, few, less)) (λ on. sym came ∙ ap (λ b. bytes_with b (Saw i rec)) on) heard.0 heard.1)
  looked (SawEnd i) stood none room fits came heard =
      let zero_is : 0 ≡ i = sym (eqb-true i 0 fits) in
      subst (λ j. Next Looking (SawEnd j) (after (list_row (order_of order) keeps t) outputs p (Doing [] (Asking (Want.Read 0))) (SawEnd j))) zero_is (sees_end stood none heard.0 heard.1)
  looked _ stood none room fits came heard = cc

  wrote : (follow : Follow) (left acts : List Act) (q : Pair) (e : Event) → stands x (is_last follow) t (records_of p.known.seen) left →
      ends_it ≡ (not keeps && none_left (list_any (λ flag. flag) outputs) (open_after (told e) (open_from 0 outputs p.refused))) →
      p.phase ≡ Doing acts (goal_behind follow t (records_of p.known.seen)) → first_write acts ≡ Some q →
      when_written acts ≡ live (open_from 0 outputs p.refused) (and_behind follow (held_acts (at_hand_of (records_of p.known.seen)) hand ++ left)) → IsLeftOfRecord (records_of p.known.seen) hand →
      answers (Some (Want.Write q.0 q.1)) e ≡ true → Hears stands looks order ends_it x (Writing follow) (told e) bytes y place' →
      Next (Writing follow) e (after (list_row (order_of order) keeps t) outputs p (Doing acts (goal_behind follow t (records_of p.known.seen))) e)
  wrote follow left acts q (Put o rec) stood ends_is phase_is first rest in_hand fits heard =
      subst (λ z. Next (Writing follow) (Put o rec) z) (sym (after_put (list_row (order_of order) keeps t) outputs p acts (goal_behind follow t (records_of p.known.seen)) q o rec first phase_is)) (record {
        walk = record {
          flags_are = refl;
          sight_is = sight_is;
          seen_is = seen_is;
          few = one_more _ _ few;
          place_is = λ on. placed (Writing follow) (record p { phase = Doing (when_written acts) (goal_behind follow t (records_of p.known.seen)) }) heard.0 heard.1
              (left, stood, ap (λ l. Doing l (goal_behind follow t (records_of p.known.seen))) rest, in_hand);
        };
        all = λ kept came is. subst (λ f. AllIs f kept.all (Put o rec ∷ h)) (sym heard.1) (all_same (Writing follow) kept.all (Put o rec ∷ h) h refl refl is);
        taken = λ kept is taken. taken;
      })
  wrote follow left acts q (Refused o) stood ends_is phase_is first rest in_hand fits heard =
      let goal = goal_behind follow t (records_of p.known.seen) in
      let old = open_from 0 outputs p.refused in
      let now = open_from 0 outputs (o ∷ p.refused) in
      let done = and_behind follow (held_acts (at_hand_of (records_of p.known.seen)) hand ++ left) in
      let gone : ends_it ≡ (not keeps && is_refused outputs (o ∷ p.refused)) =
      ends_is ∙ ap (λ l. not keeps && none_left (list_any (λ flag. flag) outputs) l) (closed_open 0 o outputs p.refused) ∙ ap (λ b. not keeps && b) (sym (refused_is outputs (o ∷ p.refused))) in
      let rest_is : filter (is_live outputs (o ∷ p.refused)) (when_written acts) ≡ live now done = ap (filter (is_live outputs (o ∷ p.refused))) rest ∙ live_refused outputs p.refused o done in
      subst (λ z. Next (Writing follow) (Refused o) z) (sym (after_refused (list_row (order_of order) keeps t) outputs p acts goal q o first (eqb-true o q.0 fits))) (record {
        walk = record {
          flags_are = closed_open 0 o outputs p.refused;
          sight_is = sight_is;
          seen_is = seen_is;
          few = one_more _ _ few;
          place_is = λ on.
              subst (λ l. PlaceIs stands (order_of order) t false y place' hand l (record { known = p.known; refused = o ∷ p.refused; phase = cond (not keeps && is_refused outputs (o ∷ p.refused)) (Doing [] (Ends (pos 0))) (Doing (filter (is_live outputs (o ∷ p.refused)) (when_written acts)) goal) })) (sym (closed_open 0 o outputs p.refused))
              (subst (λ b. PlaceIs stands (order_of order) t false y place' hand now (record { known = p.known; refused = o ∷ p.refused; phase = cond b (Doing [] (Ends (pos 0))) (Doing (filter (is_live outputs (o ∷ p.refused)) (when_written acts)) goal) })) gone
              (subst (λ f. PlaceIs stands (order_of order) t false y f hand now (record { known = p.known; refused = o ∷ p.refused; phase = cond ends_it (Doing [] (Ends (pos 0))) (Doing (filter (is_live outputs (o ∷ p.refused)) (when_written acts)) goal) })) (sym heard.1)
              (subst (λ z. PlaceIs stands (order_of order) t false z (cond ends_it (Ending (pos 0)) (Writing follow)) hand now (record { known = p.known; refused = o ∷ p.refused; phase = cond ends_it (Doing [] (Ends (pos 0))) (Doing (filter (is_live outputs (o ∷ p.refused)) (when_written acts)) goal) })) (sym heard.0)
              (elim ends_it as (λ b. PlaceIs stands (order_of order) t false x (cond b (Ending (pos 0)) (Writing follow)) hand now (record { known = p.known; refused = o ∷ p.refused; phase = cond b (Doing [] (Ends (pos 0))) (Doing (filter (is_live outputs (o ∷ p.refused)) (when_written acts)) goal) })) [
                | true ↦ refl
                | false ↦ (left, stood, ap (λ l. Doing l goal) rest_is, in_hand)
              ]))));
        };
        all = λ kept came is. subst (λ f. AllIs f kept.all (Refused o ∷ h)) (sym heard.1)
            (elim ends_it as (λ b. AllIs (cond b (Ending (pos 0)) (Writing follow)) kept.all (Refused o ∷ h)) [ true ↦ tt | false ↦ all_same (Writing follow) kept.all (Refused o ∷ h) h refl refl is ]);
        taken = λ kept is taken. taken;
      })
  wrote follow left acts q _ stood ends_is phase_is first rest in_hand fits heard = cc

  take_by : (order' : Order) (acts : List Act) → order' ≡ order → stands x false t (records_of p.known.seen) acts → hand ≡ None → IsBeforeTake (order_of order') acts → place' ≡ taken_place order' t (records_of p.known.seen) → (q : Past) →
      q.known.seen ≡ p.known.seen → q.phase ≡ Doing (live (open_from 0 outputs p.refused) acts) (next_record t (records_of p.known.seen)) → Stood x place' q
  take_by WritesFirst acts same stood none before place_is q seen phase_is =
      let stood_there : stands x false t (records_of q.known.seen) [] = subst (λ l. stands x false t (records_of l) []) (sym seen) (subst (stands x false t (records_of p.known.seen)) before stood) in
      subst (λ f. Stood x f q) (sym (place_is ∙ ap (λ l. look_place t (records_of l)) (sym seen)))
      (look_by stands (order_of order) t false x hand (open_from 0 outputs p.refused) q stood_there none
      (phase_is ∙ ap (λ l. Doing (live (open_from 0 outputs p.refused) l) (next_record t (records_of p.known.seen))) before ∙ ap (λ l. Doing [] (next_record t (records_of l))) (sym seen)))
  take_by TakesFirst acts same stood none before place_is q seen phase_is =
      subst (λ f. Stood x f q) (sym place_is) (
        acts,
        subst (λ l. stands x false t (records_of l) acts) (sym seen) stood,
        phase_is ∙ ap (λ l. Doing (live (open_from 0 outputs p.refused) acts) (next_record t (records_of l))) (sym seen)
            ∙ ap (λ g. Doing (live (open_from 0 outputs p.refused) (held_acts (at_hand_of (records_of q.known.seen)) g ++ acts)) (next_record t (records_of q.known.seen))) (sym none),
        none_left_of (records_of q.known.seen) none,
      )

  take_kept : (order' : Order) (all : List ℕ) (g : List Event) → all ≡ text (taken_from 0 g) → AllIs (taken_place order' t (records_of p.known.seen)) all g
  take_kept WritesFirst all g is = (elim (t.stops (records_of p.known.seen)) as (λ b. AllIs (cond b (Ending (t.code (records_of p.known.seen))) Looking) all g) [ true ↦ tt | false ↦ is ])
  take_kept TakesFirst all g is = is

  took : (acts : List Act) (e : Event) → stands x false t (records_of p.known.seen) acts → hand ≡ None → IsBeforeTake (order_of order) acts → answers (Some (Want.Take 0)) e ≡ true → Hears stands looks order ends_it x Taking (told e) bytes y place' →
      Next Taking e (after (list_row (order_of order) keeps t) outputs p (Doing (Takes 0 ∷ live (open_from 0 outputs p.refused) acts) (next_record t (records_of p.known.seen))) e)
  took acts (Took i) stood none before fits heard =
      let place_is : place' ≡ taken_place order t (records_of p.known.seen) = heard.1 false t (records_of p.known.seen) acts stood in
      let one : taken_from 0 (Took i ∷ h) ≡ taken_from 0 h ++ last_seen_on 0 h ∷ [] = ap (λ b. cond b (taken_from 0 h ++ last_seen_on 0 h ∷ []) (taken_from 0 h)) fits in
      let q = after (list_row (order_of order) keeps t) outputs p (Doing (Takes 0 ∷ live (open_from 0 outputs p.refused) acts) (next_record t (records_of p.known.seen))) (Took i) in record {
        walk = record {
          flags_are = refl;
          sight_is = sight_is;
          seen_is = seen_is;
          few = one_more _ _ few;
          place_is = λ on. subst (λ z. Stood z place' q) (sym heard.0) (take_by order acts refl stood none before place_is q refl refl);
        };
        all = λ kept came is. subst (λ f. AllIs f kept.all (Took i ∷ h)) (sym place_is) (take_kept order kept.all (Took i ∷ h) (is ∙ ap text (sym one)));
        taken = λ kept is taken. is ∙ ap text (sym one);
      }
  took acts _ stood none before fits heard = cc

  ended : (code : ℤ) (e : Event) → answers (Some (Want.Done code)) e ≡ true → Hears stands looks order ends_it x (Ending code) (told e) bytes y place' →
      Next (Ending code) e (after (list_row (order_of order) keeps t) outputs p (Doing [] (Ends code)) e)
  ended code (Ended c) fits heard = record {
    walk = record { flags_are = refl; sight_is = sight_is; seen_is = seen_is; few = one_more _ _ few; place_is = λ on. cc };
    all = λ kept came is. subst (λ f. AllIs f kept.all (Ended c ∷ h)) (sym heard.1) tt;
    taken = λ kept is taken. taken;
  }
  ended code _ fits heard = cc

  -- what an event of a place that is still to answer it leads to
  abbrev Leads : Place → Event → Type 0
  Leads f e = Hears stands looks order ends_it x f (told e) bytes y place' → Next f e (after (list_row (order_of order) keeps t) outputs p p.phase e)

  at_looking : (e : Event) → LooksOn stands t x hand p → HasRoom h e → answers (want_in p.phase) e ≡ true → bytes_with looks e ≡ bytes → Leads Looking e
  at_looking e is room fits came heard =
      subst (λ z. Next Looking e (after (list_row (order_of order) keeps t) outputs p z e)) (sym is.2) (looked e is.0 is.1 room (subst (λ z. answers (want_in z) e ≡ true) is.2 fits) came heard)

  at_writing : (follow : Follow) (e : Event) → WritesOn stands t true x follow hand (open_from 0 outputs p.refused) p →
      ends_it ≡ (not keeps && none_left (list_any (λ flag. flag) outputs) (open_after (told e) (open_from 0 outputs p.refused))) → answers (want_in p.phase) e ≡ true → Leads (Writing follow) e
  at_writing follow e is ends_is fits heard =
      let doing = is.2 in
      subst (λ z. Next (Writing follow) e (after (list_row (order_of order) keeps t) outputs p z e)) (sym doing.2)
      (wrote follow is.0 doing.0 doing.1 e is.1 ends_is doing.2 doing.3 doing.4 is.3
      (subst (λ z. answers z e ≡ true) (want_first doing.0 (goal_behind follow t (records_of p.known.seen)) doing.1 doing.3) (subst (λ z. answers (want_in z) e ≡ true) doing.2 fits)) heard)

  at_taking : (e : Event) → TakesOn stands (order_of order) t x hand (open_from 0 outputs p.refused) p → answers (want_in p.phase) e ≡ true → Leads Taking e
  at_taking e is fits heard =
      subst (λ z. Next Taking e (after (list_row (order_of order) keeps t) outputs p z e)) (sym is.4) (took is.0 e is.1 is.2 is.3 (subst (λ z. answers (want_in z) e ≡ true) is.4 fits) heard)

  -- what becomes of a place becomes of one where records are passed on, since nothing is kept there
  passed : (f : Place) (e : Event) (q : Past) → Next f e q → Next Passing e q
  passed f e q next = record { walk = next.walk; all = λ kept came is. absurd is; taken = λ kept is taken. absurd is }

  -- an event is heard there as in the place that asked for it, and as nothing in the others
  passed_writing : (e : Event) → Hears stands looks order ends_it x Passing (told e) bytes y place' → Hears stands looks order ends_it x (Writing Take) (told e) bytes y place'
  passed_writing (Put o rec) heard = heard
  passed_writing (Refused o) heard = heard
  passed_writing _ heard = tt

  passed_taking : (e : Event) → Hears stands looks order ends_it x Passing (told e) bytes y place' → Hears stands looks order ends_it x Taking (told e) bytes y place'
  passed_taking (Took i) heard = heard
  passed_taking _ heard = tt

  passed_looking : (e : Event) → Hears stands looks order ends_it x Passing (told e) bytes y place' → Hears stands looks order ends_it x Looking (told e) bytes y place'
  passed_looking (Saw i rec) heard = heard
  passed_looking (SawEnd i) heard = heard
  passed_looking _ heard = tt

  at_passing : (e : Event) → (WritesOn stands t true x Take hand (open_from 0 outputs p.refused) p ⊎ (TakesOn stands (order_of order) t x hand (open_from 0 outputs p.refused) p ⊎ LooksOn stands t x hand p)) → HasRoom h e →
      ends_it ≡ (not keeps && none_left (list_any (λ flag. flag) outputs) (open_after (told e) (open_from 0 outputs p.refused))) →
      answers (want_in p.phase) e ≡ true → bytes_with looks e ≡ bytes → Leads Passing e
  at_passing e (inl is) room ends_is fits came heard = passed (Writing Take) e (after (list_row (order_of order) keeps t) outputs p p.phase e) (at_writing Take e is ends_is fits (passed_writing e heard))
  at_passing e (inr (inl is)) room ends_is fits came heard = passed Taking e (after (list_row (order_of order) keeps t) outputs p p.phase e) (at_taking e is fits (passed_taking e heard))
  at_passing e (inr (inr is)) room ends_is fits came heard = passed Looking e (after (list_row (order_of order) keeps t) outputs p p.phase e) (at_looking e is room fits came (passed_looking e heard))

  pub by_place : (f : Place) (e : Event) → PlaceIs stands (order_of order) t true x f hand (open_from 0 outputs p.refused) p → HasRoom h e →
      ends_it ≡ (not keeps && none_left (list_any (λ flag. flag) outputs) (open_after (told e) (open_from 0 outputs p.refused))) →
      answers (want_in p.phase) e ≡ true → bytes_with looks e ≡ bytes → Leads f e
  by_place Starting e is room ends_is fits came heard =
      subst (λ z. Next Starting e (after (list_row (order_of order) keeps t) outputs p z e)) (sym is.3) (from_start e is.0 is.1 is.2 (subst (λ z. answers (want_in z) e ≡ true) is.3 fits) heard)
  by_place Committing e is room ends_is fits came heard =
      subst (λ z. Next Committing e (after (list_row (order_of order) keeps t) outputs p z e)) (sym is.3) (from_commit e is.0 is.1 is.2 (subst (λ z. answers (want_in z) e ≡ true) is.3 fits) heard)
  by_place Looking e is room ends_is fits came heard = at_looking e is room fits came heard
  by_place (Writing follow) e is room ends_is fits came heard = at_writing follow e is ends_is fits heard
  by_place Taking e is room ends_is fits came heard = at_taking e is fits heard
  by_place Passing e is room ends_is fits came heard = at_passing e is.1 room ends_is fits came heard
  by_place (Ending code) e is room ends_is fits came heard =
      subst (λ z. Next (Ending code) e (after (list_row (order_of order) keeps t) outputs p z e)) (sym is) (ended code e (subst (λ z. answers (want_in z) e ≡ true) is fits) heard)

-- Asking

-- where nothing is written nothing seen is asked for
plain_seen : (h : List Event) (place : Place) → IsSeenBefore (want_at place) h
plain_seen h Starting = tt
plain_seen h Committing = tt
plain_seen h Looking = tt
plain_seen h Taking = tt
plain_seen h Passing = tt
plain_seen h (Ending code) = tt
plain_seen h (Writing follow) = tt

module _ {L : Type 0} (stands : L → Bool → Stream → Records → List Act → Type 0) (made : L → Option (List ℕ)) (order : RowOrder) (t : Stream) (outputs : List Bool) (h : List Event)
    (x y : L) (hand hand' : Option Repeat) (place' : Place) (flags : List Bool) (asked : Asked) (p : Past) where
  -- what is so when it has asked
  abbrev pub HasAsked : Place → Type 0
  HasAsked from = PlaceIs stands order t true y place' hand' flags p × (Some (meaning asked (last_seen h)) ≡ want_in p.phase) × ((all : List ℕ) → AllIs from all h → AllIs place' all h) × IsSeenBefore asked h

  plainly : (from : Place) → (y ≡ x) × (hand' ≡ hand) × (place' ≡ from) × (asked ≡ want_at from) → PlaceIs stands order t true x from hand flags p → Some (meaning (want_at from) (last_seen h)) ≡ want_in p.phase → HasAsked from
  plainly from asks is want = (
    subst (λ z. PlaceIs stands order t true z place' hand' flags p) (sym asks.0)
        (subst (λ g. PlaceIs stands order t true x place' g flags p) (sym asks.1) (subst (λ f. PlaceIs stands order t true x f hand flags p) (sym asks.2) is)),
    ap (λ a. Some (meaning a (last_seen h))) asks.3 ∙ want,
    λ all kept. subst (λ f. AllIs f all h) (sym asks.2) kept,
    subst (λ a. IsSeenBefore a h) (sym asks.3) (plain_seen h from),
  )

  -- nothing was left to write
  turns : (follow : Follow) (from : Place) → hand' ≡ None → place' ≡ from → asked ≡ want_at place' → PlaceIs stands order t true y from None flags p → Some (meaning (want_at from) (last_seen h)) ≡ want_in p.phase →
      ((all : List ℕ) → AllIs (Writing follow) all h → AllIs from all h) → HasAsked (Writing follow)
  turns follow from none place_is asks is want kept = (
    subst (λ g. PlaceIs stands order t true y place' g flags p) (sym none) (subst (λ f. PlaceIs stands order t true y f None flags p) (sym place_is) is),
    ap (λ a. Some (meaning a (last_seen h))) (asks ∙ ap want_at place_is) ∙ want,
    λ all is. subst (λ f. AllIs f all h) (sym place_is) (kept all is),
    subst (λ a. IsSeenBefore a h) (sym asks) (plain_seen h place'),
  )

  look_want : (stops : Bool) (code : ℤ) → p.phase ≡ Doing [] (cond stops (Ends code) (Asking (Want.Read 0))) → Some (meaning (want_at (cond stops (Ending code) Looking)) (last_seen h)) ≡ want_in p.phase
  look_want true code is = ap want_in (sym is)
  look_want false code is = ap want_in (sym is)

  behind : (follow : Follow) → stands y (is_last follow) t (records_of p.known.seen) [] → hand' ≡ None → place' ≡ place_behind follow t (records_of p.known.seen) → asked ≡ want_at place' →
      p.phase ≡ Doing (and_behind follow []) (goal_behind follow t (records_of p.known.seen)) → HasAsked (Writing follow)
  behind Take stood none place_is asks is = turns Take Taking none place_is asks ([], stood, refl, none_before order, is) (ap want_in (sym is)) (λ all kept. kept)
  behind Look stood none place_is asks is =
      turns Look (look_place t (records_of p.known.seen)) none place_is asks (look_by stands order t true y None flags p stood refl is) (look_want (t.stops (records_of p.known.seen)) (t.code (records_of p.known.seen)) is)
      (λ all kept. (elim (t.stops (records_of p.known.seen)) as (λ b. AllIs (cond b (Ending (t.code (records_of p.known.seen))) Looking) all h) [ true ↦ tt | false ↦ kept ]))
  behind End stood none place_is asks is = turns End (Ending (t.code (records_of p.known.seen))) none place_is asks is (ap want_in (sym is)) (λ all kept. tt)

  -- what a group writes is asked for, by lists that stand for the same as those that gave it
  one : (follow : Follow) (given : L) (g : Group) (rest before : List Act) → last_seen_on 0 h ≡ at_hand_of (records_of p.known.seen) → (0 < length (records_of p.known.seen) → IsSome (record_seen_on 0 h)) →
      IsOfRecord (records_of p.known.seen) g → is_due flags g ≡ true → stands given (is_last follow) t (records_of p.known.seen) rest →
      Puts stands made given g y hand' asked → place' ≡ Writing follow → live flags before ≡ live flags (group_acts (at_hand_of (records_of p.known.seen)) (made given) g ++ rest) →
      p.phase ≡ Doing (live flags (and_behind follow before)) (goal_behind follow t (records_of p.known.seen)) → HasAsked (Writing follow)
  one follow given g rest before sight seen of due stood puts place_is same is =
      let rec = at_hand_of (records_of p.known.seen) in
      let goal = goal_behind follow t (records_of p.known.seen) in
      let pair = pair_of rec (made given) g in
      let first = comes g rec (made given) flags follow rest due in
      let done = live flags (and_behind follow (group_acts rec (made given) g ++ rest)) in
      let acts : live flags (and_behind follow before) ≡ done = live_behind flags follow before ∙ ap (and_behind follow) same ∙ sym (live_behind flags follow (group_acts rec (made given) g ++ rest)) in
      let phase : p.phase ≡ Doing done goal = is ∙ ap (λ l. Doing l goal) acts in
      let put = is_put (is_last follow) given g rest sight seen of puts stood in (
        subst (λ f. PlaceIs stands order t true y f hand' flags p) (sym place_is)
            (rest, put.0, (done, pair, phase, first.0, first.1 ∙ ap (λ z. live flags (and_behind follow (held_acts rec z ++ rest))) (sym put.1)), subst (IsLeftOfRecord (records_of p.known.seen)) (sym put.1) (left_seen (records_of p.known.seen) g of)),
        put.2 ∙ sym (want_first done goal pair first.0) ∙ ap want_in (sym phase),
        λ all kept. subst (λ f. AllIs f all h) (sym place_is) kept,
        put.3,
      )
    where
      is_put : (over : Bool) (given : L) (g : Group) (rest : List Act) → last_seen_on 0 h ≡ at_hand_of (records_of p.known.seen) → (0 < length (records_of p.known.seen) → IsSome (record_seen_on 0 h)) → IsOfRecord (records_of p.known.seen) g → Puts stands made given g y hand' asked → stands given over t (records_of p.known.seen) rest →
          stands y over t (records_of p.known.seen) rest × (hand' ≡ left_of g) × (Some (meaning asked (last_seen h)) ≡ Some (Want.Write (pair_of (at_hand_of (records_of p.known.seen)) (made given) g).0 (pair_of (at_hand_of (records_of p.known.seen)) (made given) g).1)) × IsSeenBefore asked h
      is_put over given (AtHand r) rest sight seen of puts stood = (
        subst (λ z. stands z over t (records_of p.known.seen) rest) (sym puts.0) stood,
        puts.1,
        ap (λ a. Some (meaning a (last_seen h))) puts.2 ∙ ap (λ rec. Some (Want.Write r.output rec)) sight,
        subst (λ a. IsSeenBefore a h) (sym puts.2) (seen of),
      )
      is_put over given (New o) rest sight seen of puts stood =
          (puts.0 over t (records_of p.known.seen) rest stood, puts.1, ap (λ a. Some (meaning a (last_seen h))) puts.2, subst (λ a. IsSeenBefore a h) (sym puts.2) tt)

  asks_at : (follow : Follow) (given : L) (group : Option Group) → last_seen_on 0 h ≡ at_hand_of (records_of p.known.seen) → (0 < length (records_of p.known.seen) → IsSome (record_seen_on 0 h)) → PlaceIs stands order t false x (Writing follow) hand flags p → Fetches stands made flags x hand given group → Turns stands made follow x given group y hand' place' asked → HasAsked (Writing follow)
  asks_at follow given None sight seen is fetches turn =
      let rec = at_hand_of (records_of p.known.seen) in
      let f = fetches (is_last follow) t (records_of p.known.seen) is.0 is.1 in
      behind follow (subst (λ z. stands z (is_last follow) t (records_of p.known.seen) []) (sym turn.0) f.1) turn.1 (turn.2 t (records_of p.known.seen) is.0 [] is.1 f.1) turn.3
      (is.2 ∙ ap (λ l. Doing l (goal_behind follow t (records_of p.known.seen))) (live_behind flags follow (held_acts rec hand ++ is.0) ∙ ap (and_behind follow) f.0))
  asks_at follow given (Some g) sight seen is fetches turn =
      let f = fetches.2 (is_last follow) t (records_of p.known.seen) is.0 is.1 in
      one follow given g f.0 (held_acts (at_hand_of (records_of p.known.seen)) hand ++ is.0) sight seen (f.3 is.3) fetches.0 f.2 turn.0 turn.1 f.1 is.2

  -- it asks for what is wanted
  pub by_want : (from : Place) → last_seen_on 0 h ≡ at_hand_of (records_of p.known.seen) → (0 < length (records_of p.known.seen) → IsSome (record_seen_on 0 h)) → PlaceIs stands order t false x from hand flags p → Asks stands made flags x hand from y hand' place' asked → HasAsked from
  by_want Starting sight seen is asks = plainly Starting asks is (ap want_in (sym is.3))
  by_want Committing sight seen is asks = plainly Committing asks is (ap want_in (sym is.3))
  by_want Looking sight seen is asks = plainly Looking asks is (ap want_in (sym is.2))
  by_want (Writing follow) sight seen is asks = asks_at follow asks.0 asks.1 sight seen is asks.2 asks.3
  by_want Taking sight seen is asks = plainly Taking asks is (ap want_in (sym is.4))
  by_want Passing sight seen is asks = let no : false ≡ true = is.0 in cc
  by_want (Ending code) sight seen is asks = plainly (Ending code) asks is (ap want_in (sym is))
