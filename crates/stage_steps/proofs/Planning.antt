-- The driver of plans, one event on: what it stands for behind an event, and what it asks for then.
use Rattle.std.proofs.Common.{◌≡◌, ◌<◌, ◌≤◌, ℕ, ◌+◌, Bool, true, false, cond, ◌==◌, List, [], ◌∷◌, ◌++◌, length, refl, sym, ◌∙◌, ap, subst, arith, Some, None, Option, ℤ, pos, negsuc}
use Rattle.std.specs.Prelude.{filter, IsSome}
use Rattle.std.specs.List.{list_any}
use Rattle.std.specs.Ordering.{int_eq}
use Rattle.std.proofs.lemmas.Bool.{eqb-true}
use Rattle.std.proofs.lemmas.List.{append-nil, map-append, length-append}
use Rattle.std.proofs.lemmas.List.Elements.{filter-append}
use Rattle.pipe_model.specs.declared.step.Out.{Out}
use Rattle.pipe_model.specs.declared.step.Out.TheVariants.{Same, Fresh}
use Rattle.pipe_model.specs.declared.step.Want.{Want as Asked}
use Rattle.pipe_model.specs.Event.{Event, Want, answers, has_ended, last_seen_on}
use Rattle.pipe_model.specs.Event.Event.{Up, Saw, SawEnd, SawAllEnd, Took, Put, Refused, Primed, Ended}
use Rattle.pipe_model.specs.Inputs.{records_from}
use Rattle.pipe_model.specs.Row.{Pair, Act, Goal, Plan, Known}
use Rattle.pipe_model.specs.Row.Goal.{Asks, Ends}
use Rattle.pipe_model.specs.Shape.{asks, row, at_hand_of, records_of}
use Rattle.pipe_model.specs.Next.{Past, nothing_known, hears, want_in, begins_plan, is_live, is_refused}
use Rattle.pipe_model.specs.Next.Phase.{Doing}
use Rattle.pipe_model.specs.Next.Phase.{Starting as Reaching}
use Rattle.pipe_model.proofs.Pasts.{after, when_asked}
use Rattle.stage_steps.specs.declared.plans.Act.{Act as Acting}
use Rattle.stage_steps.specs.declared.plans.Act.TheVariants.{Write, Take}
use Rattle.stage_steps.specs.declared.plans.Goal.{Goal as Following}
use Rattle.stage_steps.specs.declared.plans.Goal.TheVariants.{Read, Any, Gate, Prime, End}
use Rattle.stage_steps.specs.declared.planned.At.{At as Place}
use Rattle.stage_steps.specs.declared.planned.At.TheVariants as At
use Rattle.stage_steps.specs.Coroutine.{meaning, told, bytes_with, last_seen, record_seen_on, written, IsSeenBefore}
use Rattle.stage_steps.specs.Outputs.{open_after, open_from, live, none_left}
use Rattle.stage_steps.specs.Plans.{act_of, goal_of, known_done, last_from, with_acts, IsOfSeen, Plans}
use Rattle.stage_steps.specs.Planned.{IsLook, AtIs}
use Rattle.stage_steps.specs.Planning.{asked_for, asked_behind, place_behind, HearsPlan, FetchesAct, GoesOn, AsksPlan}
use Rattle.stage_steps.proofs.Acts.{live_is, live_refused}
use Rattle.stage_steps.proofs.Flags.{closed_open, refused_is}
use Rattle.stage_steps.proofs.Walks.{at_hand, one_more}

-- The records of one input, with one more record

abbrev one_by : Bool → List ℕ → List (List ℕ) → List (List ℕ)
one_by b rec recs = cond b (recs ++ rec ∷ []) recs

records_more : (seen : List Pair) (i j : ℕ) (rec : List ℕ) → records_from j (seen ++ (i, rec) ∷ []) ≡ one_by (i == j) rec (records_from j seen)
records_more seen i j rec =
    ap records_of (filter-append (λ (p : Pair). p.0 == j) seen ((i, rec) ∷ []))
    ∙ (elim (i == j) as (λ b. records_of (filter (λ (p : Pair). p.0 == j) seen ++ cond b ((i, rec) ∷ []) []) ≡ one_by b rec (records_from j seen)) [
      | true ↦ map-append (λ (p : Pair). p.1) (filter (λ (p : Pair). p.0 == j) seen) ((i, rec) ∷ [])
      | false ↦ ap records_of (append-nil (filter (λ (p : Pair). p.0 == j) seen))
    ])

-- Where it stands behind an event, before it asks

abbrev pub Behind : {P : Type 0} → (P → (Known → Plan) → Known → Plan → Type 0) → (Known → Plan) → P → Place → List Bool → Past → Type 0
Behind stands plan x At.Committing flags p = stands x plan nothing_known (plan nothing_known) × (p.known ≡ nothing_known) × (p.phase ≡ Reaching (pos 0))
Behind stands plan x At.Doing flags p = (left : Plan) × stands x plan p.known left × (p.phase ≡ Doing (live flags left.acts) left.goal)
Behind stands plan x (At.Ending code) flags p = p.phase ≡ Doing [] (Ends code)
Behind stands plan x _ flags p = ⊥

-- what is so behind an event
pub record Heard {P : Type 0} (stands : P → (Known → Plan) → Known → Plan → Type 0) (plan : Known → Plan) (flags outputs : List Bool) (h : List Event) (y : P) (place : Place) (e : Event) (q : Past) : Type 0 where
  pub flags_are : flags ≡ open_from 0 outputs q.refused
  pub sight_is : (i : ℕ) → last_seen_on i (e ∷ h) ≡ last_from q.known.seen i
  pub seen_is : (i : ℕ) → 0 < length (records_from i q.known.seen) → IsSome (record_seen_on i (e ∷ h))
  pub few : length q.known.seen ≤ length (e ∷ h)
  pub place_is : has_ended (e ∷ h) ≡ false → Behind stands plan y place flags q

module _ {P : Type 0} (stands : P → (Known → Plan) → Known → Plan → Type 0) (looks : Bool) (plan : Known → Plan) (outputs : List Bool) (h : List Event) (bytes : List ℕ) (gives_up : Bool) (x y : P) (place' : Place) (p : Past)
    (sight_is : (i : ℕ) → last_seen_on i h ≡ last_from p.known.seen i) (seen_is : (i : ℕ) → 0 < length (records_from i p.known.seen) → IsSome (record_seen_on i h)) (few : length p.known.seen ≤ length h) where
  abbrev old : List Bool
  old = open_from 0 outputs p.refused

  abbrev Next : Event → Past → Type 0
  Next e q = Heard stands plan (open_after (told e) old) outputs h y place' e q

  abbrev Hears : Place → Event → Type 0
  Hears f e = HearsPlan stands looks gives_up x f (told e) bytes y place'

  -- the plans and the place are those that the event leaves
  placed : (f : Place) (flags : List Bool) (q : Past) → y ≡ x → place' ≡ f → Behind stands plan x f flags q → Behind stands plan y place' flags q
  placed f flags q same is stood = subst (λ z. Behind stands plan z place' flags q) (sym same) (subst (λ f. Behind stands plan x f flags q) (sym is) stood)

  -- a plan is begun
  begun : (z : P) (k : Known) → stands z plan k (plan k) → Behind stands plan z At.Doing old (record { known = k; refused = p.refused; phase = begins_plan outputs p.refused (plan k) })
  begun z k stood = (plan k, stood, ap (λ l. Doing l (plan k).goal) (live_is outputs p.refused (plan k).acts))

  from_start : (e : Event) → stands x plan nothing_known (plan nothing_known) → p.known ≡ nothing_known → answers (Some (Want.Commit (negsuc 0))) e ≡ true → Hears At.Starting e →
      Next e (after (row plan) outputs p (Reaching (negsuc 0)) e)
  from_start (Up l c) stood known fits heard = record {
    flags_are = refl;
    sight_is = sight_is;
    seen_is = seen_is;
    few = one_more _ _ few;
    place_is = λ on. placed (cond (int_eq c (pos 0)) At.Committing (At.Ending (pos 0))) old (record p { phase = cond (int_eq c (pos 0)) (Reaching (pos 0)) (Doing [] (Ends (pos 0))) }) heard.0 heard.1
        (elim (int_eq c (pos 0)) as (λ b. Behind stands plan x (cond b At.Committing (At.Ending (pos 0))) old (record p { phase = cond b (Reaching (pos 0)) (Doing [] (Ends (pos 0))) })) [ true ↦ (stood, known, refl) | false ↦ refl ]);
  }
  from_start _ stood known fits heard = cc

  from_commit : (e : Event) → stands x plan nothing_known (plan nothing_known) → p.known ≡ nothing_known → answers (Some (Want.Commit (pos 0))) e ≡ true → Hears At.Committing e →
      Next e (after (row plan) outputs p (Reaching (pos 0)) e)
  from_commit (Up l c) stood known fits heard = record {
    flags_are = refl;
    sight_is = sight_is;
    seen_is = seen_is;
    few = one_more _ _ few;
    place_is = λ on. placed (cond (int_eq c (pos 0)) At.Doing (At.Ending (pos 0))) old (record p { phase = cond (int_eq c (pos 0)) (begins_plan outputs p.refused (plan p.known)) (Doing [] (Ends (pos 0))) }) heard.0 heard.1
        (elim (int_eq c (pos 0)) as (λ b. Behind stands plan x (cond b At.Doing (At.Ending (pos 0))) old (record p { phase = cond b (begins_plan outputs p.refused (plan p.known)) (Doing [] (Ends (pos 0))) })) [
          | true ↦ begun x p.known (subst (λ k. stands x plan k (plan k)) (sym known) stood)
          | false ↦ refl
        ]);
  }
  from_commit _ stood known fits heard = cc

  -- What it asked to look at

  -- its next plan is begun
  planned : (e : Event) (want : Want) → stands x plan p.known (asks want) → answers (Some want) e ≡ true → length h < 50000000 → Plans stands x y e → place' ≡ At.Doing →
      Behind stands plan y place' old (record { known = hears p.known e; refused = p.refused; phase = begins_plan outputs p.refused (plan (hears p.known e)) })
  planned e want stood fits room plans is =
      subst (λ f. Behind stands plan y f old (record { known = hears p.known e; refused = p.refused; phase = begins_plan outputs p.refused (plan (hears p.known e)) })) (sym is)
      (begun y (hears p.known e) (plans plan p.known want stood fits (omega (arith, few, room))))

  saw : (want : Want) (i : ℕ) (rec : List ℕ) → stands x plan p.known (asks want) → answers (Some want) (Saw i rec) ≡ true → length h < 50000000 → (looks ≡ true → bytes ≡ rec) → Hears At.Asking (Saw i rec) →
      Next (Saw i rec) (after (row plan) outputs p (Doing [] (Asks want)) (Saw i rec))
  saw want i rec stood fits room came heard =
      subst (λ b. Next (Saw i rec) (when_asked (row plan) outputs p (Saw i rec) b)) (sym fits) (record {
        flags_are = refl;
        sight_is = λ j.
            (elim (i == j) as (λ b. cond b rec (last_seen_on j h) ≡ at_hand_of (one_by b rec (records_from j p.known.seen))) [ true ↦ sym (at_hand (records_from j p.known.seen) rec) | false ↦ sight_is j ])
            ∙ ap at_hand_of (sym (records_more p.known.seen i j rec));
        seen_is = λ j some.
            (elim (i == j) as (λ b. 0 < length (one_by b rec (records_from j p.known.seen)) → IsSome (cond b (Some rec) (record_seen_on j h))) [ true ↦ λ more. refl | false ↦ λ more. seen_is j more ])
            (subst (λ (l : List (List ℕ)). 0 < length l) (records_more p.known.seen i j rec) some);
        few = let n : length (p.known.seen ++ (i, rec) ∷ []) ≡ length p.known.seen + 1 = length-append p.known.seen ((i, rec) ∷ []) in omega (arith, n, few);
        place_is = λ on. planned (Saw i rec) want stood fits room (heard.0 rec came) heard.1;
      })

  saw_end : (want : Want) (i : ℕ) → stands x plan p.known (asks want) → answers (Some want) (SawEnd i) ≡ true → length h < 50000000 → Hears At.Asking (SawEnd i) →
      Next (SawEnd i) (after (row plan) outputs p (Doing [] (Asks want)) (SawEnd i))
  saw_end want i stood fits room heard =
      subst (λ b. Next (SawEnd i) (when_asked (row plan) outputs p (SawEnd i) b)) (sym fits)
      (record { flags_are = refl; sight_is = sight_is; seen_is = seen_is; few = one_more _ _ few; place_is = λ on. planned (SawEnd i) want stood fits room heard.0 heard.1 })

  saw_all_end : (want : Want) → stands x plan p.known (asks want) → answers (Some want) SawAllEnd ≡ true → length h < 50000000 → Hears At.Asking SawAllEnd →
      Next SawAllEnd (after (row plan) outputs p (Doing [] (Asks want)) SawAllEnd)
  saw_all_end want stood fits room heard =
      subst (λ b. Next SawAllEnd (when_asked (row plan) outputs p SawAllEnd b)) (sym fits)
      (record { flags_are = refl; sight_is = sight_is; seen_is = seen_is; few = one_more _ _ few; place_is = λ on. planned SawAllEnd want stood fits room heard.0 heard.1 })

  primed_is : (primed : Bool) → stands x plan p.known (asks Want.Prime) → length h < 50000000 → Hears At.Asking (Primed primed) →
      Next (Primed primed) (after (row plan) outputs p (Doing [] (Asks Want.Prime)) (Primed primed))
  primed_is primed stood room heard =
      record { flags_are = refl; sight_is = sight_is; seen_is = seen_is; few = one_more _ _ few; place_is = λ on. planned (Primed primed) Want.Prime stood refl room heard.0 heard.1 }

  looked : (want : Want) (e : Event) → IsLook want → stands x plan p.known (asks want) → answers (Some want) e ≡ true → length h < 50000000 → bytes_with looks e ≡ bytes → Hears At.Asking e →
      Next e (after (row plan) outputs p (Doing [] (Asks want)) e)
  looked (Want.Read i) (Saw j rec) look stood fits room came heard = saw (Want.Read i) j rec stood fits room (λ on. sym came ∙ ap (λ b. bytes_with b (Saw j rec)) on) heard
  looked (Want.Read i) (SawEnd j) look stood fits room came heard = saw_end (Want.Read i) j stood fits room heard
  looked (Want.Read i) _ look stood fits room came heard = cc
  looked Want.Any (Saw j rec) look stood fits room came heard = saw Want.Any j rec stood fits room (λ on. sym came ∙ ap (λ b. bytes_with b (Saw j rec)) on) heard
  looked Want.Any SawAllEnd look stood fits room came heard = saw_all_end Want.Any stood fits room heard
  looked Want.Any _ look stood fits room came heard = cc
  looked Want.Gate (Saw j rec) look stood fits room came heard = saw Want.Gate j rec stood fits room (λ on. sym came ∙ ap (λ b. bytes_with b (Saw j rec)) on) heard
  looked Want.Gate (SawEnd j) look stood fits room came heard = saw_end Want.Gate j stood fits room heard
  looked Want.Gate _ look stood fits room came heard = cc
  looked Want.Prime (Primed primed) look stood fits room came heard = primed_is primed stood room heard
  looked Want.Prime _ look stood fits room came heard = cc
  looked _ e look stood fits room came heard = absurd look

  -- What it asked to do

  did : (act : Acting) (rest : List Act) (goal : Goal) (e : Event) → stands x plan (known_done (act_of act p.known.seen) p.known) (record { acts = rest; goal = goal }) →
      gives_up ≡ none_left (list_any (λ flag. flag) outputs) (open_after (told e) old) → answers (want_in (Doing (act_of act p.known.seen ∷ live old rest) goal)) e ≡ true → Hears At.Doing e →
      Next e (after (row plan) outputs p (Doing (act_of act p.known.seen ∷ live old rest) goal) e)
  did (Write o out) rest goal (Put o' rec) stood ends_is fits heard = record {
    flags_are = refl;
    sight_is = sight_is;
    seen_is = seen_is;
    few = one_more _ _ few;
    place_is = λ on. placed At.Doing old (record p { phase = Doing (live old rest) goal }) heard.0 heard.1 (record { acts = rest; goal = goal }, stood, refl);
  }
  did (Write o out) rest goal (Refused q) stood ends_is fits heard =
      let now = open_from 0 outputs (q ∷ p.refused) in
      let gone : gives_up ≡ is_refused outputs (q ∷ p.refused) = ends_is ∙ ap (none_left (list_any (λ flag. flag) outputs)) (closed_open 0 q outputs p.refused) ∙ sym (refused_is outputs (q ∷ p.refused)) in
      let new : Bool → Past = λ b. record { known = p.known; refused = q ∷ p.refused; phase = cond b (Doing [] (Ends (pos 0))) (Doing (filter (is_live outputs (q ∷ p.refused)) (live old rest)) goal) } in record {
        flags_are = closed_open 0 q outputs p.refused;
        sight_is = sight_is;
        seen_is = seen_is;
        few = one_more _ _ few;
        place_is = λ on. subst (λ l. Behind stands plan y place' l (new (is_refused outputs (q ∷ p.refused)))) (sym (closed_open 0 q outputs p.refused))
            (subst (λ b. Behind stands plan y place' now (new b)) gone
            (placed (cond gives_up (At.Ending (pos 0)) At.Doing) now (new gives_up) heard.0 heard.1
            (elim gives_up as (λ b. Behind stands plan x (cond b (At.Ending (pos 0)) At.Doing) now (new b)) [
              | true ↦ refl
              | false ↦ (record { acts = rest; goal = goal }, stood, ap (λ l. Doing l goal) (live_refused outputs p.refused q rest))
            ])));
      }
  did (Take i) rest goal (Took j) stood ends_is fits heard =
      let same : i ≡ j = sym (eqb-true j i fits) in record {
        flags_are = refl;
        sight_is = sight_is;
        seen_is = seen_is;
        few = one_more _ _ few;
        place_is = λ on. placed At.Doing old (record { known = known_done (Act.Takes j) p.known; refused = p.refused; phase = Doing (live old rest) goal }) heard.0 heard.1
            (record { acts = rest; goal = goal }, subst (λ n. stands x plan (known_done (Act.Takes n) p.known) (record { acts = rest; goal = goal })) same stood, refl);
      }
  did (Write o out) rest goal _ stood ends_is fits heard = cc
  did (Take i) rest goal _ stood ends_is fits heard = cc

  ended : (code : ℤ) (e : Event) → answers (Some (Want.Done code)) e ≡ true → Hears (At.Ending code) e → Next e (after (row plan) outputs p (Doing [] (Ends code)) e)
  ended code (Ended c) fits heard = record { flags_are = refl; sight_is = sight_is; seen_is = seen_is; few = one_more _ _ few; place_is = λ on. cc }
  ended code _ fits heard = cc

  -- behind an event that answers what it asked for
  pub behind_event : (f : Place) (e : Event) → AtIs stands plan x f old p → length h < 50000000 → gives_up ≡ none_left (list_any (λ flag. flag) outputs) (open_after (told e) old) →
      answers (want_in p.phase) e ≡ true → bytes_with looks e ≡ bytes → Hears f e → Next e (after (row plan) outputs p p.phase e)
  behind_event At.Starting e is room ends_is fits came heard =
      subst (λ z. Next e (after (row plan) outputs p z e)) (sym is.2) (from_start e is.0 is.1 (subst (λ z. answers (want_in z) e ≡ true) is.2 fits) heard)
  behind_event At.Committing e is room ends_is fits came heard =
      subst (λ z. Next e (after (row plan) outputs p z e)) (sym is.2) (from_commit e is.0 is.1 (subst (λ z. answers (want_in z) e ≡ true) is.2 fits) heard)
  behind_event At.Doing e is room ends_is fits came heard =
      subst (λ z. Next e (after (row plan) outputs p z e)) (sym is.3) (did is.0 is.1 is.2 e is.4 ends_is (subst (λ z. answers (want_in z) e ≡ true) is.3 fits) heard)
  behind_event At.Asking e is room ends_is fits came heard =
      subst (λ z. Next e (after (row plan) outputs p z e)) (sym is.2) (looked is.0 e is.1 is.3 (subst (λ z. answers (want_in z) e ≡ true) is.2 fits) room came heard)
  behind_event (At.Ending code) e is room ends_is fits came heard =
      subst (λ z. Next e (after (row plan) outputs p z e)) (sym is) (ended code e (subst (λ z. answers (want_in z) e ≡ true) is fits) heard)

-- What it asks for then

-- it stands where it asked for what is wanted
abbrev pub HasAsked : {P : Type 0} (stands : P → (Known → Plan) → Known → Plan → Type 0) (plan : Known → Plan) (flags : List Bool) (h : List Event) (y : P) (place : Place) (asked : Asked) (p : Past) → Type 0
HasAsked stands plan flags h y place asked p = AtIs stands plan y place flags p × (Some (meaning asked (last_seen h)) ≡ want_in p.phase) × IsSeenBefore asked h

module _ {P : Type 0} (stands : P → (Known → Plan) → Known → Plan → Type 0) (plan : Known → Plan) (flags : List Bool) (h : List Event) (x y : P) (place' : Place) (asked : Asked) (p : Past)
    (sight_is : (i : ℕ) → last_seen_on i h ≡ last_from p.known.seen i) (seen_is : (i : ℕ) → 0 < length (records_from i p.known.seen) → IsSome (record_seen_on i h)) where
  abbrev IsAsked : Type 0
  IsAsked = HasAsked stands plan flags h y place' asked p

  stood_at : (f : Place) (a : Asked) → place' ≡ f → asked ≡ a → AtIs stands plan y f flags p → Some (meaning a (last_seen h)) ≡ want_in p.phase → IsSeenBefore a h → IsAsked
  stood_at f a place_is asked_is is want seen =
      (subst (λ f. AtIs stands plan y f flags p) (sym place_is) is, ap (λ a. Some (meaning a (last_seen h))) asked_is ∙ want, subst (λ a. IsSeenBefore a h) (sym asked_is) seen)

  out_is : (out : Out) → written out (last_seen h) ≡ written out (last_from p.known.seen)
  out_is (Same i) = sight_is i
  out_is (Fresh rec) = refl

  act_want : (act : Acting) (acts : List Act) (goal : Goal) → Some (meaning (asked_for act) (last_seen h)) ≡ want_in (Doing (act_of act p.known.seen ∷ acts) goal)
  act_want (Write o out) acts goal = ap (λ rec. Some (Want.Write o rec)) (out_is out)
  act_want (Take i) acts goal = refl

  act_seen : (act : Acting) → IsOfSeen act p.known.seen → IsSeenBefore (asked_for act) h
  act_seen (Write o (Same i)) some = seen_is i some
  act_seen (Write o (Fresh rec)) some = tt
  act_seen (Take i) some = tt

  follows : (goal : Following) → stands y plan p.known (record { acts = []; goal = goal_of goal }) → place' ≡ place_behind goal → asked ≡ asked_behind goal → p.phase ≡ Doing [] (goal_of goal) → IsAsked
  follows (Read i) stood place_is asked_is is = stood_at At.Asking (asked_behind (Read i)) place_is asked_is (Want.Read i, tt, is, stood) (ap want_in (sym is)) tt
  follows Any stood place_is asked_is is = stood_at At.Asking (asked_behind Any) place_is asked_is (Want.Any, tt, is, stood) (ap want_in (sym is)) tt
  follows Gate stood place_is asked_is is = stood_at At.Asking (asked_behind Gate) place_is asked_is (Want.Gate, tt, is, stood) (ap want_in (sym is)) tt
  follows Prime stood place_is asked_is is = stood_at At.Asking (asked_behind Prime) place_is asked_is (Want.Prime, tt, is, stood) (ap want_in (sym is)) tt
  follows (End code) stood place_is asked_is is = stood_at (At.Ending code) (asked_behind (End code)) place_is asked_is is (ap want_in (sym is)) tt

  goes_on : (given : Option Acting) → Behind stands plan x At.Doing flags p → FetchesAct stands flags x y given → GoesOn stands y given place' asked → IsAsked
  goes_on (Some act) is fetches goes =
      let left = is.0 in
      let f = fetches plan p.known left is.1 in
      let phase : p.phase ≡ Doing (act_of act p.known.seen ∷ live flags f.0) left.goal = is.2 ∙ ap (λ l. Doing l left.goal) f.1 in
      stood_at At.Doing (asked_for act) goes.0 goes.1 (act, f.0, left.goal, phase, f.2) (act_want act (live flags f.0) left.goal ∙ ap want_in (sym phase)) (act_seen act f.3)
  goes_on None is fetches goes =
      let left = is.0 in
      let f = fetches plan p.known left is.1 in
      let goal_is : left.goal ≡ goal_of goes.0 = goes.1 plan p.known (with_acts [] left) f.1 refl in
      follows goes.0 (subst (λ goal. stands y plan p.known (record { acts = []; goal = goal })) goal_is f.1) goes.2 goes.3 (is.2 ∙ ap (λ l. Doing l left.goal) f.0 ∙ ap (Doing []) goal_is)

  pub asks_then : (f : Place) → Behind stands plan x f flags p → AsksPlan stands flags x f y place' asked → IsAsked
  asks_then At.Starting is asks = absurd is
  asks_then At.Asking is asks = absurd is
  asks_then At.Committing is asks =
      stood_at At.Committing (Asked.Commit (pos 0)) asks.1 asks.2 (subst (λ z. AtIs stands plan z At.Committing flags p) (sym asks.0) is) (ap want_in (sym is.2)) tt
  asks_then At.Doing is asks = goes_on asks.0 is asks.1 asks.2
  asks_then (At.Ending code) is asks = stood_at (At.Ending code) (Asked.Done code) asks.1 asks.2 is (ap want_in (sym is)) tt
