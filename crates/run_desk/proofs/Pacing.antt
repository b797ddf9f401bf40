-- The pace of the wires is kept by a turn and by a strand that comes home.
use Rattle.std.proofs.Common.{◌≡◌, ◌≢◌, ◌⊎◌, inl, inr, ℕ, ◌+◌, ◌<◌, nat_lt, Bool, true, false, cond, ◌&&◌, ◌||◌, not, ◌==◌, ℤ, List, [], ◌∷◌, length, drop, refl, sym, ◌∙◌, ap, subst, arith, Option, Some, None, is_some, slice_get}
use Rattle.std.specs.Prelude.{IsSome}
use Rattle.std.specs.Option.{option_map}
use Rattle.std.proofs.lemmas.Bool.{eqb-true, ltb-true}
use Rattle.pipe_model.specs.declared.net.Net.{Net}
use Rattle.pipe_model.specs.declared.net.Strand.{Strand}
use Rattle.pipe_model.specs.declared.step.Want.{Want as Coming}
use Rattle.pipe_model.specs.declared.step.Want.TheVariants as come
use Rattle.pipe_model.specs.declared.step.Seen.TheVariants as Told
use Rattle.pipe_model.specs.Event.{Event, Want, has_ended, in_sight, answers}
use Rattle.pipe_model.specs.Event.Event.{Up, Saw, SawEnd, SawAllEnd, Took, Put, Refused, Primed, Opened, Joined, Severed, Ended}
use Rattle.pipe_model.specs.Event.Want.{Take}
use Rattle.pipe_model.specs.Next.{IsOwn}
use Rattle.pipe_model.specs.State.{Who, State, past, strand_at, with_event}
use Rattle.pipe_model.specs.Licence.{Left, want_after, want_at, licence, sight_of}
use Rattle.pipe_model.specs.WellFormed.{IsWellFormed}
use Rattle.pipe_model.proofs.Truths.{both, not_second}
use Rattle.pipe_model.proofs.Numbers.{equal_or_not, test_same}
use Rattle.pipe_model.proofs.Lists.{beside, length_more}
use Rattle.stage_steps.specs.Coroutine.{told}
use Rattle.confluence_laws.proofs.Basics.{at_same, at_other, not_ended, took_asked}
use Rattle.confluence_laws.proofs.Owns.{answer_fits, sight_before}
use Rattle.confluence_laws.proofs.Fitting.{wants_take}
use Rattle.record_pool.specs.PoolState.{PoolState}
use Rattle.connectors.specs.WireState.{WireState, IsPaced, at_hand, hand_of, taken, settled, cleared, lined_up}
use Rattle.run_desk.specs.declared.seat.Ask.TheVariants as Now
use Rattle.run_desk.specs.Desk.{DeskState}
use Rattle.run_desk.specs.Telling as Telling
use Rattle.run_desk.specs.Standing.{DeskStands}
use Rattle.run_desk.specs.Turns.{list_changed_behind, wires_changed, in_shut, out_shut, desk_after_turn, offers, desk_at_home, desk_at_home_writing, ask_for, CanAsk, CanCome, HasCome}
use Rattle.run_desk.specs.Holding.{IsPacing}
use Rattle.run_desk.proofs.Behind.{now_behind, behind_in, behind_out}
use Rattle.run_desk.proofs.Pooled.{IsRoomy}
use Rattle.run_desk.proofs.Sees.{seen_is}
use Rattle.run_desk.proofs.Tells.{Fact, tells}
use Rattle.run_desk.proofs.Wants.{put_wanted, offer_there}

-- Wires

-- a wire is as far as its kind allows, and has a place reserved exactly for what is offered on a queue
record IsSteady (wire : WireState) : Type 0 where
  paced : IsPaced wire.offer wire.puts wire.tooks wire.queue
  roomy : IsRoomy wire

-- the wires have the same offer and queue, and are as far
record IsLike (wire old : WireState) : Type 0 where
  offer : wire.offer ≡ old.offer
  puts : wire.puts ≡ old.puts
  tooks : wire.tooks ≡ old.tooks
  queue : wire.queue ≡ old.queue
  reserved : wire.reserved ≡ old.reserved

like_steady : (wire old : WireState) → IsLike wire old → IsSteady old → IsSteady wire
like_steady wire old is was = record {
  paced = subst (IsPaced wire.offer wire.puts wire.tooks) (sym is.queue)
      (subst (λ n. IsPaced wire.offer wire.puts n old.queue) (sym is.tooks) (subst (λ n. IsPaced wire.offer n old.tooks old.queue) (sym is.puts)
      (subst (λ x. IsPaced x old.puts old.tooks old.queue) (sym is.offer) was.paced)));
  roomy = is.reserved ∙ was.roomy ∙ ap (λ q. is_some q && is_some old.offer) (sym is.queue) ∙ ap (λ x. is_some wire.queue && is_some x) (sym is.offer);
}

like_hand : (wire old : WireState) → IsLike wire old → IsSome (at_hand old) → IsSome (at_hand wire)
like_hand wire old is hand = subst IsSome (sym (ap (hand_of wire) is.queue ∙ by_queue old.queue)) hand
  where
    by_queue : (q : Option (List ℕ)) → hand_of wire q ≡ hand_of old q
    by_queue None = ap (λ z. cond (z == wire.tooks) wire.offer None) is.puts ∙ ap (λ z. cond (old.puts == z) wire.offer None) is.tooks ∙ ap (λ z. cond (old.puts == old.tooks) z None) is.offer
    by_queue (Some waiting) = refl

both_like : (wire mid old : WireState) → IsLike wire mid → IsLike mid old → IsLike wire old
both_like wire mid old a b = record { offer = a.offer ∙ b.offer; puts = a.puts ∙ b.puts; tooks = a.tooks ∙ b.tooks; queue = a.queue ∙ b.queue; reserved = a.reserved ∙ b.reserved }

-- a change that leaves a wire so leaves all of them so
all_like : (f : WireState → WireState) → ((wire : WireState) → IsLike (f wire) wire) → (doors : List (Option ℕ)) (wires : List WireState) (j : ℕ) (wire : WireState) →
    slice_get (wires_changed f doors wires) j ≡ Some wire → (old : WireState) × (slice_get wires j ≡ Some old) × IsLike wire old
all_like f like [] wires j wire at = (wire, at, record { offer = refl; puts = refl; tooks = refl; queue = refl; reserved = refl })
all_like f like (door ∷ doors) wires j wire at =
    let r = all_like f like doors (list_changed_behind wires f door) j wire at in
    elim (now_behind wires f door j r.0 r.1) [
      | inl before ↦ (r.0, before.0, r.2)
      | inr now ↦
          let one : IsLike r.0 now.0 = subst (λ z. IsLike z now.0) (sym now.2) (like now.0) in
          (now.0, now.1, both_like wire r.0 now.0 r.2 one)
    ]

-- a record at hand at a rendezvous is an offer on a wire with as many puts as takes
even_hand : (wire : WireState) → IsSome (hand_of wire None) → (wire.puts ≡ wire.tooks) × IsSome wire.offer
even_hand wire hand = go (wire.puts == wire.tooks) refl hand
  where
    go : (b : Bool) → (wire.puts == wire.tooks) ≡ b → IsSome (cond b wire.offer None) → (wire.puts ≡ wire.tooks) × IsSome wire.offer
    go true e p = (eqb-true _ _ e, p)
    go false e p = cc

-- Changes of a wire

-- the record at hand is taken
steady_taken : (wire : WireState) → IsSome (at_hand wire) → IsSteady wire → IsSteady (taken wire)
steady_taken wire hand was = record { paced = by_queue wire.queue hand was.paced; roomy = was.roomy ∙ ap (λ b. b && is_some wire.offer) (still wire.queue) }
  where
    still : (q : Option (List ℕ)) → is_some q ≡ is_some (option_map (drop 1) q)
    still None = refl
    still (Some waiting) = refl

    by_queue : (q : Option (List ℕ)) → IsSome (hand_of wire q) → IsPaced wire.offer wire.puts wire.tooks q → IsPaced wire.offer wire.puts (wire.tooks + 1) (option_map (drop 1) q)
    by_queue None shown pace = let h = even_hand wire shown in inr (ap (λ z. z + 1) (sym h.0), h.1)
    by_queue (Some []) shown pace = cc
    by_queue (Some (grip ∷ more)) shown pace = omega (arith, pace)

-- what is put on a rendezvous was taken
was_ahead : (wire : WireState) → wire.queue ≡ None → Telling.can_put (Some wire) ≡ true → wire.puts < wire.tooks
was_ahead wire is may = ltb-true wire.puts wire.tooks (ap (λ q. is_some q || nat_lt wire.puts wire.tooks) (sym is) ∙ may)

-- the record that is offered is put
steady_settled : (wire : WireState) → Telling.can_put (Some wire) ≡ true → IsSome wire.offer → IsSteady wire → IsSteady (settled wire)
steady_settled wire may there was = record { paced = by_queue wire.queue refl was.paced; roomy = sym (not_second (is_some (settled wire).queue) false refl) }
  where
    by_offer : (waiting : List ℕ) (x : Option ℕ) → IsSome x → wire.puts ≡ wire.tooks + length waiting → IsPaced None (wire.puts + 1) wire.tooks (lined_up (Some waiting) x)
    by_offer waiting None some pace = cc
    by_offer waiting (Some grip) some pace = omega (arith, pace, length_more waiting grip)

    level : wire.puts < wire.tooks → IsPaced wire.offer wire.puts wire.tooks None → IsPaced None (wire.puts + 1) wire.tooks None
    level less (inl e) = absurd (omega (arith, less, e))
    level less (inr p) = inl p.0

    by_queue : (q : Option (List ℕ)) → wire.queue ≡ q → IsPaced wire.offer wire.puts wire.tooks q → IsPaced None (wire.puts + 1) wire.tooks (lined_up q wire.offer)
    by_queue None is pace = level (was_ahead wire is may) pace
    by_queue (Some waiting) is pace = by_offer waiting wire.offer there pace

-- a record at hand in a queue stays there
settled_hand : (wire : WireState) → Telling.can_put (Some wire) ≡ true → IsSome (at_hand wire) → IsSome (at_hand (settled wire))
settled_hand wire may hand = by_queue wire.queue refl hand
  where
    by_offer : (waiting : List ℕ) (x : Option ℕ) → IsSome (slice_get waiting 0) → IsSome (hand_of (settled wire) (lined_up (Some waiting) x))
    by_offer [] x some = cc
    by_offer (grip ∷ more) None some = refl
    by_offer (grip ∷ more) (Some offer) some = refl

    by_queue : (q : Option (List ℕ)) → wire.queue ≡ q → IsSome (hand_of wire q) → IsSome (hand_of (settled wire) (lined_up q wire.offer))
    by_queue None is some = absurd (omega (arith, (even_hand wire some).0, was_ahead wire is may))
    by_queue (Some waiting) is some = by_offer waiting wire.offer some

-- where an offer may be refused, the wire is a rendezvous whose consumer takes no more, and all that was put was taken
refusal_is : (wire : WireState) → Telling.can_refuse (Some wire) ≡ true → (wire.queue ≡ None) × (wire.in_closed ≡ true) × (Telling.is_even wire ≡ true)
refusal_is wire may =
    let b = both (not (is_some wire.queue)) (wire.in_closed && Telling.is_even wire) may in
    let c = both wire.in_closed (Telling.is_even wire) b.1 in
    (none wire.queue b.0, c.0, c.1)
  where
    none : (q : Option (List ℕ)) → not (is_some q) ≡ true → q ≡ None
    none None e = refl
    none (Some waiting) e = cc

-- it goes
steady_cleared : (wire : WireState) → Telling.can_refuse (Some wire) ≡ true → IsSteady wire → IsSteady (cleared wire)
steady_cleared wire may was =
    let is = refusal_is wire may in
    let even : IsPaced None wire.puts wire.tooks None = inl (sym (eqb-true _ _ is.2)) in
    record {
      paced = subst (IsPaced None wire.puts wire.tooks) (sym is.0) even;
      roomy = was.roomy ∙ ap (λ q. is_some q && is_some wire.offer) is.0 ∙ sym (not_second (is_some wire.queue) false refl);
    }

-- a record is offered where none was
steady_offers : (grip : ℕ) (wire : WireState) → wire.offer ≡ None → IsSteady wire → IsSteady (offers grip wire)
steady_offers grip wire none was = record { paced = by_queue wire.queue was.paced; roomy = both_true (is_some wire.queue) }
  where
    both_true : (b : Bool) → b ≡ (b && true)
    both_true true = refl
    both_true false = refl

    by_queue : (q : Option (List ℕ)) → IsPaced wire.offer wire.puts wire.tooks q → IsPaced (Some grip) wire.puts wire.tooks q
    by_queue None (inl e) = inl e
    by_queue None (inr p) = let no : false ≡ true = sym (ap is_some none) ∙ p.1 in cc
    by_queue (Some waiting) pace = pace

-- and only in a queue was one at hand
offered_hand : (grip : ℕ) (wire : WireState) → wire.offer ≡ None → IsSome (at_hand wire) → IsSome (at_hand (offers grip wire))
offered_hand grip wire none hand = by_queue wire.queue hand
  where
    by_queue : (q : Option (List ℕ)) → IsSome (hand_of wire q) → IsSome (hand_of (offers grip wire) q)
    by_queue None some = let no : false ≡ true = sym (ap is_some none) ∙ (even_hand wire some).1 in cc
    by_queue (Some waiting) some = some

-- A turn

module _ (net : Net) (texts : ℕ → List ℕ) (st : State) (left : Left) (d : DeskState) (s : Who) (k : ℕ) (formed : IsWellFormed net)
    (own : (t : Who) (q : Strand) → strand_at net st t ≡ Some q → IsOwn q (past st t)) (kept : DeskStands net texts st left d) (pacing : IsPacing st d) where
  -- where nothing is asked for, nothing is answered
  asks : (e : Event) → answers (want_at net st left s) e ≡ true → (want : Want) × (want_at net st left s ≡ Some want)
  asks e ans = go (want_at net st left s) refl ans
    where
      go : (x : Option Want) → want_at net st left s ≡ x → answers x e ≡ true → (want : Want) × (want_at net st left s ≡ Some want)
      go None is p = cc
      go (Some want) is p = (want, is)

  given_all : (b : Bool) (x : Option Want) (want : Want) → cond b None x ≡ Some want → x ≡ Some want
  given_all true x want e = cc
  given_all false x want e = e

  -- the pace of a desk with these wires
  with_wires : (now : State) (new : DeskState) (wires : List WireState) → new.wires ≡ wires → new.doors ≡ d.doors →
      ((j : ℕ) (wire : WireState) → slice_get wires j ≡ Some wire → IsSteady wire) →
      ((t : Who) (i j : ℕ) (wire : WireState) → has_ended (past now t) ≡ false → in_sight i (past now t) ≡ true → Telling.in_door d t i ≡ Some j → slice_get wires j ≡ Some wire → IsSome (at_hand wire)) →
      IsPacing now new
  with_wires now new wires wires_are doors_are steady shown = record {
    paced = λ j wire at. (steady j wire (sym (ap (λ z. slice_get z j) wires_are) ∙ at)).paced;
    roomy = λ j wire at. (steady j wire (sym (ap (λ z. slice_get z j) wires_are) ∙ at)).roomy;
    shown = λ t i wire going sight at. by_door t i wire going sight (Telling.in_door d t i) refl
        (sym (ap (λ z. Telling.through z (Telling.in_door new t i)) wires_are ∙ ap (λ z. Telling.through wires (Telling.joined (slice_get (Telling.inputs_of (slice_get z t)) i))) doors_are) ∙ at);
  }
    where
      by_door : (t : Who) (i : ℕ) (wire : WireState) → has_ended (past now t) ≡ false → in_sight i (past now t) ≡ true → (x : Option ℕ) → Telling.in_door d t i ≡ x → Telling.through wires x ≡ Some wire → IsSome (at_hand wire)
      by_door t i wire going sight None door at = cc
      by_door t i wire going sight (Some j) door at = shown t i j wire going sight door at

  -- how far a wire was
  was_steady : (j : ℕ) (wire : WireState) → slice_get d.wires j ≡ Some wire → IsSteady wire
  was_steady j wire at = record { paced = pacing.paced j wire at; roomy = pacing.roomy j wire at }

  -- what was at hand
  was_shown : (t : Who) (i j : ℕ) (wire : WireState) → has_ended (past st t) ≡ false → in_sight i (past st t) ≡ true → Telling.in_door d t i ≡ Some j → slice_get d.wires j ≡ Some wire → IsSome (at_hand wire)
  was_shown t i j wire going sight door at = pacing.shown t i wire going sight (ap (Telling.through d.wires) door ∙ at)

  -- a wire behind two doors is behind one
  one_door : (t u : Who) (i m j : ℕ) (wire : WireState) → slice_get d.wires j ≡ Some wire → Telling.in_door d t i ≡ Some j → Telling.in_door d u m ≡ Some j → (t ≡ u) × (i ≡ m)
  one_door t u i m j wire at door other =
      let link = beside d.wires net.links j wire kept.laid.wire_count at in
      let a = behind_in net st d kept.laid t i j link.0 door link.1 in
      let b = behind_in net st d kept.laid u m j link.0 other link.1 in
      (sym a.0 ∙ b.0, sym a.1 ∙ b.1)

  module _ (e : Event) (may : licence net st left s k ≡ Some e) where
    answer_is : answers (want_at net st left s) e ≡ true
    answer_is = answer_fits (sight_of net st left s) (λ text. refl) k e (want_at net st left s) may

    goes : has_ended (past st s) ≡ false
    goes =
        let a = asks e answer_is in
        not_ended (strand_at net st s) (past st s) a.0 (given_all (left s) (want_after (strand_at net st s) (past st s)) a.0 a.1)

    told_is : Fact d s (told e)
    told_is = tells d s k (told e) (Telling.ask_at d s) (seen_is net texts st left d formed kept s k ∙ ap (option_map told) may)

    -- who hasn't ended hadn't
    went : (t : Who) → has_ended (past (with_event st s e) t) ≡ false → has_ended (past st t) ≡ false
    went t going = elim (equal_or_not t s) [
      | inl is ↦ ap (λ z. has_ended (past st z)) is ∙ goes
      | inr apart ↦ sym (ap has_ended (at_other st s e t apart)) ∙ going
    ]

    -- what is in sight was, but for a record that is seen now
    saw : (t : Who) (i : ℕ) → in_sight i (past (with_event st s e) t) ≡ true → (in_sight i (past st t) ≡ true) ⊎ ((t ≡ s) × (rec : List ℕ) × (e ≡ Saw i rec))
    saw t i sight = elim (equal_or_not t s) [
      | inl is ↦ by_sight is (sight_before i e (past st s) (sym (ap (in_sight i) (ap (past (with_event st s e)) is ∙ at_same st s e)) ∙ sight))
      | inr apart ↦ inl (sym (ap (in_sight i) (at_other st s e t apart)) ∙ sight)
    ]
      where
        by_sight : t ≡ s → (in_sight i (past st s) ≡ true) ⊎ ((rec : List ℕ) × (e ≡ Saw i rec)) → (in_sight i (past st t) ≡ true) ⊎ ((t ≡ s) × (rec : List ℕ) × (e ≡ Saw i rec))
        by_sight is (inl before) = inl (ap (λ z. in_sight i (past st z)) is ∙ before)
        by_sight is (inr now) = inr (is, now.0, now.1)

    saw_before : ((i : ℕ) (rec : List ℕ) → e ≢ Saw i rec) → (t : Who) (i : ℕ) → in_sight i (past (with_event st s e) t) ≡ true → in_sight i (past st t) ≡ true
    saw_before none t i sight = elim (saw t i sight) [ inl before ↦ before | inr now ↦ absurd (none i now.1 now.2) ]

    -- an event that moves nothing
    pacing_still : ((i : ℕ) (rec : List ℕ) → e ≢ Saw i rec) → (new : DeskState) → new.wires ≡ d.wires → new.doors ≡ d.doors → IsPacing (with_event st s e) new
    pacing_still none new wires_are doors_are = with_wires (with_event st s e) new d.wires wires_are doors_are was_steady
        (λ t i j wire going sight door at. was_shown t i j wire (went t going) (saw_before none t i sight) door at)

  -- a record that is seen is at hand
  pacing_saw : (i : ℕ) (rec : List ℕ) → licence net st left s k ≡ Some (Saw i rec) → IsPacing (with_event st s (Saw i rec)) (desk_after_turn d s (Told.Saw i))
  pacing_saw i rec may = with_wires (with_event st s (Saw i rec)) (desk_after_turn d s (Told.Saw i)) d.wires refl refl was_steady shown
    where
      shown : (t : Who) (m j : ℕ) (wire : WireState) → has_ended (past (with_event st s (Saw i rec)) t) ≡ false → in_sight m (past (with_event st s (Saw i rec)) t) ≡ true →
          Telling.in_door d t m ≡ Some j → slice_get d.wires j ≡ Some wire → IsSome (at_hand wire)
      shown t m j wire going sight door at = elim (saw (Saw i rec) may t m sight) [
        | inl before ↦ was_shown t m j wire (went (Saw i rec) may t going) before door at
        | inr now ↦
            let place : i ≡ m = (let same : Saw i rec ≡ Saw m now.1 = now.2 in cc) in
            let here : Telling.wire_in d s i ≡ Some wire = ap (λ z. Telling.wire_in d z i) (sym now.0) ∙ ap (Telling.wire_in d t) place ∙ ap (Telling.through d.wires) door ∙ at in
            sym (ap Telling.shows here) ∙ told_is (Saw i rec) may
      ]

  -- one that is taken was at hand, and is in sight no more
  pacing_took : (i : ℕ) → licence net st left s k ≡ Some (Took i) → IsPacing (with_event st s (Took i)) (desk_after_turn d s (Told.Took i))
  pacing_took i may = with_wires (with_event st s (Took i)) (desk_after_turn d s (Told.Took i)) (list_changed_behind d.wires taken (Telling.in_door d s i)) refl refl steady shown
    where
      wants : want_after (strand_at net st s) (past st s) ≡ Some (Take i)
      wants = given_all (left s) (want_after (strand_at net st s) (past st s)) (Take i) (took_asked (want_at net st left s) i (answer_is (Took i) may))

      in_view : in_sight i (past st s) ≡ true
      in_view = by_strand (strand_at net st s) refl wants
        where
          by_strand : (p : Option Strand) → strand_at net st s ≡ p → want_after p (past st s) ≡ Some (Take i) → in_sight i (past st s) ≡ true
          by_strand None at e = cc
          by_strand (Some strand) at e = wants_take strand (past st s) (own s strand at) i e

      steady : (j : ℕ) (wire : WireState) → slice_get (list_changed_behind d.wires taken (Telling.in_door d s i)) j ≡ Some wire → IsSteady wire
      steady j wire at = elim (now_behind d.wires taken (Telling.in_door d s i) j wire at) [
        | inl before ↦ was_steady j wire before.0
        | inr now ↦ subst IsSteady (sym now.2) (steady_taken now.0 (was_shown s i j now.0 (goes (Took i) may) in_view now.3 now.1) (was_steady j now.0 now.1))
      ]

      taken_off : (t : Who) (m : ℕ) → t ≡ s → m ≡ i → in_sight m (past (with_event st s (Took i)) t) ≡ false
      taken_off t m is place =
          ap (λ z. in_sight m (past (with_event st s (Took i)) z)) is ∙ ap (in_sight m) (at_same st s (Took i)) ∙ ap (λ z. in_sight z (Took i ∷ past st s)) place
          ∙ ap (λ b. not b && in_sight i (past st s)) (test_same i)

      shown : (t : Who) (m j : ℕ) (wire : WireState) → has_ended (past (with_event st s (Took i)) t) ≡ false → in_sight m (past (with_event st s (Took i)) t) ≡ true →
          Telling.in_door d t m ≡ Some j → slice_get (list_changed_behind d.wires taken (Telling.in_door d s i)) j ≡ Some wire → IsSome (at_hand wire)
      shown t m j wire going sight door at = elim (now_behind d.wires taken (Telling.in_door d s i) j wire at) [
        | inl before ↦ was_shown t m j wire (went (Took i) may t going) (saw_before (Took i) may (λ z rec. λ z. cc) t m sight) door before.0
        | inr now ↦
            let one = one_door t s m i j now.0 now.1 door now.3 in
            let no : true ≡ false = sym sight ∙ taken_off t m one.0 one.1 in cc
      ]

  -- one that is put was taken at a rendezvous, and waits in a queue behind what was at hand
  pacing_put : (o : ℕ) (rec : List ℕ) → licence net st left s k ≡ Some (Put o rec) → IsPacing (with_event st s (Put o rec)) (desk_after_turn d s (Told.Put o))
  pacing_put o rec may = with_wires (with_event st s (Put o rec)) (desk_after_turn d s (Told.Put o)) (list_changed_behind d.wires settled (Telling.out_door d s o)) refl refl steady shown
    where
      may_go : (j : ℕ) (wire : WireState) → Telling.out_door d s o ≡ Some j → slice_get d.wires j ≡ Some wire → Telling.can_put (Some wire) ≡ true
      may_go j wire door at = sym (ap Telling.can_put (ap (Telling.through d.wires) door ∙ at)) ∙ told_is (Put o rec) may

      offer_is : (j : ℕ) (wire : WireState) → Telling.out_door d s o ≡ Some j → slice_get d.wires j ≡ Some wire → IsSome wire.offer
      offer_is j wire door at =
          let link = beside d.wires net.links j wire kept.laid.wire_count at in
          let ends = behind_out net st d kept.laid s o j link.0 door link.1 in
          offer_there net texts st left link.0 wire s o rec (kept.wires j link.0 wire link.1 at) ends.0 ends.1 (put_wanted net st left s k o rec may)

      steady : (j : ℕ) (wire : WireState) → slice_get (list_changed_behind d.wires settled (Telling.out_door d s o)) j ≡ Some wire → IsSteady wire
      steady j wire at = elim (now_behind d.wires settled (Telling.out_door d s o) j wire at) [
        | inl before ↦ was_steady j wire before.0
        | inr now ↦ subst IsSteady (sym now.2) (steady_settled now.0 (may_go j now.0 now.3 now.1) (offer_is j now.0 now.3 now.1) (was_steady j now.0 now.1))
      ]

      shown : (t : Who) (m j : ℕ) (wire : WireState) → has_ended (past (with_event st s (Put o rec)) t) ≡ false → in_sight m (past (with_event st s (Put o rec)) t) ≡ true →
          Telling.in_door d t m ≡ Some j → slice_get (list_changed_behind d.wires settled (Telling.out_door d s o)) j ≡ Some wire → IsSome (at_hand wire)
      shown t m j wire going sight door at =
          let seen = saw_before (Put o rec) may (λ z other. λ q. cc) t m sight in
          elim (now_behind d.wires settled (Telling.out_door d s o) j wire at) [
            | inl before ↦ was_shown t m j wire (went (Put o rec) may t going) seen door before.0
            | inr now ↦
                let hand = was_shown t m j now.0 (went (Put o rec) may t going) seen door now.1 in
                subst (λ z. IsSome (at_hand z)) (sym now.2) (settled_hand now.0 (may_go j now.0 now.3 now.1) hand)
          ]

  -- one that is refused is not in sight, since its consumer has ended
  pacing_refused : (o : ℕ) → licence net st left s k ≡ Some (Refused o) → IsPacing (with_event st s (Refused o)) (desk_after_turn d s (Told.Refused o))
  pacing_refused o may = with_wires (with_event st s (Refused o)) (desk_after_turn d s (Told.Refused o)) (list_changed_behind d.wires cleared (Telling.out_door d s o)) refl refl steady shown
    where
      may_go : (j : ℕ) (wire : WireState) → Telling.out_door d s o ≡ Some j → slice_get d.wires j ≡ Some wire → Telling.can_refuse (Some wire) ≡ true
      may_go j wire door at = sym (ap Telling.can_refuse (ap (Telling.through d.wires) door ∙ at)) ∙ told_is (Refused o) may

      steady : (j : ℕ) (wire : WireState) → slice_get (list_changed_behind d.wires cleared (Telling.out_door d s o)) j ≡ Some wire → IsSteady wire
      steady j wire at = elim (now_behind d.wires cleared (Telling.out_door d s o) j wire at) [
        | inl before ↦ was_steady j wire before.0
        | inr now ↦ subst IsSteady (sym now.2) (steady_cleared now.0 (may_go j now.0 now.3 now.1) (was_steady j now.0 now.1))
      ]

      shown : (t : Who) (m j : ℕ) (wire : WireState) → has_ended (past (with_event st s (Refused o)) t) ≡ false → in_sight m (past (with_event st s (Refused o)) t) ≡ true →
          Telling.in_door d t m ≡ Some j → slice_get (list_changed_behind d.wires cleared (Telling.out_door d s o)) j ≡ Some wire → IsSome (at_hand wire)
      shown t m j wire going sight door at = elim (now_behind d.wires cleared (Telling.out_door d s o) j wire at) [
        | inl before ↦ was_shown t m j wire (went (Refused o) may t going) (saw_before (Refused o) may (λ z rec. λ q. cc) t m sight) door before.0
        | inr now ↦
            let link = beside d.wires net.links j now.0 kept.laid.wire_count now.1 in
            let to = (behind_in net st d kept.laid t m j link.0 door link.1).0 in
            let shut : has_ended (past st link.0.to) ≡ true = sym (kept.wires j link.0 now.0 link.1 now.1).in_closed ∙ (refusal_is now.0 (may_go j now.0 now.3 now.1)).1 in
            let no : true ≡ false = sym shut ∙ ap (λ z. has_ended (past st z)) to ∙ went (Refused o) may t going in cc
      ]

  -- an end only closes
  pacing_ended : (code : ℤ) → licence net st left s k ≡ Some (Ended code) → IsPacing (with_event st s (Ended code)) (desk_after_turn d s (Told.Ended code))
  pacing_ended code may = with_wires (with_event st s (Ended code)) (desk_after_turn d s (Told.Ended code)) wires refl refl
      (λ j wire at. let r = before j wire at in like_steady wire r.0 r.2 (was_steady j r.0 r.1))
      (λ t i j wire going sight door at. let r = before j wire at in
      like_hand wire r.0 r.2 (was_shown t i j r.0 (went (Ended code) may t going) (saw_before (Ended code) may (λ z rec. λ q. cc) t i sight) door r.1))
    where
      wires : List WireState
      wires = wires_changed in_shut (Telling.inputs_of (slice_get d.doors s)) (wires_changed out_shut (Telling.outputs_of (slice_get d.doors s)) d.wires)

      before : (j : ℕ) (wire : WireState) → slice_get wires j ≡ Some wire → (old : WireState) × (slice_get d.wires j ≡ Some old) × IsLike wire old
      before j wire at =
          let a = all_like in_shut (λ w. record { offer = refl; puts = refl; tooks = refl; queue = refl; reserved = refl }) (Telling.inputs_of (slice_get d.doors s)) (wires_changed out_shut (Telling.outputs_of (slice_get d.doors s)) d.wires) j wire at in
          let b = all_like out_shut (λ w. record { offer = refl; puts = refl; tooks = refl; queue = refl; reserved = refl }) (Telling.outputs_of (slice_get d.doors s)) d.wires j a.0 a.1 in
          (b.0, b.1, both_like wire a.0 b.0 a.2 b.2)

  by_event : (e : Event) → licence net st left s k ≡ Some e → IsPacing (with_event st s e) (desk_after_turn d s (told e))
  by_event (Saw i rec) may = pacing_saw i rec may
  by_event (Took i) may = pacing_took i may
  by_event (Put o rec) may = pacing_put o rec may
  by_event (Refused o) may = pacing_refused o may
  by_event (Ended code) may = pacing_ended code may
  by_event (Up level code) may = pacing_still (Up level code) may (λ i rec. λ q. cc) (desk_after_turn d s (Told.Up level code)) refl refl
  by_event (SawEnd i) may = pacing_still (SawEnd i) may (λ z rec. λ q. cc) (desk_after_turn d s (Told.SawEnd i)) refl refl
  by_event SawAllEnd may = pacing_still SawAllEnd may (λ z rec. λ q. cc) (desk_after_turn d s Told.SawAllEnd) refl refl
  by_event (Primed b) may = pacing_still (Primed b) may (λ z rec. λ q. cc) (desk_after_turn d s (Told.Primed b)) refl refl
  by_event (Opened u) may = pacing_still (Opened u) may (λ z rec. λ q. cc) (desk_after_turn d s (Told.Opened u)) refl refl
  by_event (Joined u code) may = pacing_still (Joined u code) may (λ z rec. λ q. cc) (desk_after_turn d s (Told.Joined u code)) refl refl
  by_event (Severed i) may = pacing_still (Severed i) may (λ z rec. λ q. cc) (desk_after_turn d s (Told.Cut i)) refl refl

-- a turn keeps the pace
pub pacing_made : (net : Net) (texts : ℕ → List ℕ) (st : State) (left : Left) (d : DeskState) (s : Who) (k : ℕ) (e : Event) → IsWellFormed net →
    ((t : Who) (q : Strand) → strand_at net st t ≡ Some q → IsOwn q (past st t)) → DeskStands net texts st left d → IsPacing st d → licence net st left s k ≡ Some e →
    IsPacing (with_event st s e) (desk_after_turn d s (told e))
pacing_made net texts st left d s k e formed own kept pacing may = by_event net texts st left d s k formed own kept pacing e may

-- Coming home

module _ (d new : DeskState) (st : State) (s : Who) (pacing : IsPacing st d) where
  -- who writes nothing leaves all wires
  pacing_plain : (w : Coming) → new ≡ desk_at_home d s (ask_for w) → IsPacing st new
  pacing_plain w come = subst (IsPacing st) (sym come) (record { paced = pacing.paced; roomy = pacing.roomy; shown = pacing.shown })

  -- who writes offers where nothing was offered, so that only in a queue something was at hand
  pacing_offer : (o grip : ℕ) → CanAsk d s (Now.Write o) → new ≡ desk_at_home_writing d s o grip → IsPacing st new
  pacing_offer o grip can come = subst (IsPacing st) (sym come) here
    where
      no_offer : (j : ℕ) (wire : WireState) → Telling.out_door d s o ≡ Some j → slice_get d.wires j ≡ Some wire → wire.offer ≡ None
      no_offer j wire door at = can.1 wire (ap (Telling.through d.wires) door ∙ at)

      steady : (j : ℕ) (wire : WireState) → slice_get (list_changed_behind d.wires (offers grip) (Telling.out_door d s o)) j ≡ Some wire → IsSteady wire
      steady j wire at = elim (now_behind d.wires (offers grip) (Telling.out_door d s o) j wire at) [
        | inl before ↦ record { paced = pacing.paced j wire before.0; roomy = pacing.roomy j wire before.0 }
        | inr now ↦ subst IsSteady (sym now.2) (steady_offers grip now.0 (no_offer j now.0 now.3 now.1) (record { paced = pacing.paced j now.0 now.1; roomy = pacing.roomy j now.0 now.1 }))
      ]

      here : IsPacing st (desk_at_home_writing d s o grip)
      here = record {
        paced = λ j wire at. (steady j wire at).paced;
        roomy = λ j wire at. (steady j wire at).roomy;
        shown = λ t i wire going sight at. by_door t i wire going sight (Telling.in_door d t i) refl at;
      }
        where
          by_door : (t : Who) (i : ℕ) (wire : WireState) → has_ended (past st t) ≡ false → in_sight i (past st t) ≡ true → (x : Option ℕ) → Telling.in_door d t i ≡ x →
              Telling.through (list_changed_behind d.wires (offers grip) (Telling.out_door d s o)) x ≡ Some wire → IsSome (at_hand wire)
          by_door t i wire going sight None door at = cc
          by_door t i wire going sight (Some j) door at = elim (now_behind d.wires (offers grip) (Telling.out_door d s o) j wire at) [
            | inl before ↦ pacing.shown t i wire going sight (ap (Telling.through d.wires) door ∙ before.0)
            | inr now ↦
                let hand = pacing.shown t i now.0 going sight (ap (Telling.through d.wires) door ∙ now.1) in
                subst (λ z. IsSome (at_hand z)) (sym now.2) (offered_hand grip now.0 (no_offer j now.0 now.3 now.1) hand)
          ]

-- a strand that comes home keeps the pace
pub pacing_home : (d new : DeskState) (st : State) (pool after : PoolState) (s : Who) (w : Coming) → IsPacing st d → CanCome d pool s w → HasCome d pool s w new after → IsPacing st new
pacing_home d new st pool after s (come.Write o out) pacing can came = pacing_offer d new st s pacing o came.grip can.0 came.home
pacing_home d new st pool after s (come.Commit level) pacing can came = pacing_plain d new st s pacing (come.Commit level) came.0
pacing_home d new st pool after s (come.Read i) pacing can came = pacing_plain d new st s pacing (come.Read i) came.0
pacing_home d new st pool after s come.Any pacing can came = pacing_plain d new st s pacing come.Any came.0
pacing_home d new st pool after s come.Gate pacing can came = pacing_plain d new st s pacing come.Gate came.0
pacing_home d new st pool after s (come.Take i) pacing can came = pacing_plain d new st s pacing (come.Take i) came.0
pacing_home d new st pool after s come.Primed pacing can came = pacing_plain d new st s pacing come.Primed came.0
pacing_home d new st pool after s (come.Issue text) pacing can came = pacing_plain d new st s pacing (come.Issue text) came.0
pacing_home d new st pool after s (come.Join u) pacing can came = pacing_plain d new st s pacing (come.Join u) came.0
pacing_home d new st pool after s (come.Cut i) pacing can came = pacing_plain d new st s pacing (come.Cut i) came.0
pacing_home d new st pool after s (come.Done code) pacing can came = pacing_plain d new st s pacing (come.Done code) came.0
