-- The sights of a desk after a turn hold what was seen last.
use Rattle.std.proofs.Common.{◌≡◌, ◌≢◌, ◌⊎◌, inl, inr, ℕ, ℤ, ◌<◌, Bool, true, false, cond, ◌==◌, List, ◌∷◌, length, refl, sym, ◌∙◌, ap, subst, Option, Some, None, slice_get}
use Rattle.std.specs.Option.{option_map}
use Rattle.std.proofs.lemmas.Bool.{ne_eqb}
use Rattle.std.proofs.lemmas.Option.{slice_get_within}
use Rattle.pipe_model.specs.declared.net.Net.{Net}
use Rattle.pipe_model.specs.declared.net.Link.{Link}
use Rattle.pipe_model.specs.Event.{Event, records_on, has_ended}
use Rattle.pipe_model.specs.Event.Event.{Up, Saw, SawEnd, SawAllEnd, Took, Put, Refused, Primed, Opened, Joined, Severed, Ended}
use Rattle.pipe_model.specs.State.{Who, State, past, with_event, link_in}
use Rattle.pipe_model.specs.Licence.{Left, want_at, offered, is_level, puts, tooks, at_hand, licence}
use Rattle.pipe_model.proofs.Truths.{cond_some}
use Rattle.pipe_model.proofs.Numbers.{equal_or_not, test_same}
use Rattle.pipe_model.proofs.Lists.{at_some}
use Rattle.confluence_laws.proofs.Basics.{at_same, at_other}
use Rattle.confluence_laws.proofs.Reached.{saw_it}
use Rattle.stage_steps.specs.Coroutine.{told, record_seen_on}
use Rattle.connectors.specs.WireState.{WireState, hand_of}
use Rattle.run_desk.specs.Desk.{DeskState}
use Rattle.run_desk.specs.Telling.{joined, through, wire_in, in_door, sights_of, sight_door, sight_through}
use Rattle.run_desk.specs.Standing.{IsWire, IsSight, IsLaid, DeskStands, link_through}
use Rattle.run_desk.specs.Turns.{list_changed_behind, hand_on, sights_seen, sights_without, ends, rest_after_turn}
use Rattle.run_desk.proofs.Lists.{changed_here, map_back}
use Rattle.run_desk.proofs.Queues.{kind_of, oldest_is}
use Rattle.run_desk.proofs.SightDoors.{has_sight, through_changed, through_without}
use Rattle.run_desk.proofs.Events.{looks_at, last_stays, ended_stays}

-- the record at hand on a wire is the one that is at hand on its link
pub hand_on_link : (net : Net) (texts : ℕ → List ℕ) (st : State) (left : Left) (l : Link) (w : WireState) (rec : List ℕ) → IsWire net texts st left l w →
    at_hand net st left (Some l) ≡ Some rec → (grip : ℕ) × (hand_on (Some w) ≡ Some grip) × (texts grip ≡ rec)
hand_on_link net texts st left l w rec is hand = elim (kind_of net texts st left l w is) [
  | inl m ↦
      let level = cond_some (is_level st l) (offered l.output (want_at net st left l.from)) (as_kind false m.1) in
      let even : (w.puts == w.tooks) ≡ true = ap (λ z. z == w.tooks) is.puts ∙ ap (λ z. puts st l == z) is.tooks ∙ level.0 in
      let g = map_back texts w.offer rec (is.offer ∙ level.1) in
      (g.0, ap (hand_of w) m.0 ∙ ap (λ b. cond b w.offer None) even ∙ g.1, sym g.2)
  | inr k ↦
      let g = map_back texts (slice_get k.waiting 0) rec (oldest_is texts st l w k ∙ as_kind true k.link_is) in
      (g.0, ap (hand_of w) k.wire_is ∙ g.1, sym g.2)
]
  where
    as_kind : (b : Bool) → l.queue ≡ b →
        cond b (slice_get (records_on l.output (past st l.from)) (tooks st l)) (cond (is_level st l) (offered l.output (want_at net st left l.from)) None) ≡ Some rec
    as_kind b e = ap (λ b. cond b (slice_get (records_on l.output (past st l.from)) (tooks st l)) (cond (is_level st l) (offered l.output (want_at net st left l.from)) None)) (sym e) ∙ hand

-- an input with a record at hand has a sight
pub sight_of_hand : (net : Net) (st : State) (d : DeskState) → IsLaid net st d → (s : Who) (i grip : ℕ) → hand_on (wire_in d s i) ≡ Some grip → (m : ℕ) × (sight_door d s i ≡ Some m) × (m < length d.sights)
sight_of_hand net st d laid s i grip hand = by_door (in_door d s i) refl hand
  where
    by_door : (x : Option ℕ) → in_door d s i ≡ x → hand_on (through d.wires x) ≡ Some grip → (m : ℕ) × (sight_door d s i ≡ Some m) × (m < length d.sights)
    by_door None door hand = cc
    by_door (Some j) door hand = let there = has_sight (slice_get d.doors s) i j door in (there.0, there.1, laid.sights_there s i there.0 there.1)

module _ (net : Net) (texts : ℕ → List ℕ) (st : State) (left : Left) (d : DeskState) (kept : DeskStands net texts st left d) where
  -- the wire behind an input with a record at hand shows it
  pub shows_it : (s : Who) (i : ℕ) (rec : List ℕ) → at_hand net st left (link_in net st s i) ≡ Some rec → (grip : ℕ) × (hand_on (wire_in d s i) ≡ Some grip) × (texts grip ≡ rec)
  shows_it s i rec hand = by_door (in_door d s i) (ap (at_hand net st left) (sym (kept.laid.in_doors s i)) ∙ hand)
    where
      by_link : (j : ℕ) (l : Option Link) → slice_get net.links j ≡ l → at_hand net st left l ≡ Some rec → (grip : ℕ) × (hand_on (slice_get d.wires j) ≡ Some grip) × (texts grip ≡ rec)
      by_link j None at shown = cc
      by_link j (Some l) at shown =
          let w = at_some d.wires j (subst (λ n. j < n) (sym kept.laid.wire_count) (slice_get_within net.links j _ at)) in
          let h = hand_on_link net texts st left l w.0 rec (kept.wires j l w.0 at w.1) shown in
          (h.0, ap hand_on w.1 ∙ h.1, h.2)

      by_door : (x : Option ℕ) → at_hand net st left (link_through net.links x) ≡ Some rec → (grip : ℕ) × (hand_on (through d.wires x) ≡ Some grip) × (texts grip ≡ rec)
      by_door None shown = cc
      by_door (Some j) shown = by_link j (slice_get net.links j) refl shown

module _ (net : Net) (texts : ℕ → List ℕ) (st : State) (left : Left) (s : Who) (k : ℕ) (e : Event) (may : licence net st left s k ≡ Some e) where
  abbrev now : State
  now = with_event st s e

  -- a strand that goes on after the event went on before it
  went_on : (u : Who) → has_ended (past now u) ≡ false → (u ≡ s → ends (told e) ≡ false) → has_ended (past st u) ≡ false
  went_on u going quiet = elim (equal_or_not u s) [
    | inr other ↦ ap has_ended (sym (at_other st s e u other)) ∙ going
    | inl it ↦ ap (λ z. has_ended (past st z)) it ∙ sym (ended_stays e (past st s) (quiet it)) ∙ ap has_ended (sym (at_same st s e)) ∙ ap (λ z. has_ended (past now z)) (sym it) ∙ going
  ]

  -- a sight that the event leaves alone
  still : (u : Who) (n : ℕ) (sight : Option ℕ) → IsSight texts st u n sight → (u ≡ s → (ends (told e) ≡ false) × (looks_at n e ≡ false)) → IsSight texts now u n sight
  still u n sight is off going = is (went_on u going (λ it. (off it).0)) ∙ elim (equal_or_not u s) [
    | inr other ↦ ap (record_seen_on n) (sym (at_other st s e u other))
    | inl it ↦
        ap (λ z. record_seen_on n (past st z)) it ∙ sym (last_stays n e (past st s) (off it).1)
        ∙ ap (record_seen_on n) (sym (at_same st s e)) ∙ ap (λ z. record_seen_on n (past now z)) (sym it)
  ]

  module _ (d : DeskState) (kept : DeskStands net texts st left d) where
    abbrev sight : Who → ℕ → Option ℕ
    sight u n = sight_through d.sights (sight_door d u n)

    -- after a look, the sight of the input is the record at hand
    at_look : (i : ℕ) (rec : List ℕ) → e ≡ Saw i rec → (u : Who) (n : ℕ) →
        IsSight texts now u n (sight_through (sights_seen d.sights (sight_door d s i) (hand_on (wire_in d s i))) (sight_door d u n))
    at_look i rec is u n = subst (λ z. IsSight texts now u n (sight_through (sights_seen d.sights (sight_door d s i) z) (sight_door d u n))) (sym hand.1)
        (subst (λ z. IsSight texts now u n (sight_through (list_changed_behind d.sights looked z) (sight_door d u n))) (sym place.1) (by (equal_or_not u s) (equal_or_not n i)))
      where
        hand : (grip : ℕ) × (hand_on (wire_in d s i) ≡ Some grip) × (texts grip ≡ rec)
        hand = shows_it net texts st left d kept s i rec (saw_it net st left s k i rec (may ∙ ap Some is))

        place : (m : ℕ) × (sight_door d s i ≡ Some m) × (m < length d.sights)
        place = sight_of_hand net st d kept.laid s i hand.0 hand.1

        looked : Option ℕ → Option ℕ
        looked old = Some hand.0

        elsewhere : ((u ≡ s) × (n ≡ i) → ⊥) → sight_door d u n ≢ Some place.0
        elsewhere apart to = apart (kept.laid.sights_apart u s n i place.0 to place.1)

        others : ((u ≡ s) × (n ≡ i) → ⊥) → (u ≡ s → looks_at n e ≡ false) → IsSight texts now u n (sight_through (list_changed_behind d.sights looked (Some place.0)) (sight_door d u n))
        others apart off = subst (IsSight texts now u n) (sym (through_changed d.sights looked place.0 (sight_door d u n) (elsewhere apart)))
            (still u n (sight u n) (kept.sights u n) (λ it. (ap (λ x. ends (told x)) is, off it)))

        by : (u ≡ s) ⊎ (u ≢ s) → (n ≡ i) ⊎ (n ≢ i) → IsSight texts now u n (sight_through (list_changed_behind d.sights looked (Some place.0)) (sight_door d u n))
        by (inl it) (inl too) going =
            let old = at_some d.sights place.0 place.2 in
            let to : sight_door d u n ≡ Some place.0 = ap (λ z. sight_door d z n) it ∙ ap (sight_door d s) too ∙ place.1 in
            let held : sight_through (list_changed_behind d.sights looked (Some place.0)) (sight_door d u n) ≡ Some hand.0 =
            ap (sight_through (list_changed_behind d.sights looked (Some place.0))) to ∙ ap joined (changed_here d.sights looked place.0 ∙ ap (option_map looked) old.1) in
            ap (option_map texts) held ∙ ap Some hand.2
            ∙ sym (ap (λ z. record_seen_on n (past now z)) it ∙ ap (record_seen_on n) (at_same st s e) ∙ ap (λ x. record_seen_on n (x ∷ past st s)) is
            ∙ ap (λ b. cond b (Some rec) (record_seen_on n (past st s))) (ap (λ z. i == z) too ∙ test_same i))
        by (inl it) (inr apart) going = others (λ both. apart both.1) (λ same. ap (looks_at n) is ∙ ne_eqb i n (λ q. apart (sym q))) going
        by (inr other) which going = others (λ both. other both.0) (λ same. absurd (other same)) going

    -- at the end the strand's own sights are given back, and the others stay
    at_end : (code : ℤ) → e ≡ Ended code → (u : Who) (n : ℕ) → IsSight texts now u n (sight_through (sights_without (sights_of (slice_get d.doors s)) d.sights) (sight_door d u n))
    at_end code is u n = by (equal_or_not u s)
      where
        by : (u ≡ s) ⊎ (u ≢ s) → IsSight texts now u n (sight_through (sights_without (sights_of (slice_get d.doors s)) d.sights) (sight_door d u n))
        by (inl it) going = let no : true ≡ false = sym (ap (λ z. has_ended (past now z)) it ∙ ap has_ended (at_same st s e) ∙ ap (λ x. has_ended (x ∷ past st s)) is) ∙ going in cc
        by (inr other) going = subst (IsSight texts now u n)
            (sym (through_without (sights_of (slice_get d.doors s)) d.sights (sight_door d u n) (λ i m at to. other (kept.laid.sights_apart u s n i m to at).0)))
            (still u n (sight u n) (kept.sights u n) (λ it. absurd (other it))) going

    -- each sight is what the strand saw last on the input
    pub sights_made : (u : Who) (n : ℕ) → IsSight texts now u n (sight_through (rest_after_turn d s (told e)).sights (sight_door d u n))
    sights_made u n = by e refl
      where
        alone : (f : Event) → e ≡ f → ends (told f) ≡ false → ((i : ℕ) → looks_at i f ≡ false) → IsSight texts now u n (sight u n)
        alone f is quiet off = still u n (sight u n) (kept.sights u n) (λ it. (ap (λ x. ends (told x)) is ∙ quiet, ap (looks_at n) is ∙ off n))

        by : (f : Event) → e ≡ f → IsSight texts now u n (sight_through (rest_after_turn d s (told f)).sights (sight_door d u n))
        by (Saw i rec) is = at_look i rec is u n
        by (Ended code) is = at_end code is u n
        by (Put o rec) is = alone (Put o rec) is refl (λ i. refl)
        by (Refused o) is = alone (Refused o) is refl (λ i. refl)
        by (Took i) is = alone (Took i) is refl (λ n. refl)
        by (Up level code) is = alone (Up level code) is refl (λ i. refl)
        by (SawEnd i) is = alone (SawEnd i) is refl (λ n. refl)
        by SawAllEnd is = alone SawAllEnd is refl (λ i. refl)
        by (Primed b) is = alone (Primed b) is refl (λ i. refl)
        by (Opened n) is = alone (Opened n) is refl (λ i. refl)
        by (Joined n code) is = alone (Joined n code) is refl (λ i. refl)
        by (Severed i) is = alone (Severed i) is refl (λ n. refl)
