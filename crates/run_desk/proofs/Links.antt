-- The wires of a desk after a turn stand for their links.
use Rattle.std.proofs.Common.{◌≡◌, ◌≢◌, inl, inr, ℕ, ℤ, suc, ◌+◌, ◌≤◌, Bool, true, false, cond, ◌&&◌, ◌==◌, List, [], ◌∷◌, ◌++◌, map, drop, length, refl, sym, ◌∙◌, ap, subst, arith, Option, Some, None, slice_get}
use Rattle.std.specs.Option.{option_map}
use Rattle.std.proofs.lemmas.Bool.{eqb-true, ne_eqb}
use Rattle.std.proofs.lemmas.List.{map_push, drop-map, drop-drop, drop-append-le}
use Rattle.pipe_model.specs.declared.net.Net.{Net}
use Rattle.pipe_model.specs.declared.net.Link.{Link}
use Rattle.pipe_model.specs.Event.{Event, is_put, is_took, one_more, puts_on, tooks_on, records_on, has_ended}
use Rattle.pipe_model.specs.Event.Event.{Up, Saw, SawEnd, SawAllEnd, Took, Put, Refused, Primed, Opened, Joined, Severed, Ended}
use Rattle.pipe_model.specs.State.{Who, State, past, same, with_event}
use Rattle.pipe_model.specs.Licence.{Left, want_at, offered, licence}
use Rattle.pipe_model.specs.WellFormed.{IsWellFormed}
use Rattle.pipe_model.proofs.Truths.{both}
use Rattle.pipe_model.proofs.Numbers.{equal_or_not, test_same}
use Rattle.confluence_laws.proofs.Basics.{at_same, at_other}
use Rattle.confluence_laws.proofs.Within.{count_is}
use Rattle.stage_steps.specs.Coroutine.{told}
use Rattle.connectors.specs.WireState.{WireState, IsPaced, taken, settled, cleared, lined_up}
use Rattle.run_desk.specs.Desk.{DeskState}
use Rattle.run_desk.specs.Telling.{inputs_of, outputs_of, in_door, out_door}
use Rattle.run_desk.specs.Standing.{IsWire, DeskStands, left_out, waiting_on}
use Rattle.run_desk.specs.Turns.{list_changed_behind, wires_changed, out_shut, in_shut, ends, rest_after_turn}
use Rattle.run_desk.proofs.Lists.{map_back, leads, leads_any, changed_back, all_changed_back}
use Rattle.run_desk.proofs.Leads.{out_leads, in_leads, outputs_lead, inputs_lead}
use Rattle.run_desk.proofs.Events.{writes_on, no_put, no_record, no_offer, ended_stays}
use Rattle.run_desk.proofs.Acts.{answered, want_here, want_other}
use Rattle.run_desk.proofs.Queues.{kind_of, left_on}
use Rattle.run_desk.proofs.Wants.{put_wanted}

module _ (net : Net) (texts : ℕ → List ℕ) (st : State) (left : Left) (s : Who) (k : ℕ) (e : Event) (may : licence net st left s k ≡ Some e) where
  abbrev now : State
  now = with_event st s e

  abbrev out : Left
  out = left_out left s

  -- a fact of a history that the event changes for the strand alone, if at all
  by_strand : {A : Type 0} (f : List Event → A) (u : Who) → (u ≡ s → f (e ∷ past st s) ≡ f (past st s)) → f (past now u) ≡ f (past st u)
  by_strand f u here = elim (equal_or_not u s) [
    | inr other ↦ ap f (at_other st s e u other)
    | inl it ↦ ap (λ z. f (past now z)) it ∙ ap f (at_same st s e) ∙ here it ∙ ap (λ z. f (past st z)) (sym it)
  ]

  no_more : (o : ℕ) (u : Who) → u ≡ s → offered o (want_at net now out u) ≡ None
  no_more o u it = ap (λ z. offered o (want_at net now out z)) it ∙ ap (offered o) (want_here net st left s k e may)

  -- an offer that the event doesn't move
  offer_stays : (l : Link) → (l.from ≡ s → writes_on l.output e ≡ false) → offered l.output (want_at net st left l.from) ≡ offered l.output (want_at net now out l.from)
  offer_stays l off = elim (equal_or_not l.from s) [
    | inl it ↦
        ap (λ z. offered l.output (want_at net st left z)) it
        ∙ no_offer l.output (want_at net st left s) e (answered net st left s k e may) (off it) ∙ sym (no_more l.output l.from it)
    | inr other ↦ ap (offered l.output) (sym (want_other net st left s k e may l.from other))
  ]

  -- what waits on a link from which nothing is taken, and on which nothing is put
  waits_still : (l : Link) → tooks_on l.input (past now l.to) ≡ tooks_on l.input (past st l.to) → records_on l.output (past now l.from) ≡ records_on l.output (past st l.from) → waiting_on st l ≡ waiting_on now l
  waits_still l taken put =
      ap (λ n. cond l.queue (Some (drop n (records_on l.output (past st l.from)))) None) (sym taken)
      ∙ ap (λ rs. cond l.queue (Some (drop (tooks_on l.input (past now l.to)) rs)) None) (sym put)

  -- a wire that the event leaves alone
  still : (l : Link) (w : WireState) → IsWire net texts st left l w → ends (told e) ≡ false →
      (l.from ≡ s → writes_on l.output e ≡ false) → (l.to ≡ s → is_took l.input e ≡ false) → IsWire net texts now out l w
  still l w is quiet off idle = record {
    puts = is.puts ∙ sym (by_strand (puts_on l.output) l.from (λ it. ap (λ b. one_more b (puts_on l.output (past st s))) (no_put l.output e (off it))));
    tooks = is.tooks ∙ sym (by_strand (tooks_on l.input) l.to (λ it. ap (λ b. one_more b (tooks_on l.input (past st s))) (idle it)));
    offer = is.offer ∙ offer_stays l off;
    out_closed = is.out_closed ∙ sym (by_strand has_ended l.from (λ it. ended_stays e (past st s) quiet));
    in_closed = is.in_closed ∙ sym (by_strand has_ended l.to (λ it. ended_stays e (past st s) quiet));
    queue = is.queue ∙ waits_still l (by_strand (tooks_on l.input) l.to (λ it. ap (λ b. one_more b (tooks_on l.input (past st s))) (idle it))) (by_strand (records_on l.output) l.from (λ it. no_record l.output e (past st s) (off it)));
  }

  -- what is put in a queue waits behind the others
  queue_put : (l : Link) (w : WireState) (rec : List ℕ) → e ≡ Put l.output rec → l.from ≡ s → IsPaced w.offer w.puts w.tooks w.queue → IsWire net texts st left l w →
      option_map (map texts) (settled w).queue ≡ waiting_on now l
  queue_put l w rec is it pace wire = elim (kind_of net texts st left l w wire) [
    | inl m ↦ ap (λ q. option_map (map texts) (lined_up q w.offer)) m.0 ∙ ap (λ b. cond b (Some (left_on now l)) None) (sym m.1)
    | inr k ↦
        let counted : w.puts ≡ w.tooks + length k.waiting = subst (IsPaced w.offer w.puts w.tooks) k.wire_is pace in
        let few : tooks_on l.input (past st l.to) ≤ length (records_on l.output (past st l.from)) = omega (arith, counted, wire.puts, wire.tooks, count_is l.output (past st l.from)) in
        let g = map_back texts w.offer rec (wire.offer ∙ writes) in
        ap (λ q. option_map (map texts) (lined_up q w.offer)) k.wire_is ∙ ap (λ x. option_map (map texts) (lined_up (Some k.waiting) x)) g.1
        ∙ ap Some (map_push texts k.waiting g.0 ∙ ap (λ xs. xs ++ texts g.0 ∷ []) k.held ∙ ap (λ x. left_on st l ++ x ∷ []) (sym g.2)
        ∙ sym (drop-append-le (tooks_on l.input (past st l.to)) (records_on l.output (past st l.from)) (rec ∷ []) few)
        ∙ ap (drop (tooks_on l.input (past st l.to))) (sym put) ∙ ap (λ n. drop n (records_on l.output (past now l.from))) (sym (by_strand (tooks_on l.input) l.to (λ z. ap (λ x. tooks_on l.input (x ∷ past st s)) is))))
        ∙ ap (λ b. cond b (Some (left_on now l)) None) (sym k.link_is)
  ]
    where
      writes : offered l.output (want_at net st left l.from) ≡ Some rec
      writes = ap (λ z. offered l.output (want_at net st left z)) it ∙ ap (offered l.output) (put_wanted net st left s k l.output rec (may ∙ ap Some is)) ∙ ap (λ b. cond b (Some rec) None) (test_same l.output)

      put : records_on l.output (past now l.from) ≡ records_on l.output (past st l.from) ++ rec ∷ []
      put =
          ap (λ z. records_on l.output (past now z)) it ∙ ap (records_on l.output) (at_same st s e) ∙ ap (λ x. records_on l.output (x ∷ past st s)) is
          ∙ ap (λ b. cond b (records_on l.output (past st s) ++ rec ∷ []) (records_on l.output (past st s))) (test_same l.output) ∙ ap (λ z. records_on l.output (past st z) ++ rec ∷ []) (sym it)

  put_wire : (l : Link) (w : WireState) (rec : List ℕ) → e ≡ Put l.output rec → l.from ≡ s → IsPaced w.offer w.puts w.tooks w.queue → IsWire net texts st left l w → IsWire net texts now out l (settled w)
  put_wire l w rec is it pace wire = record {
    puts = ap (λ z. z + 1) wire.puts ∙ ap (λ z. puts_on l.output (past st z) + 1) it
        ∙ (let n : puts_on l.output (past st s) + 1 ≡ suc (puts_on l.output (past st s)) = omega arith in n)
        ∙ sym (ap (λ z. puts_on l.output (past now z)) it ∙ ap (puts_on l.output) (at_same st s e)
        ∙ ap (λ x. one_more (is_put l.output x) (puts_on l.output (past st s))) is ∙ ap (λ b. one_more b (puts_on l.output (past st s))) (test_same l.output));
    tooks = wire.tooks ∙ sym (by_strand (tooks_on l.input) l.to (λ z. ap (λ x. tooks_on l.input (x ∷ past st s)) is));
    offer = sym (no_more l.output l.from it);
    out_closed = wire.out_closed ∙ sym (by_strand has_ended l.from (λ z. ap (λ x. has_ended (x ∷ past st s)) is));
    in_closed = wire.in_closed ∙ sym (by_strand has_ended l.to (λ z. ap (λ x. has_ended (x ∷ past st s)) is));
    queue = queue_put l w rec is it pace wire;
  }

  refused_wire : (l : Link) (w : WireState) → e ≡ Refused l.output → l.from ≡ s → IsWire net texts st left l w → IsWire net texts now out l (cleared w)
  refused_wire l w is it wire = record {
    puts = wire.puts ∙ sym (by_strand (puts_on l.output) l.from (λ z. ap (λ x. puts_on l.output (x ∷ past st s)) is));
    tooks = wire.tooks ∙ sym (by_strand (tooks_on l.input) l.to (λ z. ap (λ x. tooks_on l.input (x ∷ past st s)) is));
    offer = sym (no_more l.output l.from it);
    out_closed = wire.out_closed ∙ sym (by_strand has_ended l.from (λ z. ap (λ x. has_ended (x ∷ past st s)) is));
    in_closed = wire.in_closed ∙ sym (by_strand has_ended l.to (λ z. ap (λ x. has_ended (x ∷ past st s)) is));
    queue = wire.queue ∙ waits_still l (by_strand (tooks_on l.input) l.to (λ z. ap (λ x. tooks_on l.input (x ∷ past st s)) is)) (by_strand (records_on l.output) l.from (λ z. ap (λ x. records_on l.output (x ∷ past st s)) is));
  }

  -- what is taken is counted
  one_taken : (l : Link) → e ≡ Took l.input → l.to ≡ s → tooks_on l.input (past now l.to) ≡ tooks_on l.input (past st l.to) + 1
  one_taken l is it = sym (
      ap (λ z. tooks_on l.input (past st z) + 1) it
      ∙ (let n : tooks_on l.input (past st s) + 1 ≡ suc (tooks_on l.input (past st s)) = omega arith in n)
      ∙ sym (ap (λ z. tooks_on l.input (past now z)) it ∙ ap (tooks_on l.input) (at_same st s e)
      ∙ ap (λ x. one_more (is_took l.input x) (tooks_on l.input (past st s))) is ∙ ap (λ b. one_more b (tooks_on l.input (past st s))) (test_same l.input))
      )

  -- one that is taken waits no more
  queue_took : (l : Link) (w : WireState) → e ≡ Took l.input → l.to ≡ s → IsWire net texts st left l w → option_map (map texts) (taken w).queue ≡ waiting_on now l
  queue_took l w is it wire = elim (kind_of net texts st left l w wire) [
    | inl m ↦ ap (λ q. option_map (map texts) (option_map (drop 1) q)) m.0 ∙ ap (λ b. cond b (Some (left_on now l)) None) (sym m.1)
    | inr k ↦
        ap (λ q. option_map (map texts) (option_map (drop 1) q)) k.wire_is
        ∙ ap Some (sym (drop-map texts 1 k.waiting) ∙ ap (drop 1) k.held ∙ drop-drop 1 (tooks_on l.input (past st l.to)) (records_on l.output (past st l.from))
        ∙ ap (λ n. drop n (records_on l.output (past st l.from))) (sym (one_taken l is it))
        ∙ ap (drop (tooks_on l.input (past now l.to))) (sym (by_strand (records_on l.output) l.from (λ z. ap (λ x. records_on l.output (x ∷ past st s)) is))))
        ∙ ap (λ b. cond b (Some (left_on now l)) None) (sym k.link_is)
  ]

  took_wire : (l : Link) (w : WireState) → e ≡ Took l.input → l.to ≡ s → IsWire net texts st left l w → IsWire net texts now out l (taken w)
  took_wire l w is it wire = record {
    puts = wire.puts ∙ sym (by_strand (puts_on l.output) l.from (λ z. ap (λ x. puts_on l.output (x ∷ past st s)) is));
    tooks = ap (λ z. z + 1) wire.tooks ∙ sym (one_taken l is it);
    offer = wire.offer ∙ offer_stays l (λ z. ap (writes_on l.output) is);
    out_closed = wire.out_closed ∙ sym (by_strand has_ended l.from (λ z. ap (λ x. has_ended (x ∷ past st s)) is));
    in_closed = wire.in_closed ∙ sym (by_strand has_ended l.to (λ z. ap (λ x. has_ended (x ∷ past st s)) is));
    queue = queue_took l w is it wire;
  }

  -- one of the link's ends has ended where it had, or is the strand's that ends now
  ended_now : (code : ℤ) → e ≡ Ended code → (u : Who) (b : Bool) → b ≡ has_ended (past st u) → cond (same u s) true b ≡ has_ended (past now u)
  ended_now code is u b before = elim (equal_or_not u s) [
    | inl it ↦
        ap (λ z. cond (same z s) true b) it ∙ ap (λ c. cond c true b) (test_same s)
        ∙ sym (ap (λ z. has_ended (past now z)) it ∙ ap has_ended (at_same st s e) ∙ ap (λ x. has_ended (x ∷ past st s)) is)
    | inr other ↦ ap (λ c. cond c true b) (ne_eqb u s other) ∙ before ∙ ap has_ended (sym (at_other st s e u other))
  ]

  -- the ends of a wire that the strand holds are closed when it ends
  ended_wire : (code : ℤ) → e ≡ Ended code → (l : Link) (w : WireState) → IsWire net texts st left l w →
      IsWire net texts now out l (record w { out_closed = cond (same l.from s) true w.out_closed; in_closed = cond (same l.to s) true w.in_closed })
  ended_wire code is l w wire = record {
    puts = wire.puts ∙ sym (by_strand (puts_on l.output) l.from (λ z. ap (λ x. puts_on l.output (x ∷ past st s)) is));
    tooks = wire.tooks ∙ sym (by_strand (tooks_on l.input) l.to (λ z. ap (λ x. tooks_on l.input (x ∷ past st s)) is));
    offer = wire.offer ∙ offer_stays l (λ z. ap (writes_on l.output) is);
    out_closed = ended_now code is l.from w.out_closed wire.out_closed;
    in_closed = ended_now code is l.to w.in_closed wire.in_closed;
    queue = wire.queue ∙ waits_still l (by_strand (tooks_on l.input) l.to (λ z. ap (λ x. tooks_on l.input (x ∷ past st s)) is)) (by_strand (records_on l.output) l.from (λ z. ap (λ x. records_on l.output (x ∷ past st s)) is));
  }

  module _ (formed : IsWellFormed net) (d : DeskState) (kept : DeskStands net texts st left d) (paced : (j : ℕ) (w : WireState) → slice_get d.wires j ≡ Some w → IsPaced w.offer w.puts w.tooks w.queue) where
    -- where the wire of an output is changed
    at_output : (o : ℕ) (f : WireState → WireState) →
        ((l : Link) (w : WireState) → l.output ≡ o → l.from ≡ s → IsPaced w.offer w.puts w.tooks w.queue → IsWire net texts st left l w → IsWire net texts now out l (f w)) →
        ((l : Link) (w : WireState) → (l.from ≡ s → l.output ≢ o) → IsWire net texts st left l w → IsWire net texts now out l w) →
        (j : ℕ) (l : Link) (w : WireState) → slice_get net.links j ≡ Some l → slice_get (list_changed_behind d.wires f (out_door d s o)) j ≡ Some w → IsWire net texts now out l w
    at_output o f move keep j l w at got = subst (IsWire net texts now out l) (sym before.2) (by (leads j (out_door d s o)) (out_leads net formed st d kept.laid s o j l at))
      where
        before : (x : WireState) × (slice_get d.wires j ≡ Some x) × (w ≡ cond (leads j (out_door d s o)) (f x) x)
        before = changed_back d.wires f (out_door d s o) j w got

        wire : IsWire net texts st left l before.0
        wire = kept.wires j l before.0 at before.1

        by : (b : Bool) → b ≡ (same l.from s && (l.output == o)) → IsWire net texts now out l (cond b (f before.0) before.0)
        by true is = let m = both (same l.from s) (l.output == o) (sym is) in move l before.0 (eqb-true l.output o m.1) (eqb-true l.from s m.0) (paced j before.0 before.1) wire
        by false is = keep l before.0 apart wire
          where
            apart : l.from ≡ s → l.output ≢ o
            apart p q = let no : false ≡ true = is ∙ ap (λ z. same z s && (l.output == o)) p ∙ ap (λ b. b && (l.output == o)) (test_same s) ∙ ap (λ z. z == o) q ∙ test_same o in cc

    -- where the wire of an input is changed
    at_input : (i : ℕ) (f : WireState → WireState) →
        ((l : Link) (w : WireState) → l.input ≡ i → l.to ≡ s → IsWire net texts st left l w → IsWire net texts now out l (f w)) →
        ((l : Link) (w : WireState) → (l.to ≡ s → l.input ≢ i) → IsWire net texts st left l w → IsWire net texts now out l w) →
        (j : ℕ) (l : Link) (w : WireState) → slice_get net.links j ≡ Some l → slice_get (list_changed_behind d.wires f (in_door d s i)) j ≡ Some w → IsWire net texts now out l w
    at_input i f move keep j l w at got = subst (IsWire net texts now out l) (sym before.2) (by (leads j (in_door d s i)) (in_leads net formed st d kept.laid s i j l at))
      where
        before : (x : WireState) × (slice_get d.wires j ≡ Some x) × (w ≡ cond (leads j (in_door d s i)) (f x) x)
        before = changed_back d.wires f (in_door d s i) j w got

        wire : IsWire net texts st left l before.0
        wire = kept.wires j l before.0 at before.1

        by : (b : Bool) → b ≡ (same l.to s && (l.input == i)) → IsWire net texts now out l (cond b (f before.0) before.0)
        by true is = let m = both (same l.to s) (l.input == i) (sym is) in move l before.0 (eqb-true l.input i m.1) (eqb-true l.to s m.0) wire
        by false is = keep l before.0 apart wire
          where
            apart : l.to ≡ s → l.input ≢ i
            apart p q = let no : false ≡ true = is ∙ ap (λ z. same z s && (l.input == i)) p ∙ ap (λ b. b && (l.input == i)) (test_same s) ∙ ap (λ z. z == i) q ∙ test_same i in cc

    -- where the strand's ends of its wires are closed
    at_end : (code : ℤ) → e ≡ Ended code → (j : ℕ) (l : Link) (w : WireState) → slice_get net.links j ≡ Some l →
        slice_get (wires_changed in_shut (inputs_of (slice_get d.doors s)) (wires_changed out_shut (outputs_of (slice_get d.doors s)) d.wires)) j ≡ Some w → IsWire net texts now out l w
    at_end code is j l w at got =
        subst (IsWire net texts now out l)
        (sym (last.2 ∙ ap (λ z. cond (leads_any j inputs) (in_shut z) z) first.2 ∙ same_wire (leads_any j outputs) (leads_any j inputs) (same l.from s) (same l.to s) first.0
        (outputs_lead net formed st d kept.laid s j l at) (inputs_lead net formed st d kept.laid s j l at)))
        (ended_wire code is l first.0 (kept.wires j l first.0 at first.1))
      where
        inputs : List (Option ℕ)
        inputs = inputs_of (slice_get d.doors s)

        outputs : List (Option ℕ)
        outputs = outputs_of (slice_get d.doors s)

        last : (x : WireState) × (slice_get (wires_changed out_shut outputs d.wires) j ≡ Some x) × (w ≡ cond (leads_any j inputs) (in_shut x) x)
        last = all_changed_back in_shut (λ x. refl) inputs (wires_changed out_shut outputs d.wires) j w got

        first : (x : WireState) × (slice_get d.wires j ≡ Some x) × (last.0 ≡ cond (leads_any j outputs) (out_shut x) x)
        first = all_changed_back out_shut (λ x. refl) outputs d.wires j last.0 last.1

        shut : (a b : Bool) (x : WireState) → cond b (in_shut (cond a (out_shut x) x)) (cond a (out_shut x) x) ≡ record x { out_closed = cond a true x.out_closed; in_closed = cond b true x.in_closed }
        shut true true x = refl
        shut true false x = refl
        shut false true x = refl
        shut false false x = refl

        same_wire : (a b a' b' : Bool) (x : WireState) → a ≡ a' → b ≡ b' → cond b (in_shut (cond a (out_shut x) x)) (cond a (out_shut x) x) ≡ record x { out_closed = cond a' true x.out_closed; in_closed = cond b' true x.in_closed }
        same_wire a b a' b' x p q =
            shut a b x ∙ ap (λ z. record x { out_closed = cond z true x.out_closed; in_closed = cond b true x.in_closed }) p
            ∙ ap (λ z. record x { out_closed = cond a' true x.out_closed; in_closed = cond z true x.in_closed }) q

    -- each wire stands for its link after the turn
    pub wires_made : (j : ℕ) (l : Link) (w : WireState) → slice_get net.links j ≡ Some l → slice_get (rest_after_turn d s (told e)).wires j ≡ Some w → IsWire net texts now out l w
    wires_made j l w at got = by e refl got
      where
        alone : (f : Event) → e ≡ f → ends (told f) ≡ false → ((o : ℕ) → writes_on o f ≡ false) → ((i : ℕ) → is_took i f ≡ false) → slice_get d.wires j ≡ Some w → IsWire net texts now out l w
        alone f is quiet off idle got =
            still l w (kept.wires j l w at got) (ap (λ z. ends (told z)) is ∙ quiet) (λ z. ap (writes_on l.output) is ∙ off l.output) (λ z. ap (is_took l.input) is ∙ idle l.input)

        by : (f : Event) → e ≡ f → slice_get (rest_after_turn d s (told f)).wires j ≡ Some w → IsWire net texts now out l w
        by (Put o rec) is got = at_output o settled
            (λ m x a b. put_wire m x rec (is ∙ ap (λ z. Put z rec) (sym a)) b)
            (λ m x a wire. still m x wire (ap (λ z. ends (told z)) is) (λ z. ap (writes_on m.output) is ∙ ne_eqb o m.output (λ q. a z (sym q))) (λ z. ap (is_took m.input) is))
            j l w at got
        by (Refused o) is got = at_output o cleared
            (λ m x a b pace. refused_wire m x (is ∙ ap Refused (sym a)) b)
            (λ m x a wire. still m x wire (ap (λ z. ends (told z)) is) (λ z. ap (writes_on m.output) is ∙ ne_eqb o m.output (λ q. a z (sym q))) (λ z. ap (is_took m.input) is))
            j l w at got
        by (Took i) is got = at_input i taken
            (λ m x a b. took_wire m x (is ∙ ap Took (sym a)) b)
            (λ m x a wire. still m x wire (ap (λ z. ends (told z)) is) (λ z. ap (writes_on m.output) is) (λ z. ap (is_took m.input) is ∙ ne_eqb i m.input (λ q. a z (sym q))))
            j l w at got
        by (Ended code) is got = at_end code is j l w at got
        by (Up level code) is got = alone (Up level code) is refl (λ o. refl) (λ i. refl) got
        by (Saw i rec) is got = alone (Saw i rec) is refl (λ o. refl) (λ i. refl) got
        by (SawEnd i) is got = alone (SawEnd i) is refl (λ o. refl) (λ i. refl) got
        by SawAllEnd is got = alone SawAllEnd is refl (λ o. refl) (λ i. refl) got
        by (Primed b) is got = alone (Primed b) is refl (λ o. refl) (λ i. refl) got
        by (Opened n) is got = alone (Opened n) is refl (λ o. refl) (λ i. refl) got
        by (Joined n code) is got = alone (Joined n code) is refl (λ o. refl) (λ i. refl) got
        by (Severed i) is got = alone (Severed i) is refl (λ o. refl) (λ i. refl) got
