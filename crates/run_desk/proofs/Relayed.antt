-- Two strands of which one writes records that the other takes: their events, as they are made one by one, leave the desk and the pool that the calls for both leave.
use Rattle.std.proofs.Common.{◌≡◌, ◌≢◌, inl, inr, ℕ, ◌+◌, ◌-◌, Bool, true, false, cond, ◌&&◌, ◌||◌, not, ◌==◌, List, [], drop, refl, sym, ◌∙◌, ap, subst, arith, Option, Some, None, is_some, slice_get, slice_set}
use Rattle.std.specs.Option.{option_map, option_map_or}
use Rattle.std.proofs.Math.Bool.{or-false}
use Rattle.std.proofs.lemmas.Bool.Decides.{nat_tests}
use Rattle.std.proofs.lemmas.List.{set-get_or}
use Rattle.std.proofs.lemmas.Option.{get_or_from_slice_get}
use Rattle.pipe_model.specs.declared.step.Out.TheVariants.{Fresh}
use Rattle.pipe_model.specs.declared.step.Seen.TheVariants.{Saw, Took, Put}
use Rattle.pipe_model.proofs.Numbers.{equal_or_not, test_same}
use Rattle.pipe_model.proofs.Truths.{both}
use Rattle.record_pool.specs.PoolState.{Held, PoolState}
use Rattle.record_pool.specs.Places.{record_at, holders_of, holders_at, bytes_of, bytes_at, with_record, fresh, refilled, one_more, one_less, shared, given}
use Rattle.record_pool.proofs.Records.{record_at-same, record_at-other}
use Rattle.connectors.specs.WireState.{WireState, is_due, offered_again, taken_again, IsPaced, taken, settled, lined_up, hand_of, given_in, noded_in, pool_taken, pool_settled, CanSettle, IsHeldIn}
use Rattle.run_desk.specs.declared.seat.Ask.{Ask}
use Rattle.run_desk.specs.declared.seat.Ask.TheVariants.{Read, Take, Write}
use Rattle.run_desk.specs.declared.seat.Seat.{Seat}
use Rattle.run_desk.specs.Desk.{DeskState}
use Rattle.run_desk.specs.Telling.{joined, in_door, out_door, sight_door, sight_through, through, wire_in, wire_out}
use Rattle.run_desk.specs.Turns.{list_changed_at, list_changed_behind, hand_on, pool_after_take, pool_after_put, pool_with_room, sights_seen, pool_seen, sees, seat_after, asking, desk_after_turn, pool_after_turn, desk_at_home, desk_at_home_writing, offers, CanTurn, HasWritten}
use Rattle.run_desk.specs.Passing.{desk_passed, pool_passed}
use Rattle.run_desk.specs.Relaying.{IsRelaying, desk_showing, desk_relayed, pool_refilled}
use Rattle.run_desk.proofs.Lists.{changed_here}
use Rattle.run_desk.proofs.Counts.{hold}
use Rattle.run_desk.proofs.Reserves.{changed_twice}
use Rattle.run_desk.proofs.Passes.{changed_alike}
use Rattle.run_desk.proofs.Gives.{holders_held, holders_given, held_here}
use Rattle.run_desk.proofs.Splits.{split_pool, split_desk, apart_of}

-- Lists

-- where a change leaves the item at a place as it is, the list is as before
pub unchanged_at : {A : Type 0} (f : A → A) (xs : List A) (k : ℕ) (x : A) → slice_get xs k ≡ Some x → f x ≡ x → list_changed_behind xs f (Some k) ≡ xs
unchanged_at f xs k x at same = ap (list_changed_at xs k f) at ∙ ap (slice_set xs k) (same ∙ sym (get_or_from_slice_get xs k x x at)) ∙ set-get_or xs k x

-- Wires

-- what is due is due at a rendezvous
pub due_plain : (wire : WireState) → is_due wire ≡ true → wire.queue ≡ None
due_plain wire due = by_queue wire.queue (both (not (is_some wire.queue)) (not (wire.puts == wire.tooks) && not wire.in_closed) due).0
  where
    by_queue : (queue : Option (List ℕ)) → not (is_some queue) ≡ true → queue ≡ None
    by_queue None is = refl
    by_queue (Some waiting) is = cc

-- and as many records were taken as were put, and one more
pub due_ahead : (wire : WireState) → is_due wire ≡ true → IsPaced wire.offer wire.puts wire.tooks wire.queue → wire.tooks ≡ wire.puts + 1
due_ahead wire due paced = by_pace (subst (IsPaced wire.offer wire.puts wire.tooks) (due_plain wire due) paced)
  where
    uneven : not (wire.puts == wire.tooks) ≡ true
    uneven = (both (not (wire.puts == wire.tooks)) (not wire.in_closed) (both (not (is_some wire.queue)) (not (wire.puts == wire.tooks) && not wire.in_closed) due).1).0

    by_pace : IsPaced wire.offer wire.puts wire.tooks None → wire.tooks ≡ wire.puts + 1
    by_pace (inl even) = let not_so : false ≡ true = sym (ap not (ap (λ z. wire.puts == z) even ∙ test_same wire.puts)) ∙ uneven in cc
    by_pace (inr ahead) = ahead.0

-- a record that was put and the next one, offered by the same grip, leave the offer as it was
offers_settled : (wire : WireState) (grip : ℕ) → wire.queue ≡ None → wire.offer ≡ Some grip → wire.reserved ≡ false → offers grip (settled wire) ≡ offered_again wire
offers_settled wire grip plain is bare =
    let W : Option ℕ → Option (List ℕ) → Bool → WireState = λ offer queue reserved. record wire { offer = offer; puts = wire.puts + 1; queue = queue; reserved = reserved } in
    let none : lined_up wire.queue wire.offer ≡ None = ap (λ z. lined_up z wire.offer) plain in
    ap (λ z. W (Some grip) z (is_some z)) (none ∙ sym plain) ∙ ap (W (Some grip) wire.queue) (ap is_some plain ∙ sym bare) ∙ ap (λ z. W z wire.queue wire.reserved) (sym is)

-- and after that is taken, too
taken_offered : (wire : WireState) → wire.queue ≡ None → taken (offered_again wire) ≡ taken_again wire
taken_offered wire plain =
    ap (λ z. record wire { puts = wire.puts + 1; tooks = wire.tooks + 1; queue = z }) (ap (option_map (drop 1)) plain ∙ sym plain)

-- the record is at hand then
hand_again : (wire : WireState) (grip : ℕ) → wire.queue ≡ None → wire.offer ≡ Some grip → wire.tooks ≡ wire.puts + 1 → hand_on (Some (offered_again wire)) ≡ Some grip
hand_again wire grip plain is ahead =
    ap (hand_of (offered_again wire)) plain ∙ ap (λ b. cond b wire.offer None) (ap (λ z. z == wire.tooks) (sym ahead) ∙ test_same wire.tooks) ∙ is

-- what is due stays so
due_still : (wire : WireState) → is_due wire ≡ true → is_due (taken_again wire) ≡ true
due_still wire due =
    let same : (wire.puts + 1 == wire.tooks + 1) ≡ (wire.puts == wire.tooks) = grind (arith, nat_tests) in
    ap (λ b. not (is_some wire.queue) && (not b && not wire.in_closed)) same ∙ due

-- Seats

-- who asked to write, and was told that it was put, asks to write again
writer_same : (seat : Seat) (o : ℕ) → seat.ask ≡ Write o → asking (Write o) (seat_after (Put o) seat) ≡ seat
writer_same seat o is =
    let S : Ask → Bool → Bool → Seat = λ a e h. record { ask = a; has_ended = e; has_seen = h } in
    ap (λ e. S (Write o) e (seat.has_seen || false)) (or-false seat.has_ended) ∙ ap (S (Write o) seat.has_ended) (or-false seat.has_seen) ∙ ap (λ a. S a seat.has_ended seat.has_seen) (sym is)

-- who saw a record, took it and looks at the next one, is as it was where it saw one before
reader_same : (seat : Seat) → seat.ask ≡ Read 0 → seat.has_seen ≡ true → asking (Read 0) (seat_after (Took 0) (asking (Take 0) (seat_after (Saw 0) seat))) ≡ seat
reader_same seat is has =
    let S : Ask → Bool → Bool → Seat = λ a e h. record { ask = a; has_ended = e; has_seen = h } in
    ap (λ e. S (Read 0) e ((seat.has_seen || true) || false)) (or-false (seat.has_ended || false) ∙ or-false seat.has_ended)
    ∙ ap (S (Read 0) seat.has_ended) (ap (λ b. (b || true) || false) has ∙ sym has) ∙ ap (λ a. S a seat.has_ended seat.has_seen) (sym is)

-- The pool

-- of two holds none is left where both are given back
twice_less : (place : Option Held) → holders_of place ≡ 2 → one_less (one_less place) ≡ None
twice_less None two = refl
twice_less (Some held) two = ap (λ k. one_less (one_less (Some (record held { holders = k })))) two

-- the pool where one hold on a record was split off, the other given back, and a new record put at its place
abbrev pub pool_rewritten : PoolState → ℕ → ℕ → List ℕ → PoolState
pool_rewritten pool grip g bytes = with_record (given (split_pool pool grip g) grip) grip (Some (fresh bytes))

-- the place is empty before
emptied_there : (pool : PoolState) (grip g : ℕ) → holders_at pool grip ≡ 2 → g ≢ grip → record_at (given (split_pool pool grip g) grip) grip ≡ None
emptied_there pool grip g two apart =
    record_at-same (split_pool pool grip g) grip (one_less (record_at (split_pool pool grip g) grip))
    ∙ ap one_less (record_at-other (given pool grip) g grip (Some (fresh (bytes_at pool grip))) (λ e. apart (sym e)) ∙ record_at-same pool grip (one_less (record_at pool grip)))
    ∙ twice_less (record_at pool grip) two

-- and where that is shared, and the copy given back, the record is as if the new bytes had been put in place of the old
refilled_so : (pool : PoolState) (grip g : ℕ) (bytes : List ℕ) → holders_at pool grip ≡ 2 → record_at pool g ≡ None → g ≢ grip → (x : ℕ) →
    record_at (pool_refilled pool grip bytes) x ≡ record_at (given (shared (pool_rewritten pool grip g bytes) grip) g) x
refilled_so pool grip g bytes two free apart x = elim (equal_or_not x grip) [
  | inl is ↦ ap (record_at (pool_refilled pool grip bytes)) is ∙ here ∙ sym (ap (record_at (given p2 g)) is)
  | inr other ↦ elim (equal_or_not x g) [
    | inl is ↦ ap (record_at (pool_refilled pool grip bytes)) is ∙ there ∙ sym (ap (record_at (given p2 g)) is)
    | inr far ↦
        record_at-other pool grip x (Some (refilled bytes (holders_at pool grip))) other
        ∙ sym (
        record_at-other p2 g x (one_less (record_at p2 g)) far ∙ before x other
        ∙ record_at-other (given pool grip) g x (Some (fresh (bytes_at pool grip))) far ∙ record_at-other pool grip x (one_less (record_at pool grip)) other
        )
  ]
]
  where
    p0 : PoolState
    p0 = split_pool pool grip g

    p1 : PoolState
    p1 = pool_rewritten pool grip g bytes

    p2 : PoolState
    p2 = shared p1 grip

    before : (y : ℕ) → y ≢ grip → record_at p2 y ≡ record_at p0 y
    before y other = record_at-other p1 grip y (one_more (record_at p1 grip)) other ∙ record_at-other (given p0 grip) grip y (Some (fresh bytes)) other ∙ record_at-other p0 grip y (one_less (record_at p0 grip)) other

    here : record_at (pool_refilled pool grip bytes) grip ≡ record_at (given p2 g) grip
    here =
        record_at-same pool grip (Some (refilled bytes (holders_at pool grip))) ∙ ap (λ k. Some (refilled bytes k)) two
        ∙ sym (
        record_at-other p2 g grip (one_less (record_at p2 g)) (λ e. apart (sym e)) ∙ record_at-same p1 grip (one_more (record_at p1 grip)) ∙ ap one_more (record_at-same (given p0 grip) grip (Some (fresh bytes)))
        )

    there : record_at (pool_refilled pool grip bytes) g ≡ record_at (given p2 g) g
    there =
        record_at-other pool grip g (Some (refilled bytes (holders_at pool grip))) apart ∙ free
        ∙ sym (record_at-same p2 g (one_less (record_at p2 g)) ∙ ap one_less (before g apart ∙ record_at-same (given pool grip) g (Some (fresh (bytes_at pool grip)))))

module _ (d : DeskState) (pool : PoolState) (s o t link grip g n : ℕ) (bytes : List ℕ) (relays : IsRelaying d pool t link grip) (number : relays.saw.0 ≡ n) (out : out_door d s o ≡ Some link)
    (into : in_door d t 0 ≡ Some link) (free : record_at pool g ≡ None) (writer : (seat : Seat) × (slice_get d.seats s ≡ Some seat) × (seat.ask ≡ Write o)) (bare : relays.due.0.reserved ≡ false)
    (paced : IsPaced relays.due.0.offer relays.due.0.puts relays.due.0.tooks relays.due.0.queue) where
  -- the desk and the pool where the sight holds a copy
  abbrev pub d0 : DeskState
  d0 = split_desk d n g

  abbrev pub pool0 : PoolState
  pool0 = split_pool pool grip g

  -- and after the writer's record was put, and it came home to write the next one
  abbrev pub d1 : DeskState
  d1 = desk_at_home_writing (desk_after_turn d0 s (Put o)) s o grip

  abbrev pub pool1 : PoolState
  pool1 = with_record (pool_after_turn d0 pool0 s (Put o)) grip (Some (fresh bytes))

  -- the wire between them
  abbrev w : WireState
  w = relays.due.0

  there : slice_get d.wires link ≡ Some w
  there = relays.due.1

  plain : w.queue ≡ None
  plain = due_plain w relays.due.2

  ahead : w.tooks ≡ w.puts + 1
  ahead = due_ahead w relays.due.2 paced

  sight : sight_door d t 0 ≡ Some n
  sight = relays.saw.1 ∙ ap Some number

  seen : slice_get d.sights n ≡ Some (Some grip)
  seen = ap (slice_get d.sights) (sym number) ∙ relays.saw.2

  apart : g ≢ grip
  apart = apart_of pool grip g (holders_held pool grip (omega (arith, relays.two))) free

  -- The writer's record is put

  put_pool : pool_after_turn d0 pool0 s (Put o) ≡ given pool0 grip
  put_pool = ap (λ z. pool_after_put pool0 (through d.wires z)) out ∙ ap (pool_after_put pool0) there ∙ ap (pool_settled pool0 w) plain ∙ ap (given_in pool0) relays.due.3

  put_wire : wire_out (desk_after_turn d0 s (Put o)) s o ≡ Some (settled w)
  put_wire = ap (λ z. through (list_changed_behind d.wires settled z) z) out ∙ changed_here d.wires settled link ∙ ap (option_map settled) there

  no_room : (p : PoolState) → pool_with_room p (wire_out (desk_after_turn d0 s (Put o)) s o) ≡ p
  no_room p = ap (pool_with_room p) put_wire ∙ ap (λ z. noded_in p (lined_up z w.offer)) plain

  -- it may be put
  pub can_put : CanTurn d0 pool0 s (Put o)
  can_put wire at = subst (λ z. CanSettle pool0 z z.queue) same (subst (CanSettle pool0 w) (sym plain) (ahead, subst (IsHeldIn pool0) (sym relays.due.3) held))
    where
      both_are : Some w ≡ Some wire
      both_are = sym there ∙ sym (ap (through d.wires) out) ∙ at

      same : w ≡ wire
      same = cc

      held : IsHeldIn pool0 (Some grip)
      held = holders_held pool0 grip (omega (arith, one_left))
        where
          one_left : holders_at pool0 grip ≡ 1
          one_left = ap holders_of (record_at-other (given pool grip) g grip (Some (fresh (bytes_at pool grip))) (λ e. apart (sym e)))
              ∙ holders_given pool (Some grip) grip ∙ ap (λ k. k - hold grip (Some grip)) relays.two ∙ ap (λ k. 2 - k) (held_here grip grip refl)

  -- the next one is written by the same grip
  pub fresh_there : record_at (pool_with_room (pool_after_turn d0 pool0 s (Put o)) (wire_out (desk_after_turn d0 s (Put o)) s o)) grip ≡ None
  fresh_there = ap (λ p. record_at p grip) (no_room (pool_after_turn d0 pool0 s (Put o)) ∙ put_pool) ∙ emptied_there pool grip g relays.two apart

  pub written : HasWritten (desk_after_turn d0 s (Put o)) (pool_after_turn d0 pool0 s (Put o)) s o (Fresh bytes) d1 pool1
  written = record {
    grip = grip;
    hold = (fresh_there, ap (λ p. with_record p grip (Some (fresh bytes))) (sym (no_room (pool_after_turn d0 pool0 s (Put o)))));
    home = refl;
  }

  -- the pool then
  pool1_is : pool1 ≡ pool_rewritten pool grip g bytes
  pool1_is = ap (λ p. with_record p grip (Some (fresh bytes))) put_pool

  -- and the desk: the next record is offered, and the sight holds the copy
  abbrev desk_put : DeskState
  desk_put = record d { wires = list_changed_behind d.wires offered_again (Some link); sights = list_changed_behind d.sights (λ old. Some g) (Some n) }

  d1_is : d1 ≡ desk_put
  d1_is = ap (λ z. record desk_put { seats = z; wires = list_changed_behind (list_changed_behind d.wires settled (out_door d s o)) (offers grip) (out_door d s o) }) seats_are ∙ ap (λ z. record desk_put { wires = z }) wires_are
    where
      seats_are : list_changed_behind (list_changed_behind d.seats (seat_after (Put o)) (Some s)) (asking (Write o)) (Some s) ≡ d.seats
      seats_are = changed_twice (seat_after (Put o)) (asking (Write o)) d.seats (Some s)
          ∙ unchanged_at (λ seat. asking (Write o) (seat_after (Put o) seat)) d.seats s writer.0 writer.1 (writer_same writer.0 o writer.2)

      same_wire : (wire : WireState) → slice_get d.wires link ≡ Some wire → offers grip (settled wire) ≡ offered_again wire
      same_wire wire at = let both_are : Some w ≡ Some wire = sym there ∙ at in let same : w ≡ wire = cc in
          subst (λ z. offers grip (settled z) ≡ offered_again z) same (offers_settled w grip plain relays.due.3 bare)

      wires_are : list_changed_behind (list_changed_behind d.wires settled (out_door d s o)) (offers grip) (out_door d s o) ≡ list_changed_behind d.wires offered_again (Some link)
      wires_are = ap (λ z. list_changed_behind (list_changed_behind d.wires settled z) (offers grip) z) out ∙ changed_twice settled (offers grip) d.wires (Some link)
          ∙ changed_alike (λ wire. offers grip (settled wire)) offered_again d.wires link same_wire

  -- The reader sees it

  hand_then : hand_on (wire_in desk_put t 0) ≡ Some grip
  hand_then = ap (λ z. hand_on (through desk_put.wires z)) into ∙ ap hand_on (changed_here d.wires offered_again link ∙ ap (option_map offered_again) there) ∙ hand_again w grip plain relays.due.3 ahead

  sights_back : sights_seen desk_put.sights (sight_door d t 0) (hand_on (wire_in desk_put t 0)) ≡ d.sights
  sights_back = ap (sights_seen desk_put.sights (sight_door d t 0)) hand_then ∙ ap (list_changed_behind desk_put.sights (λ old. Some grip)) sight
      ∙ changed_twice (λ old. Some g) (λ old. Some grip) d.sights (Some n) ∙ unchanged_at (λ old. Some grip) d.sights n (Some grip) seen refl

  -- the desk is the one of the call for both
  pub shown_desk : desk_after_turn d1 t (Saw 0) ≡ desk_showing d t link
  shown_desk = ap (λ z. desk_after_turn z t (Saw 0)) d1_is ∙ ap (λ z. record (desk_showing d t link) { sights = z }) sights_back

  shown_pool_is : pool_after_turn d1 pool1 t (Saw 0) ≡ given (shared (pool_rewritten pool grip g bytes) grip) g
  shown_pool_is = ap (λ z. pool_after_turn z pool1 t (Saw 0)) d1_is ∙ ap (λ p. pool_after_turn desk_put p t (Saw 0)) pool1_is
      ∙ ap (pool_seen (pool_rewritten pool grip g bytes) (sight_through desk_put.sights (sight_door d t 0))) hand_then
      ∙ ap (given_in (shared (pool_rewritten pool grip g bytes) grip)) held_then
    where
      held_then : sight_through desk_put.sights (sight_door d t 0) ≡ Some g
      held_then = ap (sight_through desk_put.sights) sight ∙ ap joined (changed_here d.sights (λ old. Some g) n ∙ ap (option_map (λ old. Some g)) seen)

  -- and so is the pool at each place, with as many places in queues
  pub shown_pool : (x : ℕ) → record_at (pool_refilled pool grip bytes) x ≡ record_at (pool_after_turn d1 pool1 t (Saw 0)) x
  shown_pool x = refilled_so pool grip g bytes relays.two free apart x ∙ ap (λ p. record_at p x) (sym shown_pool_is)

  pub shown_nodes : (pool_refilled pool grip bytes).nodes ≡ (pool_after_turn d1 pool1 t (Saw 0)).nodes
  shown_nodes = ap (λ (p : PoolState). p.nodes) (sym shown_pool_is)

  -- what it sees are these bytes
  pub shown_bytes : option_map_or (bytes_at (pool_after_turn d1 pool1 t (Saw 0))) (sight_through (desk_after_turn d1 t (Saw 0)).sights (sight_door (desk_after_turn d1 t (Saw 0)) t 0)) [] ≡ bytes
  shown_bytes =
      ap (λ (z : DeskState). option_map_or (bytes_at (pool_after_turn d1 pool1 t (Saw 0))) (sight_through z.sights (sight_door z t 0)) []) shown_desk
      ∙ ap (λ z. option_map_or (bytes_at (pool_after_turn d1 pool1 t (Saw 0))) (sight_through d.sights z) []) sight
      ∙ ap (λ z. option_map_or (bytes_at (pool_after_turn d1 pool1 t (Saw 0))) (joined z) []) seen
      ∙ ap bytes_of (sym (shown_pool grip) ∙ record_at-same pool grip (Some (refilled bytes (holders_at pool grip))))

  -- It takes that, too, and looks at the next one

  pub passed_desk : desk_passed d1 t (Saw 0) 0 ≡ desk_relayed d link
  passed_desk = ap (λ z. desk_at_home (desk_after_turn (desk_at_home z t (Take 0)) t (Took 0)) t (Read 0)) shown_desk
      ∙ ap (λ z. record (desk_relayed d link) { seats = z; wires = list_changed_behind (list_changed_behind d.wires offered_again (Some link)) taken (in_door d t 0) }) seats_back
      ∙ ap (λ z. record (desk_relayed d link) { wires = z }) wires_are
    where
      seats_back : list_changed_behind (list_changed_behind (list_changed_behind (list_changed_behind d.seats (seat_after (Saw 0)) (Some t)) (asking (Take 0)) (Some t)) (seat_after (Took 0)) (Some t)) (asking (Read 0)) (Some t) ≡ d.seats
      seats_back =
          ap (λ z. list_changed_behind (list_changed_behind z (seat_after (Took 0)) (Some t)) (asking (Read 0)) (Some t)) (changed_twice (seat_after (Saw 0)) (asking (Take 0)) d.seats (Some t))
          ∙ ap (λ z. list_changed_behind z (asking (Read 0)) (Some t)) (changed_twice (λ seat. asking (Take 0) (seat_after (Saw 0) seat)) (seat_after (Took 0)) d.seats (Some t))
          ∙ changed_twice (λ seat. seat_after (Took 0) (asking (Take 0) (seat_after (Saw 0) seat))) (asking (Read 0)) d.seats (Some t)
          ∙ unchanged_at (λ seat. asking (Read 0) (seat_after (Took 0) (asking (Take 0) (seat_after (Saw 0) seat)))) d.seats t relays.reads.0 relays.reads.1 (reader_same relays.reads.0 relays.reads.2 relays.reads.3)

      same_wire : (wire : WireState) → slice_get d.wires link ≡ Some wire → taken (offered_again wire) ≡ taken_again wire
      same_wire wire at = let both_are : Some w ≡ Some wire = sym there ∙ at in let same : w ≡ wire = cc in subst (λ z. taken (offered_again z) ≡ taken_again z) same (taken_offered w plain)

      wires_are : list_changed_behind (list_changed_behind d.wires offered_again (Some link)) taken (in_door d t 0) ≡ list_changed_behind d.wires taken_again (Some link)
      wires_are = ap (list_changed_behind (list_changed_behind d.wires offered_again (Some link)) taken) into ∙ changed_twice offered_again taken d.wires (Some link)
          ∙ changed_alike (λ wire. taken (offered_again wire)) taken_again d.wires link same_wire

  -- from a rendezvous nothing is given back
  passed_pool_is : pool_passed d1 pool1 t (Saw 0) 0 ≡ pool_after_turn d1 pool1 t (Saw 0)
  passed_pool_is =
      ap (λ (z : DeskState). pool_after_take (pool_after_turn d1 pool1 t (Saw 0)) (wire_in z t 0)) shown_desk ∙ ap (λ z. pool_after_take (pool_after_turn d1 pool1 t (Saw 0)) (through desk_put.wires z)) into
      ∙ ap (pool_after_take (pool_after_turn d1 pool1 t (Saw 0))) (changed_here d.wires offered_again link ∙ ap (option_map offered_again) there)
      ∙ ap (pool_taken (pool_after_turn d1 pool1 t (Saw 0)) (offered_again w)) plain

  pub passed_pool : (x : ℕ) → record_at (pool_refilled pool grip bytes) x ≡ record_at (pool_passed d1 pool1 t (Saw 0) 0) x
  passed_pool x = shown_pool x ∙ ap (λ p. record_at p x) (sym passed_pool_is)

  pub passed_nodes : (pool_refilled pool grip bytes).nodes ≡ (pool_passed d1 pool1 t (Saw 0) 0).nodes
  passed_nodes = shown_nodes ∙ ap (λ (p : PoolState). p.nodes) (sym passed_pool_is)

  -- and the next record may be shown as this one was
  pub relaying_still : IsRelaying (desk_relayed d link) (pool_refilled pool grip bytes) t link grip
  relaying_still = record {
    reads = relays.reads;
    due = (taken_again w, changed_here d.wires taken_again link ∙ ap (option_map taken_again) there, due_still w relays.due.2, relays.due.3);
    saw = relays.saw;
    two = ap holders_of (record_at-same pool grip (Some (refilled bytes (holders_at pool grip)))) ∙ relays.two;
  }
