-- Two events of a strand that passes records on, as one call makes them.
use Rattle.std.proofs.Common.{◌≡◌, ℕ, ◌<◌, Bool, true, false, ◌||◌, List, length, refl, sym, ◌∙◌, ap, subst, Option, Some, None, is_some, slice_get, slice_set}
use Rattle.std.specs.Prelude.{IsSome}
use Rattle.std.specs.Option.{option_map}
use Rattle.std.proofs.Math.Bool.{or-false}
use Rattle.std.proofs.lemmas.Option.{slice_get-get_or, slice_get_within}
use Rattle.pipe_model.specs.declared.step.Out.TheVariants.{Same}
use Rattle.pipe_model.specs.declared.step.Seen.{Seen}
use Rattle.pipe_model.specs.declared.step.Seen.TheVariants.{Up, Saw, Took, Put, Refused, Ended}
use Rattle.record_pool.specs.PoolState.{PoolState}
use Rattle.record_pool.specs.Places.{shared}
use Rattle.connectors.specs.WireState.{WireState, taken, settled, offered, noded_in, given_in}
use Rattle.run_desk.specs.declared.seat.Ask.TheVariants.{Read, Take, Write}
use Rattle.run_desk.specs.declared.seat.Seat.{Seat}
use Rattle.run_desk.specs.Desk.{DeskState}
use Rattle.run_desk.specs.Telling.{joined, inputs_of, shows, in_door, out_door, sight_door, sight_through, through, wire_in, wire_out}
use Rattle.run_desk.specs.Turns.{list_changed_at, list_changed_behind, hand_on, pool_with_room, sights_seen, pool_seen, ends, sees, seat_after, asking, rest_after_turn, desk_after_turn, pool_after_turn, HasSight, Behind, offers, CanShare, CanHold, HasWritten}
use Rattle.run_desk.specs.Passing.{desk_passed, IsBy}
use Rattle.run_desk.proofs.Lists.{changed_here}
use Rattle.run_desk.proofs.Reserves.{changed_twice}

-- two changes that make the same of the item at a place make the same of the list
pub changed_alike : {A : Type 0} (f g : A → A) (xs : List A) (k : ℕ) → ((x : A) → slice_get xs k ≡ Some x → f x ≡ g x) → list_changed_behind xs f (Some k) ≡ list_changed_behind xs g (Some k)
changed_alike {A} f g xs k same = go (slice_get xs k) refl
  where
    go : (x : Option A) → slice_get xs k ≡ x → list_changed_at xs k f x ≡ list_changed_at xs k g x
    go None at = refl
    go (Some x) at = ap (slice_set xs k) (same x at)

-- the seat after both events is that after the first, but for what it asks
seat_passed : (seen : Seen) (i : ℕ) (seat : Seat) → asking (Read i) (seat_after seen seat) ≡ asking (Read i) (seat_after (Took i) (asking (Take i) (seat_after seen seat)))
seat_passed seen i seat =
    let S : Bool → Bool → Seat = λ e h. record { ask = Read i; has_ended = e; has_seen = h } in
    let ended : Bool = seat.has_ended || ends seen in
    let has : Bool = seat.has_seen || sees seen in
    ap (λ e. S e has) (sym (or-false ended)) ∙ ap (S (ended || ends (Took i))) (sym (or-false has))

-- and so are the seats
seats_passed : (seats : List Seat) (s : ℕ) (seen : Seen) (i : ℕ) →
    list_changed_behind (list_changed_behind seats (seat_after seen) (Some s)) (asking (Read i)) (Some s)
    ≡ list_changed_behind (list_changed_behind (list_changed_behind (list_changed_behind seats (seat_after seen) (Some s)) (asking (Take i)) (Some s)) (seat_after (Took i)) (Some s))
    (asking (Read i)) (Some s)
seats_passed seats s seen i =
    let told : Seat → Seat = seat_after seen in
    let takes : Seat → Seat = λ seat. asking (Take i) (told seat) in
    let took : Seat → Seat = λ seat. seat_after (Took i) (takes seat) in
    let reads : Seat → Seat = asking (Read i) in
    changed_twice told reads seats (Some s)
    ∙ changed_alike (λ seat. reads (told seat)) (λ seat. reads (took seat)) seats s (λ seat at. seat_passed seen i seat)
    ∙ sym (
    ap (λ z. list_changed_behind (list_changed_behind z (seat_after (Took i)) (Some s)) reads (Some s)) (changed_twice told (asking (Take i)) seats (Some s))
    ∙ ap (λ z. list_changed_behind z reads (Some s)) (changed_twice takes (seat_after (Took i)) seats (Some s))
    ∙ changed_twice took reads seats (Some s)
    )

-- but for the seat, no event changes the seats
rest_seats : (d : DeskState) (s : ℕ) (seen : Seen) → (rest_after_turn d s seen).seats ≡ d.seats
rest_seats d s (Up level code) = refl
rest_seats d s (Saw i) = refl
rest_seats d s (Took i) = refl
rest_seats d s (Put o) = refl
rest_seats d s (Refused o) = refl
rest_seats d s (Ended code) = refl
rest_seats d s _ = refl

-- the desk after the strand was told this, took the record and came home to look at the next one
abbrev pub rest_passed : DeskState → ℕ → Seen → ℕ → DeskState
rest_passed rest s seen i = record rest {
  seats = list_changed_behind (list_changed_behind rest.seats (seat_after seen) (Some s)) (asking (Read i)) (Some s);
  wires = list_changed_behind rest.wires taken (in_door rest s i);
}

-- is that after both events
pub passed_in_one : (d rest : DeskState) (s : ℕ) (seen : Seen) (i : ℕ) → rest ≡ rest_after_turn d s seen → rest_passed rest s seen i ≡ desk_passed d s seen i
passed_in_one d rest s seen i is = ap (λ (r : DeskState). rest_passed r s seen i) is ∙ ap with_seats (seats_are ∙ seats_passed d.seats s seen i)
  where
    told : DeskState
    told = rest_after_turn d s seen

    with_seats : List Seat → DeskState
    with_seats seats = record told { seats = seats; wires = list_changed_behind told.wires taken (in_door told s i) }

    seats_are : list_changed_behind (list_changed_behind told.seats (seat_after seen) (Some s)) (asking (Read i)) (Some s)
        ≡ list_changed_behind (list_changed_behind d.seats (seat_after seen) (Some s)) (asking (Read i)) (Some s)
    seats_are = ap (λ z. list_changed_behind (list_changed_behind z (seat_after seen) (Some s)) (asking (Read i)) (Some s)) (rest_seats d s seen)

-- nor the doors
rest_doors : (d : DeskState) (s : ℕ) (seen : Seen) → (rest_after_turn d s seen).doors ≡ d.doors
rest_doors d s (Up level code) = refl
rest_doors d s (Saw i) = refl
rest_doors d s (Took i) = refl
rest_doors d s (Put o) = refl
rest_doors d s (Refused o) = refl
rest_doors d s (Ended code) = refl
rest_doors d s _ = refl

-- who put a record settled the wire behind this door
pub told_put : (d : DeskState) (s : ℕ) (seen : Seen) (i link : ℕ) (put : Option ℕ) → put ≡ Some link → IsBy d s seen i put →
    record d { wires = list_changed_behind d.wires settled (Some link) } ≡ rest_after_turn d s seen
told_put d s (Saw k) i link put is by = let none : None ≡ Some link = sym by.1 ∙ is in cc none
told_put d s (Put o) i link put is by = ap (λ z. record d { wires = list_changed_behind d.wires settled z }) (sym is ∙ by.1 ∙ sym by.2)
told_put d s _ i link put is by = absurd by

-- who put none saw the record of the input
pub told_saw : (d : DeskState) (s : ℕ) (seen : Seen) (i from : ℕ) (put : Option ℕ) → put ≡ None → IsBy d s seen i put → in_door d s i ≡ Some from →
    record d { sights = sights_seen d.sights (sight_door d s i) (hand_on (through d.wires (Some from))) } ≡ rest_after_turn d s seen
told_saw d s (Saw k) i from put is by door =
    ap (λ z. record d { sights = sights_seen d.sights (sight_door d s i) (hand_on (through d.wires z)) }) (sym door) ∙ ap (λ z. rest_after_turn d s (Saw z)) (sym by.0)
told_saw d s (Put o) i from put is by door = let none : None ≡ Some by.0 = sym is ∙ by.1 in cc none
told_saw d s _ i from put is by door = absurd by

-- and where this link leads to the input, the desk is that after both events
pub passed_behind : (d rest : DeskState) (s i from : ℕ) (seen : Seen) → rest ≡ rest_after_turn d s seen → in_door d s i ≡ Some from →
    record rest { seats = list_changed_behind (list_changed_behind rest.seats (seat_after seen) (Some s)) (asking (Read i)) (Some s); wires = list_changed_behind rest.wires taken (Some from) }
    ≡ desk_passed d s seen i
passed_behind d rest s i from seen is door = ap with_door (sym here) ∙ passed_in_one d rest s seen i is
  where
    here : in_door rest s i ≡ Some from
    here = ap (λ (r : DeskState). in_door r s i) is ∙ ap (λ z. joined (slice_get (inputs_of (slice_get z s)) i)) (rest_doors d s seen) ∙ door

    with_door : Option ℕ → DeskState
    with_door door = record rest {
      seats = list_changed_behind (list_changed_behind rest.seats (seat_after seen) (Some s)) (asking (Read i)) (Some s);
      wires = list_changed_behind rest.wires taken door;
    }

-- A record is seen and written on

-- the sight of this number is there
pub sight_within : (sights : List (Option ℕ)) (door : Option ℕ) (n : ℕ) → door ≡ Some n → HasSight sights door → n < length sights
sight_within sights door n is has = let both : Some has.0 ≡ Some n = sym has.1 ∙ is in let same : has.0 ≡ n = cc in subst (λ z. z < length sights) same has.2

-- and the wire that a door leads to
pub wire_within : (wires : List WireState) (door : Option ℕ) (link : ℕ) → door ≡ Some link → IsSome (through wires door) → link < length wires
wire_within wires door link is some = go (slice_get wires link) refl (subst (λ z. IsSome (through wires z)) is some)
  where
    go : (x : Option WireState) → slice_get wires link ≡ x → IsSome x → link < length wires
    go None at some = cc
    go (Some wire) at some = slice_get_within wires link wire at

-- where a record shows there is a wire
pub some_shown : (x : Option WireState) → shows x ≡ true → IsSome x
some_shown None is = cc
some_shown (Some wire) is = refl

-- the desk after a strand saw this record, in the sight of this number, and came home to write it on an output that leads to this wire
abbrev pub desk_passing : DeskState → ℕ → ℕ → ℕ → ℕ → ℕ → ℕ → DeskState
desk_passing d s i o n link grip = record d {
  seats = list_changed_behind (list_changed_behind d.seats (seat_after (Saw i)) (Some s)) (asking (Write o)) (Some s);
  wires = list_changed_behind d.wires (λ wire. offered wire grip) (Some link);
  sights = list_changed_behind d.sights (λ x. Some grip) (Some n);
}

module _ (d : DeskState) (pool : PoolState) (s i n grip : ℕ) (sight : sight_door d s i ≡ Some n) (hand : hand_on (wire_in d s i) ≡ Some grip) where
  -- the desk and the pool after the sight
  abbrev pub desk_seen : DeskState
  desk_seen = desk_after_turn d s (Saw i)

  abbrev pub pool_seen_on : PoolState
  pool_seen_on = pool_after_turn d pool s (Saw i)

  sights_are : desk_seen.sights ≡ list_changed_behind d.sights (λ x. Some grip) (Some n)
  sights_are = ap (sights_seen d.sights (sight_door d s i)) hand ∙ ap (list_changed_behind d.sights (λ x. Some grip)) sight

  pub pool_is : pool_seen_on ≡ given_in (shared pool grip) (sight_through d.sights (Some n))
  pool_is = ap (pool_seen pool (sight_through d.sights (sight_door d s i))) hand ∙ ap (λ z. given_in (shared pool grip) (sight_through d.sights z)) sight

  -- what was seen is what was at hand
  seen_now : n < length d.sights → sight_through desk_seen.sights (sight_door d s i) ≡ Some grip
  seen_now there =
      ap (sight_through desk_seen.sights) sight ∙ ap (λ z. joined (slice_get z n)) sights_are ∙ ap joined (changed_here d.sights (λ x. Some grip) n)
      ∙ ap (λ x. joined (option_map (λ y. Some grip) x)) (slice_get-get_or d.sights n None there)

  -- so the record can be shared once more
  pub shares_again : n < length d.sights → CanHold desk_seen pool_seen_on s (Same i) → CanShare (given_in (shared pool grip) (sight_through d.sights (Some n))) (Some grip)
  shares_again there can = subst (λ p. CanShare p (Some grip)) pool_is (subst (CanShare pool_seen_on) (seen_now there) can)

  -- and the desk is that of a strand that came home to write it on an output that leads to a rendezvous
  pub passed_on : (o link : ℕ) (new : DeskState) (after : PoolState) → n < length d.sights → out_door d s o ≡ Some link →
      Behind (λ wire. wire.queue ≡ None) d.wires (Some link) → Behind (λ wire. wire.reserved ≡ false) d.wires (out_door d s o) →
      new ≡ desk_passing d s i o n link grip →
      after ≡ shared (given_in (shared pool grip) (sight_through d.sights (Some n))) grip → HasWritten desk_seen pool_seen_on s o (Same i) new after
  passed_on o link new after there door plain free new_is after_is = record {
    grip = grip;
    hold = (seen_now there, after_is ∙ ap (λ p. shared p grip) (sym (no_room (wire_out d s o) (λ wire at. plain wire (sym (ap (through d.wires) door) ∙ at)) ∙ pool_is)));
    home = new_is ∙ ap with_sights (sym sights_are)
        ∙ ap with_wires (changed_alike (λ wire. offered wire grip) (offers grip) d.wires link same_offer ∙ ap (list_changed_behind d.wires (offers grip)) (sym door));
  }
    where
      seats : List Seat
      seats = list_changed_behind (list_changed_behind d.seats (seat_after (Saw i)) (Some s)) (asking (Write o)) (Some s)

      with_sights : List (Option ℕ) → DeskState
      with_sights sights = record d { seats = seats; sights = sights; wires = list_changed_behind d.wires (λ wire. offered wire grip) (Some link) }

      with_wires : List WireState → DeskState
      with_wires wires = record d { seats = seats; sights = desk_seen.sights; wires = wires }

      no_room : (x : Option WireState) → ((wire : WireState) → x ≡ Some wire → wire.queue ≡ None) → pool_with_room pool_seen_on x ≡ pool_seen_on
      no_room None is = refl
      no_room (Some wire) is = ap (noded_in pool_seen_on) (is wire refl)

      same_offer : (wire : WireState) → slice_get d.wires link ≡ Some wire → offered wire grip ≡ offers grip wire
      same_offer wire at =
          let bare : wire.reserved ≡ is_some wire.queue = free wire (ap (through d.wires) door ∙ at) ∙ sym (ap is_some (plain wire at)) in
          ap (λ (b : Bool). record wire { offer = Some grip; reserved = b }) bare
