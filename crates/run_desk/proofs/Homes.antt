-- A desk to which a strand came home stands for the same state, with the strand's want.
use Rattle.std.proofs.Common.{◌≡◌, ◌≢◌, inl, inr, ℕ, Bool, true, false, cond, List, length, refl, sym, ◌∙◌, ap, subst, Option, Some, None, slice_get, slice_set, ℤ}
use Rattle.std.specs.Option.{option_map_or}
use Rattle.std.proofs.lemmas.Bool.{ne_eqb}
use Rattle.pipe_model.specs.declared.net.Net.{Net}
use Rattle.pipe_model.specs.declared.net.Link.{Link}
use Rattle.pipe_model.specs.declared.net.Strand.{Strand}
use Rattle.pipe_model.specs.declared.step.Out.{Out}
use Rattle.pipe_model.specs.declared.step.Want.{Want as Coming}
use Rattle.pipe_model.specs.declared.step.Want.TheVariants as come
use Rattle.pipe_model.specs.Event.{Want, has_ended, has_reached}
use Rattle.pipe_model.specs.Event.Want.{Commit, Write}
use Rattle.pipe_model.specs.Next.{next, wanted_by, IsOwn}
use Rattle.pipe_model.specs.Table.{form}
use Rattle.pipe_model.specs.State.{Who, State, past, strand_at}
use Rattle.pipe_model.specs.Licence.{Left, want_after, want_at, offered}
use Rattle.pipe_model.specs.WellFormed.{IsWellFormed}
use Rattle.pipe_model.proofs.Numbers.{equal_or_not, test_same}
use Rattle.commit_levels.specs.UnitState.{Member, IsLevel, place_of, progress_at, asked_by, IsAt}
use Rattle.commit_levels.specs.UnitState as unit
use Rattle.commit_levels.specs.declared.member.Progress.TheVariants.{NotAsked, Asked, Reached}
use Rattle.commit_levels.specs.Licensed.{IsStrand, WantsNoLevel}
use Rattle.commit_levels.proofs.Agreement.{asks_as}
use Rattle.connectors.specs.WireState.{WireState}
use Rattle.record_pool.specs.PoolState.{Held, PoolState}
use Rattle.record_pool.specs.Places.{place_at, bytes_of, bytes_at, holders_of, holders_at}
use Rattle.stage_steps.specs.Coroutine.{written, meaning, last_seen}
use Rattle.run_desk.specs.declared.seat.Ask.{Ask}
use Rattle.run_desk.specs.declared.seat.Ask.TheVariants as Now
use Rattle.run_desk.specs.declared.seat.Seat.{Seat}
use Rattle.run_desk.specs.Desk.{DeskState}
use Rattle.run_desk.specs.Telling as Telling
use Rattle.run_desk.specs.Standing.{asked, left_in, IsSeat, IsWire, DeskStands}
use Rattle.run_desk.specs.Turns.{list_changed_at, list_changed_behind, offers, asking, unit_at_home, ask_for, desk_at_home_writing, pool_with_room, CanAsk, CanCome, HasWritten, HasCome}
use Rattle.run_desk.specs.Turns.{desk_at_home as coming}
use Rattle.run_desk.specs.Holding.{holds_of, IsPooled}
use Rattle.run_desk.proofs.Behind.{as_long, now_behind, none_before, behind_out, door_out}
use Rattle.run_desk.proofs.Early.{wants_early, early_level}
use Rattle.run_desk.proofs.Offers.{hold_stay, hold_text}
use Rattle.run_desk.proofs.Pooled.{room_records}
use Rattle.run_desk.proofs.Texts.{retext}

-- a want for another output offers nothing here
elsewhere : (o there : ℕ) (rec : List ℕ) → there ≢ o → offered there (Some (Write o rec)) ≡ None
elsewhere o there rec apart = ap (λ b. cond b (Some rec) None) (ne_eqb o there (λ e. apart (sym e)))

module _ (net : Net) (texts : ℕ → List ℕ) (st : State) (left : Left) (d : DeskState) (kept : DeskStands net texts st left d)
    (s : Who) (strand : Strand) (away : left s ≡ true) (at : strand_at net st s ≡ Some strand) (wanted : Want) (wants : Some wanted ≡ next strand (past st s)) where
  abbrev home : Left
  home = left_in left s

  -- Wants

  want_none : want_at net st left s ≡ None
  want_none = ap (λ b. cond b None (want_after (strand_at net st s) (past st s))) away

  want_now : want_at net st home s ≡ Some wanted
  want_now = ap (λ b. cond (cond b false (left s)) None (want_after (strand_at net st s) (past st s))) (test_same s) ∙ ap (λ p. want_after p (past st s)) at ∙ sym wants

  want_other : (t : Who) → t ≢ s → want_at net st home t ≡ want_at net st left t
  want_other t apart = ap (λ b. cond (cond b false (left t)) None (want_after (strand_at net st t) (past st t))) (ne_eqb t s apart)

  -- Wires

  -- one that the strand writes nothing on
  still_wire : (link : Link) (wire : WireState) → IsWire net texts st left link wire → (link.from ≡ s → offered link.output (Some wanted) ≡ None) → IsWire net texts st home link wire
  still_wire link wire is off = record {
    puts = is.puts;
    tooks = is.tooks;
    offer = is.offer ∙ (elim (equal_or_not link.from s) [
      | inl e ↦ ap (λ t. offered link.output (want_at net st left t)) e ∙ ap (offered link.output) want_none
          ∙ sym (ap (λ t. offered link.output (want_at net st home t)) e ∙ ap (offered link.output) want_now ∙ off e)
      | inr apart ↦ ap (offered link.output) (sym (want_other link.from apart))
    ]);
    out_closed = is.out_closed;
    in_closed = is.in_closed;
    queue = is.queue;
  }

  -- and the one that it writes on
  offered_wire : (rec : List ℕ) (grip : ℕ) (link : Link) (wire : WireState) → wanted ≡ Write link.output rec → texts grip ≡ rec → link.from ≡ s →
      IsWire net texts st left link wire → IsWire net texts st home link (offers grip wire)
  offered_wire rec grip link wire writes holds from is = record {
    puts = is.puts;
    tooks = is.tooks;
    offer = ap Some holds ∙ sym (ap (λ t. offered link.output (want_at net st home t)) from ∙ ap (offered link.output) (want_now ∙ ap Some writes)
        ∙ ap (λ b. cond b (Some rec) None) (test_same link.output));
    out_closed = is.out_closed;
    in_closed = is.in_closed;
    queue = is.queue;
  }

  -- the wires of a strand that writes nothing
  wires_plain : ((o : ℕ) → offered o (Some wanted) ≡ None) →
      (j : ℕ) (link : Link) (wire : WireState) → slice_get net.links j ≡ Some link → slice_get d.wires j ≡ Some wire → IsWire net texts st home link wire
  wires_plain off j link wire link_at got = still_wire link wire (kept.wires j link wire link_at got) (λ e. off link.output)

  -- and of one that writes
  wires_writing : IsWellFormed net → (o : ℕ) (rec : List ℕ) (grip : ℕ) → wanted ≡ Write o rec → texts grip ≡ rec →
      (j : ℕ) (link : Link) (wire : WireState) → slice_get net.links j ≡ Some link → slice_get (list_changed_behind d.wires (offers grip) (Telling.out_door d s o)) j ≡ Some wire → IsWire net texts st home link wire
  wires_writing formed o rec grip writes holds j link wire link_at got = elim (now_behind d.wires (offers grip) (Telling.out_door d s o) j wire got) [
    | inl before ↦ still_wire link wire (kept.wires j link wire link_at before.0) (λ from. ap (offered link.output) (ap Some writes)
        ∙ elsewhere o link.output rec (λ out. before.1 (sym (ap (λ t. Telling.out_door d t o) from) ∙ sym (ap (Telling.out_door d link.from) out) ∙ door_out net st d kept.laid formed j link link_at)))
    | inr now ↦
        let ends = behind_out net st d kept.laid s o j link now.3 link_at in
        subst (IsWire net texts st home link) (sym now.2)
        (offered_wire rec grip link now.0 (writes ∙ ap (λ z. Write z rec) (sym ends.1)) holds ends.0 (kept.wires j link now.0 link_at now.1))
  ]

  -- Members

  same_member : (t : Who) (m : Member) → t ≢ s → IsStrand (past st t) (want_at net st left t) m → IsStrand (past st t) (want_at net st home t) m
  same_member t m apart is = subst (λ w. IsStrand (past st t) w m) (sym (want_other t apart)) is

  -- the members where the strand asks for no level
  members_plain : WantsNoLevel (Some wanted) → (t : Who) (m : Member) → slice_get d.unit t ≡ Some m → IsStrand (past st t) (want_at net st home t) m
  members_plain none t m got = elim (equal_or_not t s) [
    | inl e ↦
        let was : IsStrand (past st s) None m = subst (λ w. IsStrand (past st s) w m) want_none (subst (λ z. IsStrand (past st z) (want_at net st left z) m) e (kept.members t m got)) in
        let now : IsStrand (past st s) (Some wanted) m = record {
          count = was.count;
          progress = λ level level_is. was.progress level level_is ∙ ap (λ b. cond (has_reached level (past st s)) Reached (cond b Asked NotAsked)) (sym (none level));
          ended = was.ended;
        } in
        subst (λ z. IsStrand (past st z) (want_at net st home z) m) (sym e) (subst (λ w. IsStrand (past st s) w m) (sym want_now) now)
    | inr apart ↦ same_member t m apart (kept.members t m got)
  ]

  -- a change of one member is a change behind a door
  member_behind : (members : List Member) (k : ℕ) (f : Member → Member) → unit.changed members k f ≡ list_changed_behind members f (Some k)
  member_behind members k f = go (slice_get members k)
    where
      go : (x : Option Member) → option_map_or (λ m. slice_set members k (f m)) x members ≡ list_changed_at members k f x
      go None = refl
      go (Some m) = refl

  -- who hasn't asked for a level hasn't reached it
  not_reached : (reached : Bool) → cond reached Reached (cond false Asked NotAsked) ≡ NotAsked → reached ≡ false
  not_reached true e = cc
  not_reached false e = refl

  -- the members where it asks for one
  members_asking : (level : ℤ) → IsLevel level → wanted ≡ Commit level → IsAt d.unit s level NotAsked →
      (t : Who) (m : Member) → slice_get (asked_by d.unit s level) t ≡ Some m → IsStrand (past st t) (want_at net st home t) m
  members_asking level is asks first t m got =
      elim (now_behind d.unit (unit.moved (place_of level) Asked) (Some s) t m (ap (λ z. slice_get z t) (sym (member_behind d.unit s (unit.moved (place_of level) Asked))) ∙ got)) [
        | inl before ↦ same_member t m (λ e. before.1 (ap Some (sym e))) (kept.members t m before.0)
        | inr now ↦
            let e : s ≡ t = (let both : Some s ≡ Some t = now.3 in cc) in
            let at_s : slice_get d.unit s ≡ Some now.0 = ap (slice_get d.unit) e ∙ now.1 in
            let was : IsStrand (past st s) None now.0 = subst (λ w. IsStrand (past st s) w now.0) want_none (kept.members s now.0 at_s) in
            let asked_now = asks_as (past st s) now.0 level is None (λ other. refl) (not_reached (has_reached level (past st s)) (sym (was.progress level is) ∙ first now.0 at_s)) was in
            let here : IsStrand (past st s) (want_at net st home s) m = subst (λ w. IsStrand (past st s) w m) (sym (want_now ∙ ap Some asks)) (subst (IsStrand (past st s) (Some (Commit level))) (sym now.2) asked_now) in
            subst (λ z. IsStrand (past st z) (want_at net st home z) m) e here
      ]

  -- Seats

  seat_here : (ask : Ask) (seat : Seat) → ask ≡ asked (Some wanted) → IsSeat net st left s seat → IsSeat net st home s (asking ask seat)
  seat_here ask seat same is = record { ask = same ∙ ap asked (sym want_now); ended = is.ended; seen = is.seen }

  seat_there : (t : Who) (seat : Seat) → t ≢ s → IsSeat net st left t seat → IsSeat net st home t seat
  seat_there t seat apart is = record { ask = is.ask ∙ ap asked (sym (want_other t apart)); ended = is.ended; seen = is.seen }

  seats_home : (ask : Ask) → ask ≡ asked (Some wanted) → (t : Who) (seat : Seat) → slice_get (list_changed_behind d.seats (asking ask) (Some s)) t ≡ Some seat → IsSeat net st home t seat
  seats_home ask same t seat got = elim (now_behind d.seats (asking ask) (Some s) t seat got) [
    | inl before ↦ seat_there t seat (λ e. before.1 (ap Some (sym e))) (kept.seats t seat before.0)
    | inr now ↦
        let e : s ≡ t = (let both : Some s ≡ Some t = now.3 in cc) in
        let here = seat_here ask now.0 same (kept.seats s now.0 (ap (slice_get d.seats) e ∙ now.1)) in
        subst (λ z. IsSeat net st home z seat) e (subst (IsSeat net st home s) (sym now.2) here)
  ]

  -- All of it

  -- the members stay as many
  as_many : (level : ℤ) → length (asked_by d.unit s level) ≡ length d.unit
  as_many level = ap length (member_behind d.unit s (unit.moved (place_of level) Asked)) ∙ as_long d.unit (unit.moved (place_of level) Asked) (Some s)

  -- with these wires and members the desk stands for the same state
  comes_home : (ask : Ask) → ask ≡ asked (Some wanted) → (wires : List WireState) (members : List Member) → length wires ≡ length d.wires →
      ((j : ℕ) (link : Link) (wire : WireState) → slice_get net.links j ≡ Some link → slice_get wires j ≡ Some wire → IsWire net texts st home link wire) →
      length members ≡ length d.unit → ((t : Who) (m : Member) → slice_get members t ≡ Some m → IsStrand (past st t) (want_at net st home t) m) →
      ((t : Who) (level : ℤ) → want_at net st home t ≡ Some (Commit level) → IsLevel level) →
      DeskStands net texts st home (record { seats = list_changed_behind d.seats (asking ask) (Some s); wires = wires; sights = d.sights; doors = d.doors; unit = members })
  comes_home ask same wires members long wires_are count members_are early = record {
    laid = record {
      seat_count = as_long d.seats (asking ask) (Some s) ∙ kept.laid.seat_count;
      wire_count = long ∙ kept.laid.wire_count;
      sight_count = kept.laid.sight_count;
      sights_there = kept.laid.sights_there;
      sights_apart = kept.laid.sights_apart;
      in_doors = kept.laid.in_doors;
      out_doors = kept.laid.out_doors;
      firsts = kept.laid.firsts;
    };
    seats = seats_home ask same;
    nobody = λ t none. kept.nobody t (none_before d.seats (asking ask) (Some s) t none);
    wires = wires_are;
    sights = kept.sights;
    member_count = count ∙ kept.member_count;
    members = members_are;
    early = early;
  }

-- Any want

-- what it asks, by what it wants
asked_is : (w : Coming) (sight : ℕ → List ℕ) → ask_for w ≡ asked (Some (meaning w sight))
asked_is (come.Commit level) sight = refl
asked_is (come.Read i) sight = refl
asked_is come.Any sight = refl
asked_is come.Gate sight = refl
asked_is (come.Take i) sight = refl
asked_is (come.Write o out) sight = refl
asked_is come.Primed sight = refl
asked_is (come.Issue text) sight = refl
asked_is (come.Join unit) sight = refl
asked_is (come.Cut i) sight = refl
asked_is (come.Done code) sight = refl

module _ (net : Net) (st : State) (left : Left) (d new : DeskState) (pool after : PoolState) (s : Who) (strand : Strand)
    (formed : IsWellFormed net) (own : (t : Who) (q : Strand) → strand_at net st t ≡ Some q → IsOwn q (past st t))
    (kept : DeskStands net (bytes_at pool) st left d) (pooled : IsPooled d.wires d.sights pool)
    (away : left s ≡ true) (at : strand_at net st s ≡ Some strand) (going : has_ended (past st s) ≡ false) where
  early_home : (t : Who) (level : ℤ) → want_at net st (left_in left s) t ≡ Some (Commit level) → IsLevel level
  early_home t level want = early_level level (wants_early net st (left_in left s) own t level want)

  -- it writes nothing and asks for no level
  home_plain : (w : Coming) → Some (meaning w (last_seen (past st s))) ≡ next strand (past st s) →
      ((o : ℕ) → offered o (Some (meaning w (last_seen (past st s)))) ≡ None) → WantsNoLevel (Some (meaning w (last_seen (past st s)))) →
      unit_at_home d.unit s (ask_for w) ≡ d.unit → (new ≡ coming d s (ask_for w)) × (after ≡ pool) → DeskStands net (bytes_at after) st (left_in left s) new
  home_plain w wants off none same came =
      let wanted = meaning w (last_seen (past st s)) in
      let now = comes_home net (bytes_at pool) st left d kept s strand away at wanted wants (ask_for w) (asked_is w (last_seen (past st s))) d.wires d.unit refl
      (wires_plain net (bytes_at pool) st left d kept s strand away at wanted wants off) refl
      (members_plain net (bytes_at pool) st left d kept s strand away at wanted wants none) early_home in
      let P : List Member → Type 0 = λ members. DeskStands net (bytes_at pool) st (left_in left s) (record { seats = list_changed_behind d.seats (asking (ask_for w)) (Some s); wires = d.wires; sights = d.sights; doors = d.doors; unit = members }) in
      let here : DeskStands net (bytes_at pool) st (left_in left s) (coming d s (ask_for w)) = subst P (sym same) now in
      subst (λ ps. DeskStands net (bytes_at ps) st (left_in left s) new) (sym came.1) (subst (DeskStands net (bytes_at pool) st (left_in left s)) (sym came.0) here)

  -- it asks for a level
  home_asking : (level : ℤ) → Some (Commit level) ≡ next strand (past st s) → CanAsk d s (Now.Commit level) →
      (new ≡ coming d s (Now.Commit level)) × (after ≡ pool) → DeskStands net (bytes_at after) st (left_in left s) new
  home_asking level wants can came =
      let here : DeskStands net (bytes_at pool) st (left_in left s) (coming d s (Now.Commit level)) =
      comes_home net (bytes_at pool) st left d kept s strand away at (Commit level) wants (Now.Commit level) refl d.wires (asked_by d.unit s level) refl
      (wires_plain net (bytes_at pool) st left d kept s strand away at (Commit level) wants (λ o. refl))
      (as_many net (bytes_at pool) st left d kept s strand away at (Commit level) wants level)
      (members_asking net (bytes_at pool) st left d kept s strand away at (Commit level) wants level can.2 refl can.3) early_home in
      subst (λ ps. DeskStands net (bytes_at ps) st (left_in left s) new) (sym came.1) (subst (DeskStands net (bytes_at pool) st (left_in left s)) (sym came.0) here)

  -- it writes
  home_offering : (o : ℕ) (out : Out) → Some (Write o (written out (last_seen (past st s)))) ≡ next strand (past st s) →
      HasWritten d pool s o out new after → DeskStands net (bytes_at after) st (left_in left s) new
  home_offering o out wants came =
      let rec = written out (last_seen (past st s)) in
      let grip = came.grip in
      -- a place that is reserved leaves the records as they were
      let room = pool_with_room pool (Telling.wire_out d s o) in
      let same = room_records pool (Telling.wire_out d s o) in
      let stands : DeskStands net (bytes_at room) st left d = subst (λ (places : List (Option Held)). DeskStands net (λ g. bytes_of (place_at places g)) st left d) (sym same) kept in
      let counted : (g : ℕ) → holders_at room g ≡ holds_of d.wires d.sights g = subst (λ (places : List (Option Held)). (g : ℕ) → holders_of (place_at places g) ≡ holds_of d.wires d.sights g) (sym same) pooled.counted in
      let held = retext net (bytes_at room) (bytes_at after) st left d stands (hold_stay room after d counted s out grip came.hold) in
      let here : DeskStands net (bytes_at after) st (left_in left s) (desk_at_home_writing d s o grip) =
      comes_home net (bytes_at after) st left d held s strand away at (Write o rec) wants (Now.Write o) refl (list_changed_behind d.wires (offers grip) (Telling.out_door d s o)) d.unit
      (as_long d.wires (offers grip) (Telling.out_door d s o))
      (wires_writing net (bytes_at after) st left d held s strand away at (Write o rec) wants formed o rec grip refl (hold_text room after net st left d s stands going out grip came.hold))
      refl (members_plain net (bytes_at after) st left d held s strand away at (Write o rec) wants (λ level. refl)) early_home in
      subst (DeskStands net (bytes_at after) st (left_in left s)) (sym came.home) here

-- where a strand comes home, the desk stands for the same state with its want
pub kept_home : (net : Net) (st : State) (left : Left) (d new : DeskState) (pool after : PoolState) (s : Who) (strand : Strand) (w : Coming) → IsWellFormed net →
    ((t : Who) (q : Strand) → strand_at net st t ≡ Some q → IsOwn q (past st t)) → DeskStands net (bytes_at pool) st left d → IsPooled d.wires d.sights pool → left s ≡ true →
    strand_at net st s ≡ Some strand → has_ended (past st s) ≡ false → Some (meaning w (last_seen (past st s))) ≡ next strand (past st s) →
    CanCome d pool s w → HasCome d pool s w new after → DeskStands net (bytes_at after) st (left_in left s) new
kept_home net st left d new pool after s strand (come.Commit level) formed own kept pooled away at going wants can came = home_asking net st left d new pool after s strand formed own kept pooled away at going level wants can came
kept_home net st left d new pool after s strand (come.Write o out) formed own kept pooled away at going wants can came = home_offering net st left d new pool after s strand formed own kept pooled away at going o out wants came
kept_home net st left d new pool after s strand (come.Read i) formed own kept pooled away at going wants can came = home_plain net st left d new pool after s strand formed own kept pooled away at going (come.Read i) wants (λ o. refl) (λ l. refl) refl came
kept_home net st left d new pool after s strand come.Any formed own kept pooled away at going wants can came = home_plain net st left d new pool after s strand formed own kept pooled away at going come.Any wants (λ o. refl) (λ l. refl) refl came
kept_home net st left d new pool after s strand come.Gate formed own kept pooled away at going wants can came = home_plain net st left d new pool after s strand formed own kept pooled away at going come.Gate wants (λ o. refl) (λ l. refl) refl came
kept_home net st left d new pool after s strand (come.Take i) formed own kept pooled away at going wants can came = home_plain net st left d new pool after s strand formed own kept pooled away at going (come.Take i) wants (λ o. refl) (λ l. refl) refl came
kept_home net st left d new pool after s strand come.Primed formed own kept pooled away at going wants can came = home_plain net st left d new pool after s strand formed own kept pooled away at going come.Primed wants (λ o. refl) (λ l. refl) refl came
kept_home net st left d new pool after s strand (come.Issue text) formed own kept pooled away at going wants can came = home_plain net st left d new pool after s strand formed own kept pooled away at going (come.Issue text) wants (λ o. refl) (λ l. refl) refl came
kept_home net st left d new pool after s strand (come.Join u) formed own kept pooled away at going wants can came = home_plain net st left d new pool after s strand formed own kept pooled away at going (come.Join u) wants (λ o. refl) (λ l. refl) refl came
kept_home net st left d new pool after s strand (come.Cut i) formed own kept pooled away at going wants can came = home_plain net st left d new pool after s strand formed own kept pooled away at going (come.Cut i) wants (λ o. refl) (λ l. refl) refl came
kept_home net st left d new pool after s strand (come.Done code) formed own kept pooled away at going wants can came = home_plain net st left d new pool after s strand formed own kept pooled away at going (come.Done code) wants (λ o. refl) (λ l. refl) refl came

-- Whoever has ended wants nothing, out or not

module _ (net : Net) (texts : ℕ → List ℕ) (st : State) (left : Left) (d : DeskState) (s : Who) (kept : DeskStands net texts st left d) (ended : has_ended (past st s) ≡ true) where
  no_want : (b : Bool) → cond b None (want_after (strand_at net st s) (past st s)) ≡ None
  no_want true = refl
  no_want false = go (strand_at net st s)
    where
      go : (p : Option Strand) → want_after p (past st s) ≡ None
      go None = refl
      go (Some strand) = ap (λ b. cond b None (wanted_by (form strand).row strand.ports.has_output (past st s))) ended

  same_want : (t : Who) → want_at net st (left_in left s) t ≡ want_at net st left t
  same_want t = elim (equal_or_not t s) [
    | inl e ↦
        let here : want_at net st (left_in left s) s ≡ want_at net st left s = no_want (left_in left s s) ∙ sym (no_want (left s)) in
        subst (λ z. want_at net st (left_in left s) z ≡ want_at net st left z) (sym e) here
    | inr apart ↦ ap (λ b. cond (cond b false (left t)) None (want_after (strand_at net st t) (past st t))) (ne_eqb t s apart)
  ]

  -- a strand that has ended may come home with no want
  pub kept_gone : DeskStands net texts st (left_in left s) d
  kept_gone = record {
    laid = kept.laid;
    seats = λ t seat got. let is = kept.seats t seat got in record { ask = is.ask ∙ ap asked (sym (same_want t)); ended = is.ended; seen = is.seen };
    nobody = kept.nobody;
    wires = λ j link wire at got.
        let is = kept.wires j link wire at got in
        record { puts = is.puts; tooks = is.tooks; offer = is.offer ∙ ap (offered link.output) (sym (same_want link.from)); out_closed = is.out_closed; in_closed = is.in_closed; queue = is.queue };
    sights = kept.sights;
    member_count = kept.member_count;
    members = λ t m got. subst (λ w. IsStrand (past st t) w m) (sym (same_want t)) (kept.members t m got);
    early = λ t level want. kept.early t level (sym (same_want t) ∙ want);
  }
