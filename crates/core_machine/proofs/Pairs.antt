-- A strand whose record is due to be put writes the next one, which the strand that took the last sees, and takes or not: the core is sound after it, and what the least event is.
use Rattle.std.proofs.Common.{◌≡◌, ◌≢◌, inr, ℕ, suc, ◌+◌, ◌-◌, ◌^◌, ◌<◌, Bool, true, false, cond, ◌&&◌, ◌||◌, ◌==◌, not, nat_lt, arith, List, [], ◌∷◌, ◌++◌, length, refl, sym, ◌∙◌, ap, subst, Option, Some, None, is_some, slice_get, slice_set}
use Rattle.std.specs.Option.{option_map}
use Rattle.std.proofs.lemmas.Bool.{eqb-true}
use Rattle.std.proofs.lemmas.Bool.Decides.{nat_tests}
use Rattle.pipe_model.specs.declared.net.Link.{Link}
use Rattle.pipe_model.specs.declared.net.Net.{Net}
use Rattle.pipe_model.specs.declared.net.Strand.{Strand}
use Rattle.pipe_model.specs.declared.step.Entry.{Entry}
use Rattle.pipe_model.specs.declared.step.Out.TheVariants.{Fresh}
use Rattle.pipe_model.specs.declared.step.Seen.{Seen}
use Rattle.pipe_model.specs.declared.step.Seen.TheVariants.{Saw, Took, Put}
use Rattle.pipe_model.specs.declared.step.Want.{Want}
use Rattle.pipe_model.specs.declared.step.Want.TheVariants.{Write, Read}
use Rattle.pipe_model.specs.Event.{Event}
use Rattle.pipe_model.specs.Licence.{want_at, offered}
use Rattle.pipe_model.specs.Play.{play}
use Rattle.pipe_model.specs.State.{past}
use Rattle.pipe_model.proofs.Lists.{at_some, get_set_other, length_more}
use Rattle.pipe_model.proofs.Numbers.{test_same}
use Rattle.pipe_model.proofs.Truths.{both}
use Rattle.record_pool.specs.PoolState.{PoolState}
use Rattle.record_pool.specs.Places.{record_at, bytes_at, with_record, fresh}
use Rattle.connectors.specs.WireState.{WireState, IsPaced, hand_of, is_due, lined_up, settled}
use Rattle.stage_steps.specs.Coroutine.{CanResume, Resumes}
use Rattle.stage_steps.specs.PassesOn.{PassesOn}
use Rattle.stage_steps.specs.Replies.{CanSee}
use Rattle.stage_steps.specs.declared.reply.Reply.TheVariants.{Takes}
use Rattle.run_desk.specs.declared.seat.Ask.{Ask}
use Rattle.run_desk.specs.declared.seat.Ask.TheVariants as Now
use Rattle.run_desk.specs.declared.seat.Seat.{Seat}
use Rattle.run_desk.specs.Desk.{DeskState}
use Rattle.run_desk.specs.Passing.{desk_taking, desk_passed, pool_passed}
use Rattle.run_desk.specs.Relaying.{desk_showing, desk_relayed, pool_refilled}
use Rattle.run_desk.specs.Standing.{IsWire}
use Rattle.run_desk.specs.Telling as Telling
use Rattle.run_desk.specs.Turns.{CanCome, HasCome, bare, desk_after_turn, pool_after_turn, desk_at_home_writing, list_changed_behind, seat_after, asking, offers}
use Rattle.run_desk.proofs.Leads.{in_leads, out_leads}
use Rattle.run_desk.proofs.Lists.{changed_here, changed_there, leads}
use Rattle.run_desk.proofs.Relayed as Relayed
use Rattle.run_desk.proofs.Sees.{ask_is}
use Rattle.run_desk.proofs.Splits.{split_desk, split_pool, split, same_run, empty_place}
use Rattle.run_desk.proofs.Wants.{few_tooks}
use Rattle.core_machine.specs.declared.actor.Actor.{Actor}
use Rattle.core_machine.specs.declared.showing.Pair.{Pair}
use Rattle.core_machine.specs.Actors.{HasSeen, bytes_told, given_up, gone_on}
use Rattle.core_machine.specs.Ahead.{HasGoneQuietly, HasSeenOrPut}
use Rattle.core_machine.specs.Answered.{LeastEvent}
use Rattle.core_machine.specs.Floor.{IsInUse, CanMake, StaysEarly}
use Rattle.core_machine.specs.Machine.{left_by}
use Rattle.core_machine.specs.Members.{Members, is_member}
use Rattle.core_machine.specs.Pairs.{IsPair, with_stage}
use Rattle.core_machine.specs.Sound.{IsSound}
use Rattle.core_machine.specs.Woken.{HasReturned, IsCovering, LeastEventAwake, may_settle}
use Rattle.core_machine.proofs.Advanced.{gone_on_kept}
use Rattle.core_machine.proofs.Aheads.{offer_asks, put_next, read_next}
use Rattle.core_machine.proofs.GoesOn.{gone_quietly}
use Rattle.core_machine.proofs.PutsOn.{no_bytes_put}
use Rattle.core_machine.proofs.Relays.{covers_passing, covers_taking, covers_told, gone_taking, put_on, same_link}
use Rattle.core_machine.proofs.Runs.{not_true}
use Rattle.core_machine.proofs.Sounds.{event_is, in_use, its_looks, short, stage_at}
use Rattle.core_machine.proofs.Tellings.{IsTelling, makes, looks_it, resumes_it, going, early, came_home, given, comes_by, early_by, home_by}
use Rattle.core_machine.proofs.Tellings as Told
use Rattle.core_machine.proofs.Twice.{IsTwice, twice}

-- a core is sound with a pool that has the same at each place, and as many places in queues
pub same_sound : {S : Type 0} {stands : S → Strand → List Event → Type 0} {net : Net} {limit : ℕ} {journal : List Entry} {out : List ℕ} {actors : List (Actor S)} {d : DeskState} {pool other : PoolState} →
    IsSound stands net limit journal out actors d pool → ((x : ℕ) → record_at other x ≡ record_at pool x) → other.nodes ≡ pool.nodes → IsSound stands net limit journal out actors d other
same_sound {S} {stands} {net} {limit} {journal} {out} {actors} {d} {pool} {other} sound same nodes = record {
  formed = sound.formed;
  legal = sound.legal;
  within = sound.within;
  bounded = sound.bounded;
  last = sound.last;
  apart = sound.apart;
  run = same_run net (play net journal) (left_by journal out) d pool other sound.run same nodes;
  waiting = sound.waiting;
  strands = sound.strands;
}

-- What a strand would be told doesn't rest on what was seen before

seen_so : (d : DeskState) (sights : List (Option ℕ)) (s k : ℕ) (ask : Ask) → Telling.seen_by (record d { sights = sights }) s k ask ≡ Telling.seen_by d s k ask
seen_so d sights s k Now.Nothing = refl
seen_so d sights s k (Now.Commit level) = refl
seen_so d sights s k (Now.Read i) = refl
seen_so d sights s k Now.Any = refl
seen_so d sights s k Now.Gate = refl
seen_so d sights s k (Now.Take i) = refl
seen_so d sights s k (Now.Write o) = refl
seen_so d sights s k Now.Primed = refl
seen_so d sights s k Now.Issue = refl
seen_so d sights s k (Now.Join unit) = refl
seen_so d sights s k (Now.Cut i) = refl
seen_so d sights s k (Now.Done code) = refl

seen_same : (d : DeskState) (sights : List (Option ℕ)) (s k : ℕ) → Telling.seen_at (record d { sights = sights }) s k ≡ Telling.seen_at d s k
seen_same d sights s k = seen_so d sights s k (Telling.ask_at d s)

-- so the least event is the same
least_same : (d : DeskState) (sights : List (Option ℕ)) (r : ℕ × ℕ × Seen) → LeastEventAwake d (Some r) → LeastEventAwake (record d { sights = sights }) (Some r)
least_same d sights r least = (
  ((ap is_some (seen_same d sights r.0 r.1) ∙ least.0.0.0, λ k less. seen_same d sights r.0 k ∙ least.0.0.1 k less), λ t k less. seen_same d sights t k ∙ least.0.1 t k less),
  seen_same d sights r.0 r.1 ∙ least.1,
)

-- and the sets that hold all that may go on are
covers_same : (d : DeskState) (sights : List (Option ℕ)) (set : Members) → IsCovering d set → IsCovering (record d { sights = sights }) set
covers_same d sights set covers s k may = covers s k (sym (ap is_some (seen_same d sights s k)) ∙ may)

-- the strands of a pair are two
pub far : {net : Net} {d : DeskState} {pool : PoolState} {p : Pair} {grip : ℕ} → IsPair net d pool p grip → p.strand ≢ p.to
far {net} {d} {pool} {p} {grip} pair is = let near = pair.near in omega (arith, near, is)

-- the least event is told to a strand, of which this is kept
abbrev pub telling_on : {S : Type 0} (stands : S → Strand → List Event → Type 0) (net : Net) (budget : ℕ) (journal : List Entry) (out : List ℕ) (actors : List (Actor S)) (d : DeskState) (pool : PoolState)
    (s k : ℕ) (seen : Seen) (a : Actor S) (stage : S) → IsSound stands net budget journal out actors d pool → LeastEventAwake d (Some (s, k, seen)) → length journal < budget →
    slice_get actors s ≡ Some a → a.stage ≡ Some stage → IsTelling stands net budget journal out actors d pool s k seen a
telling_on stands net budget journal out actors d pool s k seen a stage sound least space there was =
    let event = (event_is stands net budget journal out actors d pool sound false (Some (s, k, seen)) least).1 in
    record { sound = sound; event = event.0; may = event.1; seen_is = event.2; stage = stage; there = there; was = was; space = space; least = least }

-- The two strands, while the writer's record is due to be put
module _ {S : Type 0} {stands : S → Strand → List Event → Type 0} {net : Net} {limit : ℕ} {journal : List Entry} {out : List ℕ} {actors : List (Actor S)} {d : DeskState} {pool : PoolState}
    (p : Pair) (grip : ℕ) {a : Actor S} (t : IsTelling stands net limit journal out actors d pool p.strand p.output (Put p.output) a) (pair : IsPair net d pool p grip) where
  abbrev link : Link
  link = pair.link.0

  apart : p.to ≢ p.strand
  apart is = far pair (sym is)

  -- The link between them

  leaves : ((link.from == p.strand) && (link.output == p.output)) ≡ true
  leaves =
      sym (out_leads net t.sound.formed (play net journal) d t.sound.run.kept.laid p.strand p.output p.link link pair.link.1)
      ∙ ap (leads p.link) pair.out ∙ test_same p.link

  arrives : ((link.to == p.to) && (link.input == 0)) ≡ true
  arrives =
      sym (in_leads net t.sound.formed (play net journal) d t.sound.run.kept.laid p.to 0 p.link link pair.link.1)
      ∙ ap (leads p.link) pair.into ∙ test_same p.link

  from_is : link.from ≡ p.strand
  from_is = eqb-true link.from p.strand (both (link.from == p.strand) (link.output == p.output) leaves).0

  output_is : link.output ≡ p.output
  output_is = eqb-true link.output p.output (both (link.from == p.strand) (link.output == p.output) leaves).1

  to_is : link.to ≡ p.to
  to_is = eqb-true link.to p.to (both (link.to == p.to) (link.input == 0) arrives).0

  input_is : link.input ≡ 0
  input_is = eqb-true link.input 0 (both (link.to == p.to) (link.input == 0) arrives).1

  -- Its wire

  abbrev wire : WireState
  wire = pair.relaying.due.0

  abbrev wire_at : slice_get d.wires p.link ≡ Some wire
  wire_at = pair.relaying.due.1

  its : IsWire net (bytes_at pool) (play net journal) (left_by journal out) link wire
  its = t.sound.run.kept.wires p.link link wire pair.link.1 wire_at

  queue_none : wire.queue ≡ None
  queue_none = Relayed.due_plain wire pair.relaying.due.2

  open_still : wire.in_closed ≡ false
  open_still =
      not_true wire.in_closed (both (not (wire.puts == wire.tooks)) (not wire.in_closed) (both (not (is_some wire.queue)) (not (wire.puts == wire.tooks) && not wire.in_closed) pair.relaying.due.2).1).1

  one_taken : wire.tooks ≡ wire.puts + 1
  one_taken = Relayed.due_ahead wire pair.relaying.due.2 (t.sound.run.pacing.paced p.link wire wire_at)

  few_taken : wire.tooks < 2 ^ 64 - 1
  few_taken =
      let most : 2 ^ 64 - 1 ≡ 18446744073709551615 = refl in
      omega (arith, most, its.tooks, few_tooks link.input (past (play net journal) link.to), short stands net limit journal out actors d pool t.sound link.to)

  -- the record is due, and as few were taken as can be counted
  pub due_wire : (wire : WireState) × (slice_get d.wires p.link ≡ Some wire) × (is_due wire ≡ true) × (wire.tooks < 2 ^ 64 - 1) × (wire.offer ≡ Some grip)
  due_wire = (wire, wire_at, pair.relaying.due.2, few_taken, pair.relaying.due.3)

  -- the writer's coroutine may be told that it is
  pub can_show : CanResume stands t.stage (Put p.output) []
  can_show = resumes_it t [] (no_bytes_put a.looks (desk_after_turn d p.strand (Put p.output)) (pool_after_turn d pool p.strand (Put p.output)) p.strand p.output)

  -- Their seats

  asks_put : Telling.ask_at d p.strand ≡ Now.Write p.output
  asks_put =
      ask_is net (bytes_at pool) (play net journal) (left_by journal out) d t.sound.formed t.sound.run.kept p.strand
      ∙ offer_asks p.output (want_at net (play net journal) (left_by journal out) p.strand) (bytes_at pool grip)
      (subst (λ z. offered z (want_at net (play net journal) (left_by journal out) p.strand) ≡ Some (bytes_at pool grip)) output_is
      (subst (λ z. offered link.output (want_at net (play net journal) (left_by journal out) z) ≡ Some (bytes_at pool grip)) from_is
      (sym its.offer ∙ ap (option_map (bytes_at pool)) pair.relaying.due.3)))

  writer : (seat : Seat) × (slice_get d.seats p.strand ≡ Some seat) × (seat.ask ≡ Now.Write p.output)
  writer =
      let can = makes t in
      let seat = at_some d.seats p.strand (let count = t.sound.run.kept.laid.seat_count in let there = can.strand in omega (arith, count, there)) in
      (seat.0, seat.1, sym (ap Telling.ask_of seat.1) ∙ asks_put)

  reader_asks : Telling.ask_at d p.to ≡ Now.Read 0
  reader_asks = ap Telling.ask_of pair.relaying.reads.1 ∙ pair.relaying.reads.2

  no_room : wire.reserved ≡ false
  no_room = t.sound.run.pacing.roomy p.link wire wire_at ∙ ap (λ q. is_some q && is_some wire.offer) queue_none

  pace : IsPaced wire.offer wire.puts wire.tooks wire.queue
  pace = t.sound.run.pacing.paced p.link wire wire_at

  -- The reader's sight is a hold on a copy of the record, at an empty place

  abbrev n : ℕ
  n = pair.relaying.saw.0

  abbrev g : ℕ
  g = length pool.records

  abbrev d0 : DeskState
  d0 = split_desk d n g

  abbrev pool0 : PoolState
  pool0 = split_pool pool grip g

  sound0 : IsSound stands net limit journal out actors d0 pool0
  sound0 = record {
    formed = t.sound.formed;
    legal = t.sound.legal;
    within = t.sound.within;
    bounded = t.sound.bounded;
    last = t.sound.last;
    apart = t.sound.apart;
    run = split net (play net journal) (left_by journal out) d pool p.to n grip g t.sound.run pair.relaying.saw.1 pair.relaying.saw.2 pair.relaying.two (empty_place pool);
    waiting = t.sound.waiting;
    strands = t.sound.strands;
  }

  abbrev t0 : IsTelling stands net limit journal out actors d0 pool0 p.strand p.output (Put p.output) a
  t0 = record {
    sound = sound0;
    event = t.event;
    may = t.may;
    seen_is = t.seen_is;
    stage = t.stage;
    there = t.there;
    was = t.was;
    space = t.space;
    least = least_same d d0.sights (p.strand, p.output, Put p.output) t.least;
  }

  -- The next record

  module _ (asked : a.asked ≡ Write p.output (Fresh [])) (plain : a.passes ≡ false) (space : length journal + 2 < limit)
      (next : S) (bytes : List ℕ) (resumed : Resumes stands t.stage next (Put p.output) [] (Write p.output (Fresh bytes))) (b : Actor S) (reader : slice_get actors p.to ≡ Some b) where
    abbrev pub put : Entry
    put = record { strand = p.strand; stream = p.output }

    abbrev pub took : Entry
    took = record { strand = p.to; stream = 0 }

    abbrev pub longer : List Entry
    longer = journal ++ put ∷ []

    abbrev pub actors1 : List (Actor S)
    actors1 = slice_set actors p.strand (with_stage next a)

    abbrev d1 : DeskState
    d1 = desk_at_home_writing (desk_after_turn d0 p.strand (Put p.output)) p.strand p.output grip

    abbrev pool1 : PoolState
    pool1 = with_record (pool_after_turn d0 pool0 p.strand (Put p.output)) grip (Some (fresh bytes))

    abbrev wanted : Want
    wanted = Write p.output (Fresh bytes)

    -- the record is due, and as few were taken as can be counted
    pub due : (wire : WireState) × (slice_get d.wires p.link ≡ Some wire) × (is_due wire ≡ true) × (wire.tooks < 2 ^ 64 - 1) × (wire.offer ≡ Some grip)
    due = due_wire

    -- that it is put is the least event
    pub puts_least : (β : ℕ) (c : Bool) → LeastEvent (record { net = net; budget = β; journal = journal; out = out; is_broken = c }) (Some (p.strand, p.output, Put p.output))
    puts_least β c = event_is stands net limit journal out actors d pool t.sound c (Some (p.strand, p.output, Put p.output)) t.least

    -- The writer comes home

    no_put : [] ≡ bytes_told a.looks (desk_after_turn d0 p.strand (Put p.output)) (pool_after_turn d0 pool0 p.strand (Put p.output)) p.strand (Put p.output)
    no_put = no_bytes_put a.looks (desk_after_turn d0 p.strand (Put p.output)) (pool_after_turn d0 pool0 p.strand (Put p.output)) p.strand p.output

    come : HasCome (desk_after_turn d0 p.strand (Put p.output)) (pool_after_turn d0 pool0 p.strand (Put p.output)) p.strand wanted d1 pool1
    come = Relayed.written d pool p.strand p.output p.to p.link grip g n bytes pair.relaying refl pair.out pair.into (empty_place pool) writer no_room pace

    returned : HasReturned (desk_after_turn d0 p.strand (Put p.output)) (pool_after_turn d0 pool0 p.strand (Put p.output)) p.strand wanted d1 pool1
    returned = inr (going t0 next wanted false [] no_put resumed refl, come)

    kept : with_stage next a ≡ gone_on (Put p.output) next (Write p.output (Fresh [])) false a
    kept =
        ap (λ w. record { stage = Some next; asked = w; looks = a.looks; saw_end = a.saw_end; passes = a.passes }) asked
        ∙ gone_on_kept (with_stage next a) next (Put p.output) (Write p.output (Fresh [])) refl refl
        ∙ ap (λ c. gone_on (Put p.output) next (Write p.output (Fresh [])) c a) plain

    sound1 : IsSound stands net limit longer out actors1 d1 pool1
    sound1 =
        subst (λ z. IsSound stands net limit longer out (slice_set actors p.strand z) d1 pool1) (sym kept)
        (came_home t0 next wanted false [] no_put resumed refl (λ no. (let both = no in cc)) d1 pool1 returned)

    gone : HasGoneQuietly net d0 pool0 p.strand p.output (Put p.output) wanted d1 pool1
    gone =
        gone_quietly stands net limit journal out actors d0 pool0 sound0 p.strand p.output t.event t.may a t.stage t.there t.was (Put p.output) t.seen_is t.space
        (desk_after_turn d0 p.strand (Put p.output)) (pool_after_turn d0 pool0 p.strand (Put p.output)) refl refl next wanted false []
        (no_put ∙ ap (λ l. bytes_told l (desk_after_turn d0 p.strand (Put p.output)) (pool_after_turn d0 pool0 p.strand (Put p.output)) p.strand (Put p.output))
        (its_looks stands net limit journal out actors d0 pool0 sound0 p.strand a t.there)) resumed t0.least refl d1 pool1 returned

    told : HasSeenOrPut net d0 p.strand (Put p.output)
    told = put_on net d0 p.strand p.output p.link link pair.out pair.link.1 pair.link.2

    -- The reader sees the record

    abbrev wire1 : WireState
    wire1 = offers grip (settled wire)

    wire1_at : slice_get d1.wires p.link ≡ Some wire1
    wire1_at =
        ap (λ z. slice_get (list_changed_behind (list_changed_behind d.wires settled z) (offers grip) z) p.link) pair.out
        ∙ changed_here (list_changed_behind d.wires settled (Some p.link)) (offers grip) p.link
        ∙ ap (option_map (offers grip)) (changed_here d.wires settled p.link ∙ ap (option_map settled) wire_at)

    seat1 : slice_get d1.seats p.to ≡ slice_get d.seats p.to
    seat1 =
        changed_there (list_changed_behind d.seats (seat_after (Put p.output)) (Some p.strand)) (asking (Now.Write p.output)) p.strand p.to apart
        ∙ changed_there d.seats (seat_after (Put p.output)) p.strand p.to apart

    shows : Telling.shows (Some wire1) ≡ true
    shows =
        ap (λ q. is_some (hand_of wire1 (lined_up q wire.offer))) queue_none
        ∙ ap (λ c. is_some (cond c (Some grip) None)) (ap (λ k. (wire.puts + 1) == k) one_taken ∙ test_same (wire.puts + 1))

    waits : (Telling.can_put (Some wire1) || Telling.can_refuse (Some wire1)) ≡ false
    waits =
        ap (λ q. (is_some (lined_up q wire.offer) || nat_lt (wire.puts + 1) wire.tooks) || (not (is_some (lined_up q wire.offer)) && (wire.in_closed && Telling.is_even wire1))) queue_none
        ∙ ap (λ c. nat_lt (wire.puts + 1) wire.tooks || (c && Telling.is_even wire1)) open_still
        ∙ ap (λ c. c || false) no_more
      where
        no_more : nat_lt (wire.puts + 1) wire.tooks ≡ false
        no_more = let one = one_taken in grind (arith, nat_tests, one)

    sees_next : LeastEventAwake d1 (Some (p.to, 0, Saw 0))
    sees_next =
        subst (λ z. LeastEventAwake d1 (Some (z, 0, Saw 0))) to_is (subst (λ z. LeastEventAwake d1 (Some (link.to, z, Saw z))) input_is
        (read_next net d0 pool0 p.strand p.output (Put p.output) wanted d1 pool1 gone told p.output refl p.link link pair.out pair.link.1
        (inr (
          to_is ∙ pair.near ∙ (let next_one : suc p.strand ≡ p.strand + 1 = omega arith in next_one),
          ap (λ z. Telling.can_put (Telling.through d1.wires z) || Telling.can_refuse (Telling.through d1.wires z)) pair.out ∙ ap (λ z. Telling.can_put z || Telling.can_refuse z) wire1_at ∙ waits,
        ))
        (ap Telling.shows wire1_at ∙ shows)
        (ap (λ z. Telling.ask_at d1 z) to_is ∙ ap Telling.ask_of seat1 ∙ reader_asks ∙ ap Now.Read (sym input_is))))

    -- in the words of the core
    pub sees_least : (β : ℕ) (c : Bool) → LeastEvent (record { net = net; budget = β; journal = longer; out = out; is_broken = c }) (Some (p.to, 0, Saw 0))
    sees_least β c = event_is stands net limit longer out actors1 d1 pool1 sound1 c (Some (p.to, 0, Saw 0)) sees_next

    reader1 : slice_get actors1 p.to ≡ Some b
    reader1 = get_set_other actors p.strand p.to (with_stage next a) apart ∙ reader

    -- its coroutine is there
    pub home : (x : S) × (b.stage ≡ Some x)
    home = let least = sees_least limit false in stage_at stands net limit longer out actors1 d1 pool1 sound1 p.to 0 least.1.0 least.1.1 b reader1

    longer_fits : length longer + 1 < limit
    longer_fits = let more = length_more journal put in omega (arith, more, space)

    t1 : IsTelling stands net limit longer out actors1 d1 pool1 p.to 0 (Saw 0) b
    t1 = telling_on stands net limit longer out actors1 d1 pool1 p.to 0 (Saw 0) b home.0 sound1 sees_next (let fits = longer_fits in omega (arith, fits)) reader1 home.1

    abbrev d2 : DeskState
    d2 = desk_after_turn d1 p.to (Saw 0)

    abbrev pool2 : PoolState
    pool2 = pool_after_turn d1 pool1 p.to (Saw 0)

    shown_desk : d2 ≡ desk_showing d p.to p.link
    shown_desk = Relayed.shown_desk d pool p.strand p.output p.to p.link grip g n bytes pair.relaying refl pair.out pair.into (empty_place pool) writer no_room pace

    shown_pool : (x : ℕ) → record_at (pool_refilled pool grip bytes) x ≡ record_at pool2 x
    shown_pool = Relayed.shown_pool d pool p.strand p.output p.to p.link grip g n bytes pair.relaying refl pair.out pair.into (empty_place pool) writer no_room pace

    shown_nodes : (pool_refilled pool grip bytes).nodes ≡ pool2.nodes
    shown_nodes = Relayed.shown_nodes d pool p.strand p.output p.to p.link grip g n bytes pair.relaying refl pair.out pair.into (empty_place pool) writer no_room pace

    seen_bytes : bytes_told true d2 pool2 p.to (Saw 0) ≡ bytes
    seen_bytes = Relayed.shown_bytes d pool p.strand p.output p.to p.link grip g n bytes pair.relaying refl pair.out pair.into (empty_place pool) writer no_room pace

    quiet : may_settle d1 p.to (Saw 0) ≡ false
    quiet = ap (λ z. not (is_some (Telling.primed_of z))) (seat1 ∙ pair.relaying.reads.1)
        ∙ ap (λ c. not (is_some (cond c (Some true) (cond pair.relaying.reads.0.has_ended (Some false) None)))) pair.relaying.reads.3

    -- what it is shown is the record, where it looks
    right : (shown : List ℕ) → (b.looks ≡ true → shown ≡ bytes) → (b.looks ≡ false → shown ≡ []) → shown ≡ bytes_told b.looks d2 pool2 p.to (Saw 0)
    right shown all none = by_looks b.looks all none
      where
        by_looks : (l : Bool) → (l ≡ true → shown ≡ bytes) → (l ≡ false → shown ≡ []) → shown ≡ bytes_told l d2 pool2 p.to (Saw 0)
        by_looks true all none = all refl ∙ sym seen_bytes
        by_looks false all none = none refl

    -- and its coroutine may be told of it
    pub can_see : (x : S) → b.stage ≡ Some x → (shown : List ℕ) → (b.looks ≡ true → shown ≡ bytes) → (b.looks ≡ false → shown ≡ []) → CanSee stands x 0 shown
    can_see x was shown all none = looks_it (Told.with_stage t1 x was) 0 refl longer_fits shown (right shown all none)

    -- The sets that hold all that may go on hold them still

    can_read : CanMake net d1 pool1 p.to (Saw 0)
    can_read = makes t1

    used_put : IsInUse net (desk_after_turn d0 p.strand (Put p.output))
    used_put = Told.used_out t0 next wanted false

    early_put : StaysEarly (desk_after_turn d0 p.strand (Put p.output)) (pool_after_turn d0 pool0 p.strand (Put p.output)) p.strand wanted
    early_put = early t0 next wanted false [] no_put resumed refl

    covers_written : (set : Members) → set.size ≡ length net.strands → is_member set p.strand ≡ true → is_member set p.to ≡ true → IsCovering d set → IsCovering d1 set
    covers_written set size writes reads covers =
        covers_passing net d0 t.sound.formed pool0 p.strand (Put p.output) wanted (makes t0) refl told used_put early_put d1 pool1 come refl set size writes
        (λ other there. ap (is_member set) (ap (λ (z : Link). z.to) (same_link net.links (Telling.out_door d p.strand p.output) p.link link other pair.out pair.link.1 there) ∙ to_is) ∙ reads)
        (covers_same d d0.sights set covers)

    -- after the sight
    pub covers_shown : (set : Members) → set.size ≡ length net.strands → is_member set p.strand ≡ true → is_member set p.to ≡ true → IsCovering d set → IsCovering (desk_showing d p.to p.link) set
    covers_shown set size writes reads covers =
        subst (λ z. IsCovering z set) shown_desk
        (covers_told net d1 t.sound.formed can_read.used pool1 p.to (Saw 0) set size can_read.can can_read.live quiet tt (covers_written set size writes reads covers))

    -- The reader saw the record, and its coroutine went on

    module _ (x y : S) (was : b.stage ≡ Some x) (asked' : Want) (passes' : Bool) where
      abbrev out2 : List ℕ
      out2 = out ++ suc (length longer) ∷ []

      -- it is given up
      pub sound_out : IsSound stands net limit (longer ++ took ∷ []) out2 (slice_set actors1 p.to (given_up (gone_on (Saw 0) y asked' passes' b))) (desk_showing d p.to p.link) (pool_refilled pool grip bytes)
      sound_out =
          same_sound (subst (λ z. IsSound stands net limit (longer ++ took ∷ []) out2 (slice_set actors1 p.to (given_up (gone_on (Saw 0) y asked' passes' b))) z pool2) shown_desk
          (given (Told.with_stage t1 x was) y asked' passes' d2 pool2 refl refl)) shown_pool shown_nodes

      -- the desk stands for a state then
      pub used_out : IsInUse net (desk_showing d p.to p.link)
      used_out = in_use stands net limit (longer ++ took ∷ []) out2 (slice_set actors1 p.to (given_up (gone_on (Saw 0) y asked' passes' b))) (desk_showing d p.to p.link) (pool_refilled pool grip bytes) sound_out

      module _ (shown : List ℕ) (all : b.looks ≡ true → shown ≡ bytes) (none : b.looks ≡ false → shown ≡ []) (went : Resumes stands x y (Saw 0) shown asked') where
        -- it hasn't ended
        pub live_out : Telling.ended_at (desk_showing d p.to p.link) p.to ≡ false
        live_out = subst (λ z. Telling.ended_at z p.to ≡ false) shown_desk (going (Told.with_stage t1 x was) y asked' passes' shown (right shown all none) went refl)

        -- it can come home
        pub comes_out : CanCome (desk_showing d p.to p.link) (pool_refilled pool grip bytes) p.to asked'
        comes_out = comes_by (Told.with_stage t1 x was) y asked' passes' shown (right shown all none) went refl (desk_showing d p.to p.link) (pool_refilled pool grip bytes) sound_out live_out

        -- no strand asks for another commit level then
        pub early_out : StaysEarly (desk_showing d p.to p.link) (pool_refilled pool grip bytes) p.to asked'
        early_out = early_by (Told.with_stage t1 x was) y asked' passes' shown (right shown all none) went refl (desk_showing d p.to p.link) (pool_refilled pool grip bytes) sound_out live_out

        -- and the core is sound once it came home
        pub sound_home : (passes' ≡ true → PassesOn stands y) → (d3 : DeskState) (pool3 : PoolState) → HasReturned (desk_showing d p.to p.link) (pool_refilled pool grip bytes) p.to asked' d3 pool3 →
            IsSound stands net limit (longer ++ took ∷ []) out (slice_set actors1 p.to (gone_on (Saw 0) y (bare asked') passes' b)) d3 pool3
        sound_home passing d3 pool3 returned =
            home_by (Told.with_stage t1 x was) y asked' passes' shown (right shown all none) went refl (desk_showing d p.to p.link) (pool_refilled pool grip bytes) sound_out live_out passing d3 pool3 returned

      -- The reader took it

      module _ (shown : List ℕ) (all : b.looks ≡ true → shown ≡ bytes) (none : b.looks ≡ false → shown ≡ []) (seen : HasSeen stands x y 0 shown asked' passes' Takes) where
        both_events : IsTwice stands net limit longer out actors1 d1 pool1 p.to 0 0 (gone_on (Saw 0) y asked' passes' b)
        both_events = twice t1 longer_fits quiet (right shown all none) x y asked' passes' was refl seen

        -- that it takes it is the least event
        pub takes_least : (β : ℕ) (c : Bool) → LeastEvent (record { net = net; budget = β; journal = longer ++ took ∷ []; out = out; is_broken = c }) (Some (p.to, 0, Took 0))
        takes_least β c = both_events.taking c

        passed_desk : desk_passed d1 p.to (Saw 0) 0 ≡ desk_relayed d p.link
        passed_desk = Relayed.passed_desk d pool p.strand p.output p.to p.link grip g n bytes pair.relaying refl pair.out pair.into (empty_place pool) writer no_room pace

        -- the core is sound after it
        pub sound_on : IsSound stands net limit ((longer ++ took ∷ []) ++ took ∷ []) out (slice_set actors1 p.to (gone_on (Saw 0) y asked' passes' b)) (desk_relayed d p.link) (pool_refilled pool grip bytes)
        sound_on =
            same_sound (subst (λ z. IsSound stands net limit ((longer ++ took ∷ []) ++ took ∷ []) out (slice_set actors1 p.to (gone_on (Saw 0) y asked' passes' b)) z (pool_passed d1 pool1 p.to (Saw 0) 0)) passed_desk both_events.sound)
            (Relayed.passed_pool d pool p.strand p.output p.to p.link grip g n bytes pair.relaying refl pair.out pair.into (empty_place pool) writer no_room pace)
            (Relayed.passed_nodes d pool p.strand p.output p.to p.link grip g n bytes pair.relaying refl pair.out pair.into (empty_place pool) writer no_room pace)

        -- the writer's record is due to be put again
        pub least_on : LeastEventAwake (desk_relayed d p.link) (Some (p.strand, p.output, Put p.output))
        least_on =
            subst (λ z. LeastEventAwake z (Some (p.strand, p.output, Put p.output))) passed_desk
            (subst (λ z. LeastEventAwake (desk_passed d1 p.to (Saw 0) 0) (Some (z, p.output, Put p.output))) from_is
            (subst (λ z. LeastEventAwake (desk_passed d1 p.to (Saw 0) 0) (Some (link.from, z, Put z))) output_is
            (put_next net (desk_taking d1 p.to (Saw 0) 0) pool2 p.to 0 0 (Read 0) (desk_passed d1 p.to (Saw 0) 0) (pool_passed d1 pool1 p.to (Saw 0) 0)
            (gone_taking net d1 t.sound.formed pool1 p.to (Saw 0) 0 both_events.takes both_events.used_last both_events.early_last 0 both_events.least)
            refl (λ o writes. writes) p.link link pair.into pair.link.1 pair.link.2 (let near = pair.near in let is = from_is in omega (arith, near, is)))))

        -- and the two are as they were
        pub pair_on : IsPair net (desk_relayed d p.link) (pool_refilled pool grip bytes) p grip
        pair_on = record {
          near = pair.near;
          within = pair.within;
          link = pair.link;
          out = pair.out;
          into = pair.into;
          relaying = Relayed.relaying_still d pool p.strand p.output p.to p.link grip g n bytes pair.relaying refl pair.out pair.into (empty_place pool) writer no_room pace;
        }

        -- the sets that hold all that may go on hold them after it
        pub covers_on : (set : Members) → set.size ≡ length net.strands → is_member set p.strand ≡ true → is_member set p.to ≡ true → IsCovering d set → IsCovering (desk_relayed d p.link) set
        covers_on set size writes reads covers =
            subst (λ z. IsCovering z set) passed_desk
            (covers_taking net d1 t.sound.formed pool1 p.to (Saw 0) 0 both_events.takes both_events.used_last both_events.early_last both_events.can quiet tt both_events.used both_events.early set size reads
            (λ other there. ap (is_member set) (ap (λ (z : Link). z.from) (same_link net.links (Telling.in_door d p.to 0) p.link link other pair.into pair.link.1 there) ∙ from_is) ∙ writes)
            (covers_written set size writes reads covers))
