-- The event that is known to be next may be: the strand that came home to take takes, the one whose record was taken puts it, or the one that reads sees what is written.
use Rattle.std.proofs.Common.{◌≡◌, ◌≢◌, ◌⊎◌, inl, inr, ℕ, ◌+◌, ◌<◌, true, false, cond, ◌&&◌, ◌||◌, ◌==◌, List, refl, sym, ◌∙◌, ap, subst, arith, Option, Some, None, IsSome, is_some, slice_get, nat_lt}
use Rattle.std.specs.Option.{option_map}
use Rattle.std.proofs.lemmas.Bool.{ne_eqb, eqb-true}
use Rattle.std.proofs.lemmas.Bool.Decides.{nat_tests}
use Rattle.pipe_model.specs.declared.net.Net.{Net}
use Rattle.pipe_model.specs.declared.net.Link.{Link}
use Rattle.pipe_model.specs.declared.step.Out.{Out}
use Rattle.pipe_model.specs.declared.step.Seen.{Seen}
use Rattle.pipe_model.specs.declared.step.Seen.TheVariants.{Up, Saw, SawEnd, SawAllEnd, Took, Put, Refused, Cut, Primed, Opened, Joined, Ended}
use Rattle.pipe_model.specs.declared.step.Want.{Want}
use Rattle.pipe_model.specs.declared.step.Want.TheVariants as want
use Rattle.pipe_model.specs.Event.{Want as Wanted}
use Rattle.pipe_model.specs.Licence.{want_at, offered}
use Rattle.pipe_model.proofs.Truths.{cond_some, or_second}
use Rattle.pipe_model.proofs.Numbers.{equal_or_not, test_same}
use Rattle.pipe_model.proofs.Lists.{at_some, beside}
use Rattle.record_pool.specs.PoolState.{PoolState}
use Rattle.connectors.specs.WireState.{WireState, hand_of, taken}
use Rattle.run_desk.specs.declared.seat.Ask.{Ask}
use Rattle.run_desk.specs.declared.seat.Ask.TheVariants as Now
use Rattle.run_desk.specs.declared.seat.Seat.{Seat}
use Rattle.run_desk.specs.Desk.{DoorsState, DeskState}
use Rattle.run_desk.specs.Standing.{asked, link_through, IsWire}
use Rattle.run_desk.specs.Turns.{HasCome, bare, bare_out, list_changed_behind, desk_after_turn, pool_after_turn, desk_at_home, ask_for, asking, seat_after}
use Rattle.run_desk.specs.Telling as Telling
use Rattle.run_desk.proofs.Leads.{in_leads, out_leads}
use Rattle.run_desk.proofs.Lists.{changed_here, changed_there, leads}
use Rattle.run_desk.proofs.Queues.{queues_as}
use Rattle.run_desk.proofs.Sees.{ask_is}
use Rattle.core_machine.specs.declared.floor.Ahead.{Ahead}
use Rattle.core_machine.specs.Ahead.{event_ahead, IsAheadOn, HasGoneQuietly, HasSeenOrPut, IsWriteOn}
use Rattle.core_machine.specs.Woken.{LeastEventAwake, commits}
use Rattle.core_machine.proofs.Lows.{has_come, doors_kept, low_still, low_offer, low_take, waits, writing}

-- what is known of an event holds of the one that is meant
pub known_of : (d : DeskState) (ahead : Ahead) (one : ℕ × ℕ × Seen) → event_ahead ahead ≡ Some one → LeastEventAwake d (Some one) → IsAheadOn d ahead
known_of d ahead one is least r named = let same : one ≡ r = (let both : Some one ≡ Some r = sym is ∙ named in cc) in subst (λ z. LeastEventAwake d (Some z)) same least

-- who asks to take a record takes it next, where nobody below may go on
pub least_take : (n : DeskState) (s i : ℕ) → Telling.ask_at n s ≡ Now.Take i → ((t j : ℕ) → t < s → Telling.seen_at n t j ≡ None) → LeastEventAwake n (Some (s, i, Took i))
least_take n s i ask low = (((ap is_some here, λ j less. ap (Telling.seen_by n s j) ask ∙ ap (λ b. cond b (Some (Took i)) None) (ne_eqb j i (λ e. omega (arith, e, less)))), low), here)
  where
    here : Telling.seen_at n s i ≡ Some (Took i)
    here = ap (Telling.seen_by n s i) ask ∙ ap (λ b. cond b (Some (Took i)) None) (test_same i)

-- and who asks to write and may put its record puts it
pub least_put : (n : DeskState) (p o : ℕ) → Telling.ask_at n p ≡ Now.Write o → Telling.can_put (Telling.wire_out n p o) ≡ true → ((t j : ℕ) → t < p → Telling.seen_at n t j ≡ None) →
    LeastEventAwake n (Some (p, o, Put o))
least_put n p o ask can low =
    (((ap is_some here, λ j less. ap (Telling.seen_by n p j) ask ∙ ap (λ b. cond b (Telling.write_seen o (Telling.can_put (Telling.wire_out n p o)) (Telling.can_refuse (Telling.wire_out n p o))) None) (ne_eqb j o (λ e. omega (arith, e, less)))), low), here)
  where
    here : Telling.seen_at n p o ≡ Some (Put o)
    here =
        ap (Telling.seen_by n p o) ask ∙ ap (λ b. cond b (Telling.write_seen o (Telling.can_put (Telling.wire_out n p o)) (Telling.can_refuse (Telling.wire_out n p o))) None) (test_same o)
        ∙ ap (λ b. Telling.write_seen o b (Telling.can_refuse (Telling.wire_out n p o))) can

-- and who asks to look at a record that shows sees it
pub least_read : (n : DeskState) (c i : ℕ) → Telling.ask_at n c ≡ Now.Read i → Telling.shows (Telling.wire_in n c i) ≡ true → ((t j : ℕ) → t < c → Telling.seen_at n t j ≡ None) → LeastEventAwake n (Some (c, i, Saw i))
least_read n c i ask shows low =
    (((ap is_some here, λ j less. ap (Telling.seen_by n c j) ask ∙ ap (λ b. cond b (Telling.read_seen i (Telling.shows (Telling.wire_in n c i)) (Telling.is_over (Telling.wire_in n c i))) None) (ne_eqb j i (λ e. omega (arith, e, less)))), low), here)
  where
    here : Telling.seen_at n c i ≡ Some (Saw i)
    here =
        ap (Telling.seen_by n c i) ask ∙ ap (λ b. cond b (Telling.read_seen i (Telling.shows (Telling.wire_in n c i)) (Telling.is_over (Telling.wire_in n c i))) None) (test_same i)
        ∙ ap (λ b. Telling.read_seen i b (Telling.is_over (Telling.wire_in n c i))) shows

-- who reads on an input asks for just that
pub reads_as : (a : Ask) (i : ℕ) → Telling.reads_on a i ≡ true → a ≡ Now.Read i
reads_as (Now.Read k) i e = ap Now.Read (eqb-true k i e)
reads_as Now.Nothing i e = cc
reads_as (Now.Commit level) i e = cc
reads_as Now.Any i e = cc
reads_as Now.Gate i e = cc
reads_as (Now.Take k) i e = cc
reads_as (Now.Write o) i e = cc
reads_as Now.Primed i e = cc
reads_as Now.Issue i e = cc
reads_as (Now.Join unit) i e = cc
reads_as (Now.Cut k) i e = cc
reads_as (Now.Done code) i e = cc

-- a strand that doesn't write comes home with what it asks for alone
home_alone : (d n : DeskState) (pool after : PoolState) (s : ℕ) (w : Want) → ((o : ℕ) → IsWriteOn o w → ⊥) → HasCome d pool s w n after → n ≡ desk_at_home d s (ask_for w)
home_alone d n pool after s (want.Write o out) silent come = absurd (silent o refl)
home_alone d n pool after s (want.Commit level) silent come = come.0
home_alone d n pool after s (want.Read i) silent come = come.0
home_alone d n pool after s want.Any silent come = come.0
home_alone d n pool after s want.Gate silent come = come.0
home_alone d n pool after s (want.Take i) silent come = come.0
home_alone d n pool after s want.Primed silent come = come.0
home_alone d n pool after s (want.Issue text) silent come = come.0
home_alone d n pool after s (want.Join unit) silent come = come.0
home_alone d n pool after s (want.Cut i) silent come = come.0
home_alone d n pool after s (want.Done code) silent come = come.0

-- what is so of a want without its new record is so of the want, where it is so of those that write
pub bare_back : (P : Want → Type 0) → ((o : ℕ) (out : Out) → P (want.Write o (bare_out out)) → P (want.Write o out)) → (w : Want) → P (bare w) → P w
bare_back P writes (want.Write o out) is = writes o out is
bare_back P writes (want.Commit level) is = is
bare_back P writes (want.Read i) is = is
bare_back P writes want.Any is = is
bare_back P writes want.Gate is = is
bare_back P writes (want.Take i) is = is
bare_back P writes want.Primed is = is
bare_back P writes (want.Issue text) is = is
bare_back P writes (want.Join unit) is = is
bare_back P writes (want.Cut i) is = is
bare_back P writes (want.Done code) is = is

-- nothing but the want to write writes
pub no_write : (o : ℕ) (w : Want) → ((k : ℕ) (out : Out) → w ≡ want.Write k out → ⊥) → IsWriteOn o w → ⊥
no_write o (want.Write k out) other is = other k out refl
no_write o (want.Commit level) other is = is
no_write o (want.Read i) other is = is
no_write o want.Any other is = is
no_write o want.Gate other is = is
no_write o (want.Take i) other is = is
no_write o want.Primed other is = is
no_write o (want.Issue text) other is = is
no_write o (want.Join unit) other is = is
no_write o (want.Cut i) other is = is
no_write o (want.Done code) other is = is

-- who offers a record on an output asks to write there
pub offer_asks : (o : ℕ) (w : Option Wanted) (rec : List ℕ) → offered o w ≡ Some rec → asked w ≡ Now.Write o
offer_asks o None rec is = cc
offer_asks o (Some (Wanted.Write k text)) rec is = ap Now.Write (eqb-true k o (cond_some (k == o) (Some text) is).0)
offer_asks o (Some (Wanted.Commit level)) rec is = cc
offer_asks o (Some (Wanted.Read i)) rec is = cc
offer_asks o (Some Wanted.Any) rec is = cc
offer_asks o (Some Wanted.Gate) rec is = cc
offer_asks o (Some (Wanted.Take i)) rec is = cc
offer_asks o (Some Wanted.Prime) rec is = cc
offer_asks o (Some (Wanted.Issue text)) rec is = cc
offer_asks o (Some (Wanted.Join unit)) rec is = cc
offer_asks o (Some (Wanted.Sever i)) rec is = cc
offer_asks o (Some (Wanted.Done code)) rec is = cc

-- a rendezvous that shows a record has an offer, and as many records were put as taken
shown_offer : (wire : WireState) → is_some wire.queue ≡ false → IsSome (hand_of wire wire.queue) → ((wire.puts == wire.tooks) ≡ true) × ((grip : ℕ) × (wire.offer ≡ Some grip))
shown_offer wire plain shows = go wire.queue plain shows
  where
    there : (x : Option ℕ) → IsSome x → (grip : ℕ) × (x ≡ Some grip)
    there None none = cc
    there (Some grip) some = (grip, refl)

    both : ((grip : ℕ) × (hand_of wire None ≡ Some grip)) → ((wire.puts == wire.tooks) ≡ true) × ((grip : ℕ) × (wire.offer ≡ Some grip))
    both hand = let is = cond_some {e = hand.0} (wire.puts == wire.tooks) wire.offer hand.1 in (is.0, (hand.0, is.1))

    go : (q : Option (List ℕ)) → is_some q ≡ false → IsSome (hand_of wire q) → ((wire.puts == wire.tooks) ≡ true) × ((grip : ℕ) × (wire.offer ≡ Some grip))
    go None plain shows = both (there (hand_of wire None) shows)
    go (Some waiting) plain shows = cc

-- what a strand was told is the same through the doors of another desk
told_through : (net : Net) (d n : DeskState) (s : ℕ) (seen : Seen) → n.doors ≡ d.doors → HasSeenOrPut net n s seen → HasSeenOrPut net d s seen
told_through net d n s (Saw i) doors told = tt
told_through net d n s (Put o) doors told = λ link l. told link (ap (λ (z : List DoorsState). link_through net.links (Telling.joined (slice_get (Telling.outputs_of (slice_get z s)) o))) doors ∙ l)
told_through net d n s (Took i) doors told = absurd told
told_through net d n s (Up level code) doors told = absurd told
told_through net d n s (SawEnd i) doors told = absurd told
told_through net d n s SawAllEnd doors told = absurd told
told_through net d n s (Refused o) doors told = absurd told
told_through net d n s (Cut i) doors told = absurd told
told_through net d n s (Primed b) doors told = absurd told
told_through net d n s (Opened unit) doors told = absurd told
told_through net d n s (Joined unit code) doors told = absurd told
told_through net d n s (Ended code) doors told = absurd told

-- what a strand was told of a record is the same on the desk before
pub told_before : (net : Net) (d : DeskState) (pool : PoolState) (s k : ℕ) (seen : Seen) (wanted : Want) (n : DeskState) (after : PoolState) → HasGoneQuietly net d pool s k seen wanted n after →
    HasSeenOrPut net n s seen → HasSeenOrPut net d s seen
told_before net d pool s k seen wanted n after gone told = told_through net d n s seen (doors_kept net d pool s k seen wanted n after gone) told

-- a strand that came home to take after it saw or put a record takes it next
pub take_next : (net : Net) (d : DeskState) (pool : PoolState) (s k : ℕ) (seen : Seen) (wanted : Want) (n : DeskState) (after : PoolState) → HasGoneQuietly net d pool s k seen wanted n after →
    HasSeenOrPut net d s seen → (i : ℕ) → wanted ≡ want.Take i → LeastEventAwake n (Some (s, i, Took i))
take_next net d pool s k seen wanted n after gone told i wants =
    least_take n s i asks (low_still net d pool s k seen wanted n after gone told (ap commits wants) (λ o writes. subst (IsWriteOn o) wants writes))
  where
    seat : (x : Seat) × (slice_get d.seats s ≡ Some x)
    seat = at_some d.seats s (subst (λ z. s < z) (sym gone.used.kept.laid.seat_count) gone.strand)

    come : HasCome (desk_after_turn d s seen) (pool_after_turn d pool s seen) s (want.Take i) n after
    come = subst (λ w. HasCome (desk_after_turn d s seen) (pool_after_turn d pool s seen) s w n after) wants (has_come net d pool s k seen wanted n after gone)

    asks : Telling.ask_at n s ≡ Now.Take i
    asks =
        ap (λ z. Telling.ask_at z s) come.0
        ∙ ap Telling.ask_of (changed_here (desk_after_turn d s seen).seats (asking (Now.Take i)) s
        ∙ ap (option_map (asking (Now.Take i))) (changed_here d.seats (seat_after seen) s ∙ ap (option_map (seat_after seen)) seat.1))

module _ (net : Net) (d : DeskState) (pool : PoolState) (s k i : ℕ) (wanted : Want) (n : DeskState) (after : PoolState) (gone : HasGoneQuietly net d pool s k (Took i) wanted n after)
    (plain : commits wanted ≡ false) (silent : (o : ℕ) → IsWriteOn o wanted → ⊥) (j : ℕ) (link : Link) (door : Telling.in_door n s i ≡ Some j) (at : slice_get net.links j ≡ Some link) (meets : link.queue ≡ false) (below : link.from < s) where
  abbrev p : ℕ
  p = link.from

  abbrev o : ℕ
  o = link.output

  home : n ≡ desk_at_home (desk_after_turn d s (Took i)) s (ask_for wanted)
  home = home_alone (desk_after_turn d s (Took i)) n (pool_after_turn d pool s (Took i)) after s wanted silent (has_come net d pool s k (Took i) wanted n after gone)

  door_was : Telling.in_door d s i ≡ Some j
  door_was = sym (ap (λ z. Telling.in_door z s i) home) ∙ door

  wire : (x : WireState) × (slice_get d.wires j ≡ Some x)
  wire = beside net.links d.wires j link (sym gone.used.kept.laid.wire_count) at

  stands : IsWire net gone.used.texts gone.used.st gone.used.left link wire.0
  stands = gone.used.kept.wires j link wire.0 at wire.1

  offer : ((wire.0.puts == wire.0.tooks) ≡ true) × ((grip : ℕ) × (wire.0.offer ≡ Some grip))
  offer = shown_offer wire.0 (queues_as net gone.used.texts gone.used.st gone.used.left link wire.0 stands ∙ meets) (gone.can.0 wire.0 (ap (Telling.through d.wires) door_was ∙ wire.1))

  -- the strand that wrote the record asks to write still
  asks_put : Telling.ask_at n p ≡ Now.Write o
  asks_put =
      ap (λ z. Telling.ask_at z p) home
      ∙ ap Telling.ask_of (changed_there (desk_after_turn d s (Took i)).seats (asking (ask_for wanted)) s p apart ∙ changed_there d.seats (seat_after (Took i)) s p apart)
      ∙ ask_is net gone.used.texts gone.used.st gone.used.left d gone.formed gone.used.kept p
      ∙ offer_asks o (want_at net gone.used.st gone.used.left p) (gone.used.texts offer.1.0) (sym stands.offer ∙ ap (option_map gone.used.texts) offer.1.1)
    where
      apart : p ≢ s
      apart e = omega (arith, e, below)

  -- and may put it
  may_put : Telling.can_put (Telling.wire_out n p o) ≡ true
  may_put = ap (λ z. Telling.can_put (Telling.wire_out z p o)) home ∙ ap (λ z. Telling.can_put (Telling.through (desk_after_turn d s (Took i)).wires z)) its_door ∙ ap Telling.can_put now ∙ ahead
    where
      door_to : (x : Option ℕ) → leads j x ≡ true → x ≡ Some j
      door_to None none = cc
      door_to (Some m) is = ap Some (eqb-true m j is)

      its_door : Telling.out_door d p o ≡ Some j
      its_door = door_to (Telling.out_door d p o) (out_leads net gone.formed gone.used.st d gone.used.kept.laid p o j link at ∙ ap (λ b. b && o == o) (test_same p) ∙ test_same o)

      now : slice_get (desk_after_turn d s (Took i)).wires j ≡ Some (taken wire.0)
      now = ap (λ z. slice_get (list_changed_behind d.wires taken z) j) door_was ∙ changed_here d.wires taken j ∙ ap (option_map taken) wire.1

      more : nat_lt wire.0.puts (wire.0.tooks + 1) ≡ true
      more = let same : wire.0.puts ≡ wire.0.tooks = eqb-true wire.0.puts wire.0.tooks offer.0 in grind (arith, nat_tests, same)

      ahead : Telling.can_put (Some (taken wire.0)) ≡ true
      ahead = or_second (is_some (taken wire.0).queue) (nat_lt wire.0.puts (wire.0.tooks + 1)) more

  -- so it puts it next
  pub put_next : LeastEventAwake n (Some (p, o, Put o))
  put_next = least_put n p o asks_put may_put
      (λ t m less. low_take net d pool s k (Took i) wanted n after gone i refl plain link (ap (link_through net.links) door ∙ at) t m (omega (arith, less, below)) (λ e. omega (arith, e, less))
      (λ q reader writes there. absurd (silent q writes)))

-- a strand that came home to write asks for just that
pub asks_write : (net : Net) (d : DeskState) (pool : PoolState) (s k : ℕ) (seen : Seen) (wanted : Want) (n : DeskState) (after : PoolState) → HasGoneQuietly net d pool s k seen wanted n after →
    (o : ℕ) → IsWriteOn o wanted → Telling.ask_at n s ≡ Now.Write o
asks_write net d pool s k seen wanted n after gone o writes =
    ap (λ z. Telling.ask_at z s) come.home
    ∙ ap Telling.ask_of (changed_here (desk_after_turn d s seen).seats (asking (Now.Write o)) s
    ∙ ap (option_map (asking (Now.Write o))) (changed_here d.seats (seat_after seen) s ∙ ap (option_map (seat_after seen)) seat.1))
  where
    seat : (x : Seat) × (slice_get d.seats s ≡ Some x)
    seat = at_some d.seats s (subst (λ z. s < z) (sym gone.used.kept.laid.seat_count) gone.strand)

    is : (out : Out) × (wanted ≡ want.Write o out)
    is = writing o wanted writes

    come : HasCome (desk_after_turn d s seen) (pool_after_turn d pool s seen) s (want.Write o is.0) n after
    come = subst (λ w. HasCome (desk_after_turn d s seen) (pool_after_turn d pool s seen) s w n after) is.1 (has_come net d pool s k seen wanted n after gone)

-- who reads what is written sees it next, where it asks to and the record shows, and it stands below the strand that writes, or right behind it while that has to wait
pub read_next : (net : Net) (d : DeskState) (pool : PoolState) (s k : ℕ) (seen : Seen) (wanted : Want) (n : DeskState) (after : PoolState) → HasGoneQuietly net d pool s k seen wanted n after →
    HasSeenOrPut net d s seen → (o : ℕ) → IsWriteOn o wanted → (j : ℕ) (link : Link) → Telling.out_door n s o ≡ Some j → slice_get net.links j ≡ Some link →
    (link.to < s) ⊎ ((link.to ≡ s + 1) × ((Telling.can_put (Telling.wire_out n s o) || Telling.can_refuse (Telling.wire_out n s o)) ≡ false)) →
    Telling.shows (Telling.through n.wires (Some j)) ≡ true → Telling.ask_at n link.to ≡ Now.Read link.input → LeastEventAwake n (Some (link.to, link.input, Saw link.input))
read_next net d pool s k seen wanted n after gone told o writes j link door at near shows asks = least_read n link.to link.input asks (ap Telling.shows (ap (Telling.through n.wires) its_door) ∙ shows) (below near)
  where
    door_to : (x : Option ℕ) → leads j x ≡ true → x ≡ Some j
    door_to None none = cc
    door_to (Some m) is = ap Some (eqb-true m j is)

    its_door : Telling.in_door n link.to link.input ≡ Some j
    its_door =
        ap (λ (z : List DoorsState). Telling.joined (slice_get (Telling.inputs_of (slice_get z link.to)) link.input)) (doors_kept net d pool s k seen wanted n after gone)
        ∙ door_to (Telling.in_door d link.to link.input) (in_leads net gone.formed gone.used.st d gone.used.kept.laid link.to link.input j link at ∙ ap (λ b. b && link.input == link.input) (test_same link.to) ∙ test_same link.input)

    through : link_through net.links (Telling.out_door n s o) ≡ Some link
    through = ap (link_through net.links) door ∙ at

    below : (link.to < s) ⊎ ((link.to ≡ s + 1) × ((Telling.can_put (Telling.wire_out n s o) || Telling.can_refuse (Telling.wire_out n s o)) ≡ false)) → (t h : ℕ) → t < link.to → Telling.seen_at n t h ≡ None
    below (inl under) t h less = low_offer net d pool s k seen wanted n after gone told o writes link through t h (omega (arith, under, less)) (λ e. omega (arith, less, e))
    below (inr behind) t h less = elim (equal_or_not t s) [
      | inl e ↦ ap (λ z. Telling.seen_at n z h) e ∙ waits net d pool s k seen wanted n after gone o writes behind.1 h
      | inr apart ↦ low_offer net d pool s k seen wanted n after gone told o writes link through t h (strict t link.to less behind.0 apart) (λ e. omega (arith, less, e))
    ]
      where
        strict : (a b : ℕ) → a < b → b ≡ s + 1 → a ≢ s → a < s
        strict a b p q e = grind arith
