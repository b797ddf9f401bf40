-- A strand that passes records on makes two changes in one: what each of them keeps, both keep.
use Rattle.std.proofs.Common.{◌≡◌, ◌≢◌, ◌<◌, inl, inr, ℕ, ℤ, Bool, true, false, ◌||◌, ◌&&◌, ◌==◌, not, List, [], length, refl, sym, ◌∙◌, ap, subst, Option, Some, None, is_some, slice_get, slice_index_or, pos, negsuc}
use Rattle.std.specs.Option.{option_map, option_map_or}
use Rattle.std.proofs.lemmas.Option.{slice_get_within, slice_get-get_or}
use Rattle.pipe_model.specs.declared.net.Net.{Net}
use Rattle.pipe_model.specs.declared.net.Link.{Link}
use Rattle.pipe_model.specs.declared.step.Seen.{Seen}
use Rattle.pipe_model.specs.declared.step.Seen.TheVariants.{Saw, Took, Put, Cut, Ended}
use Rattle.pipe_model.specs.declared.step.Want.{Want}
use Rattle.pipe_model.specs.declared.step.Want.TheVariants as want
use Rattle.pipe_model.specs.WellFormed.{IsWellFormed}
use Rattle.pipe_model.proofs.Lists.{at_some}
use Rattle.pipe_model.proofs.Numbers.{equal_or_not}
use Rattle.pipe_model.proofs.Truths.{neither, cond_some}
use Rattle.record_pool.specs.PoolState.{PoolState}
use Rattle.record_pool.specs.Places.{IsHeld, bytes_at, shared}
use Rattle.connectors.specs.WireState.{WireState, at_hand, IsHeldIn, given_in}
use Rattle.run_desk.specs.declared.seat.Ask.{Ask}
use Rattle.run_desk.specs.declared.seat.Ask.TheVariants as Now
use Rattle.run_desk.specs.Desk.{DeskState}
use Rattle.run_desk.specs.Standing.{link_through}
use Rattle.run_desk.specs.Turns.{Behind, CanTurn, HasCome, seat_after, hand_on, list_changed_behind, sights_seen, pool_seen, desk_after_turn, pool_after_turn, ends, sees}
use Rattle.run_desk.specs.Passing.{desk_taking, desk_passed, pool_passed}
use Rattle.run_desk.specs.Telling as Telling
use Rattle.run_desk.proofs.Gives.{bytes_given, bytes_shared}
use Rattle.run_desk.proofs.Lists.{changed_here}
use Rattle.run_desk.proofs.Queues.{queues_as}
use Rattle.core_machine.specs.Actors.{bytes_ahead, bytes_told}
use Rattle.core_machine.specs.Ahead.{HasGoneQuietly, HasSeenOrPut}
use Rattle.core_machine.specs.Floor.{IsInUse, CanMake, StaysEarly}
use Rattle.core_machine.specs.Members.{Members, is_member}
use Rattle.core_machine.specs.Woken.{IsCovering, AsksEarly, HasReturned, IsProducerIn, IsReaderIn, AreEndsIn, LeastEventAwake, commits, may_settle}
use Rattle.core_machine.proofs.Homes.{covers_home}
use Rattle.core_machine.proofs.Lows.{ended_seat, ends_still}
use Rattle.core_machine.proofs.Outs.{covers_out, no_waiting, was_settled}

-- The record at hand

-- who is shown a record has it at hand
hand_there : (x : Option WireState) → Telling.shows x ≡ true → (grip : ℕ) × (hand_on x ≡ Some grip)
hand_there None is = cc
hand_there (Some wire) is = there (at_hand wire) is
  where
    there : (y : Option ℕ) → is_some y ≡ true → (grip : ℕ) × (y ≡ Some grip)
    there None none = cc
    there (Some grip) some = (grip, refl)

module _ (d : DeskState) (pool : PoolState) (s i : ℕ) (can : CanTurn d pool s (Saw i)) (shows : Telling.shows (Telling.wire_in d s i) ≡ true)
    (held : IsHeldIn (pool_after_turn d pool s (Saw i)) (Telling.sight_through (desk_after_turn d s (Saw i)).sights (Telling.sight_door (desk_after_turn d s (Saw i)) s i))) where
  abbrev seen_in : PoolState
  seen_in = pool_after_turn d pool s (Saw i)

  abbrev before : Option ℕ
  before = Telling.sight_through d.sights (Telling.sight_door d s i)

  at_hand_now : (grip : ℕ) × (hand_on (Telling.wire_in d s i) ≡ Some grip)
  at_hand_now = hand_there (Telling.wire_in d s i) shows

  spot : (n : ℕ) × (Telling.sight_door d s i ≡ Some n) × (n < length d.sights)
  spot = can.0 at_hand_now.0 at_hand_now.1

  sight_is : Telling.sight_through (desk_after_turn d s (Saw i)).sights (Telling.sight_door (desk_after_turn d s (Saw i)) s i) ≡ Some at_hand_now.0
  sight_is =
      ap (λ h. Telling.sight_through (sights_seen d.sights (Telling.sight_door d s i) h) (Telling.sight_door d s i)) at_hand_now.1
      ∙ ap (λ z. Telling.sight_through (list_changed_behind d.sights (λ sight. Some at_hand_now.0) z) z) spot.1
      ∙ ap Telling.joined (changed_here d.sights (λ sight. Some at_hand_now.0) spot.0)
      ∙ ap (λ x. Telling.joined (option_map (λ sight. Some at_hand_now.0) x)) (at_some d.sights spot.0 spot.2).1

  pool_is : seen_in ≡ given_in (shared pool at_hand_now.0) before
  pool_is = ap (pool_seen pool before) at_hand_now.1

  held_then : IsHeld (given_in (shared pool at_hand_now.0) before) at_hand_now.0
  held_then = subst (λ p. IsHeld p at_hand_now.0) pool_is (subst (IsHeldIn seen_in) sight_is held)

  same_bytes : bytes_at pool at_hand_now.0 ≡ bytes_at seen_in at_hand_now.0
  same_bytes =
      let given = bytes_given (shared pool at_hand_now.0) before at_hand_now.0 held_then in
      let more = bytes_shared pool at_hand_now.0 at_hand_now.0 given.0 in
      sym more.1 ∙ sym given.1 ∙ sym (ap (λ p. bytes_at p at_hand_now.0) pool_is)

  -- the bytes of the record at hand are those that the strand sees of it
  pub bytes_shown : option_map_or (bytes_at pool) (hand_on (Telling.wire_in d s i)) [] ≡ bytes_told true (desk_after_turn d s (Saw i)) seen_in s (Saw i)
  bytes_shown = ap (λ z. option_map_or (bytes_at pool) z []) at_hand_now.1 ∙ same_bytes ∙ sym (ap (λ z. option_map_or (bytes_at seen_in) z []) sight_is)

-- so are those of the link at the input, where it looks
pub bytes_ahead_told : (d : DeskState) (pool : PoolState) (s i link : ℕ) → CanTurn d pool s (Saw i) → Telling.shows (Telling.wire_in d s i) ≡ true →
    IsHeldIn (pool_after_turn d pool s (Saw i)) (Telling.sight_through (desk_after_turn d s (Saw i)).sights (Telling.sight_door (desk_after_turn d s (Saw i)) s i)) →
    Telling.in_door d s i ≡ Some link → (looks : Bool) →
    bytes_ahead looks d pool link ≡ bytes_told looks (desk_after_turn d s (Saw i)) (pool_after_turn d pool s (Saw i)) s (Saw i)
bytes_ahead_told d pool s i link can shows held door true =
    ap (λ z. option_map_or (bytes_at pool) (hand_on (Telling.through d.wires z)) []) (sym door) ∙ bytes_shown d pool s i can shows held
bytes_ahead_told d pool s i link can shows held door false = refl

-- the record at hand there is held
pub held_ahead : (d : DeskState) (pool : PoolState) (s i link : ℕ) → CanTurn d pool s (Saw i) → Telling.in_door d s i ≡ Some link → IsHeldIn pool (hand_on (Telling.through d.wires (Some link)))
held_ahead d pool s i link can door = subst (λ z. IsHeldIn pool (hand_on (Telling.through d.wires z))) door (by_hand (hand_on (Telling.wire_in d s i)) can.1)
  where
    by_hand : (x : Option ℕ) → ((grip : ℕ) → x ≡ Some grip → IsHeld pool grip) → IsHeldIn pool x
    by_hand None each = tt
    by_hand (Some grip) each = each grip refl

-- who reads on an input and is told of a record sees that of the input
read_shown : (j i : ℕ) (hand over : Bool) → Telling.read_seen j hand over ≡ Some (Saw i) → (hand ≡ true) × (j ≡ i)
read_shown j i true over is = let same : j ≡ i = cc in (refl, same)
read_shown j i false true is = cc
read_shown j i false false is = cc

-- so does who reads on any input
any_shown : (j i : ℕ) (hand over : Bool) → Telling.any_seen j hand over ≡ Some (Saw i) → (hand ≡ true) × (j ≡ i)
any_shown j i true over is = let same : j ≡ i = cc in (refl, same)
any_shown j i false true is = cc
any_shown j i false false is = cc

-- and nobody else is told of a record that it sees
no_level : (level : ℤ) (x : Option ℤ) (i : ℕ) → Telling.up_seen level x ≡ Some (Saw i) → ⊥
no_level level None i is = cc
no_level level (Some code) i is = cc

no_offer : (o i : ℕ) (put refuse : Bool) → Telling.write_seen o put refuse ≡ Some (Saw i) → ⊥
no_offer o i true refuse is = cc
no_offer o i false true is = cc
no_offer o i false false is = cc

no_primer : (x : Option Bool) (i : ℕ) → Telling.primed_seen x ≡ Some (Saw i) → ⊥
no_primer None i is = cc
no_primer (Some primed) i is = cc

-- who is told that it sees a record is shown one, whatever it asks for
shown_by : (d : DeskState) (s k i : ℕ) (ask : Ask) → Telling.seen_by d s k ask ≡ Some (Saw i) → Telling.shows (Telling.wire_in d s i) ≡ true
shown_by d s k i Now.Nothing is = cc
shown_by d s k i (Now.Commit level) is = absurd (no_level level (Telling.level_code d level) i (cond_some (k == 0) (Telling.up_seen level (Telling.level_code d level)) is).1)
shown_by d s k i (Now.Read j) is =
    let there = (cond_some (k == j) (Telling.read_seen j (Telling.shows (Telling.wire_in d s j)) (Telling.is_over (Telling.wire_in d s j))) is).1 in
    let seen = read_shown j i (Telling.shows (Telling.wire_in d s j)) (Telling.is_over (Telling.wire_in d s j)) there in
    subst (λ z. Telling.shows (Telling.wire_in d s z) ≡ true) seen.1 seen.0
shown_by d s k i Now.Any is =
    let seen = any_shown k i (Telling.shows (Telling.wire_in d s k)) ((k == 0) && Telling.all_over d s) is in
    subst (λ z. Telling.shows (Telling.wire_in d s z) ≡ true) seen.1 seen.0
shown_by d s k i Now.Gate is =
    let seen = read_shown k i (Telling.shows (Telling.wire_in d s k)) ((k == 0) && Telling.is_over (Telling.wire_in d s k)) is in
    subst (λ z. Telling.shows (Telling.wire_in d s z) ≡ true) seen.1 seen.0
shown_by d s k i (Now.Take j) is = let other : Some (Took j) ≡ Some (Saw i) = (cond_some (k == j) (Some (Took j)) is).1 in cc
shown_by d s k i (Now.Write o) is =
    absurd (no_offer o i (Telling.can_put (Telling.wire_out d s o)) (Telling.can_refuse (Telling.wire_out d s o))
    (cond_some (k == o) (Telling.write_seen o (Telling.can_put (Telling.wire_out d s o)) (Telling.can_refuse (Telling.wire_out d s o))) is).1)
shown_by d s k i Now.Primed is = absurd (no_primer (Telling.primed_at d s) i (cond_some (k == 0) (Telling.primed_seen (Telling.primed_at d s)) is).1)
shown_by d s k i Now.Issue is = cc
shown_by d s k i (Now.Join unit) is = cc
shown_by d s k i (Now.Cut j) is = let other : Some (Cut j) ≡ Some (Saw i) = (cond_some (k == j) (Some (Cut j)) is).1 in cc
shown_by d s k i (Now.Done code) is = let other : Some (Ended code) ≡ Some (Saw i) = (cond_some (k == 0) (Some (Ended code)) is).1 in cc

pub shown_at : (d : DeskState) (s k i : ℕ) → Telling.seen_at d s k ≡ Some (Saw i) → Telling.shows (Telling.wire_in d s i) ≡ true
shown_at d s k i is = shown_by d s k i (Telling.ask_at d s) is

-- Links

-- no link
abbrev pub none : Link
none = record { from = 0; output = 0; to = 0; input = 0; queue = false }

-- a link of a number that is one of the links' is found there
pub link_of : (links slice : List Link) (j : ℕ) → slice ≡ links → j < length links → slice_get links j ≡ Some (slice_index_or slice j none)
link_of links slice j same inside = slice_get-get_or links j none inside ∙ ap (λ z. Some (slice_index_or z j none)) (sym same)

-- so is a link that is there
pub link_at : (links slice : List Link) (j : ℕ) (one : Link) → slice ≡ links → slice_get links j ≡ Some one → slice_get links j ≡ Some (slice_index_or slice j none)
link_at links slice j one same at = link_of links slice j same (slice_get_within links j one at)

-- behind a door there is but one link
pub same_link : (links : List Link) (door : Option ℕ) (j : ℕ) (one link : Link) → door ≡ Some j → slice_get links j ≡ Some one → link_through links door ≡ Some link → link ≡ one
same_link links door j one link is at there = let same : Some link ≡ Some one = sym there ∙ (ap (link_through links) is ∙ at) in cc

-- a set is larger with one strand more
pub larger_with : (old new : Members) (one : ℕ) → is_member new one ≡ true → ((t : ℕ) → t ≢ one → is_member new t ≡ is_member old t) → (t : ℕ) → is_member old t ≡ true → is_member new t ≡ true
larger_with old new one here others t held = elim (equal_or_not t one) [
  | inl is ↦ ap (is_member new) is ∙ here
  | inr apart ↦ others t apart ∙ held
]

-- no record waits on the wire of a link that is no queue
pub no_queue : (net : Net) (d : DeskState) → IsInUse net d → (j : ℕ) (link : Link) → slice_get net.links j ≡ Some link → link.queue ≡ false → Behind (λ wire. wire.queue ≡ None) d.wires (Some j)
no_queue net d used j link at plain = λ wire there. no_waiting wire.queue link.queue (queues_as net used.texts used.st used.left link wire (used.kept.wires j link wire at there)) plain

-- The set

-- the set that covers the strands that may go on, and has whom a turn concerns that settles nothing, covers them after it
pub covers_told : (net : Net) (d : DeskState) → IsWellFormed net → IsInUse net d → (pool : PoolState) (s : ℕ) (seen : Seen) (set : Members) →
    set.size ≡ length net.strands → CanTurn d pool s seen → Telling.ended_at d s ≡ false → may_settle d s seen ≡ false → AreEndsIn d net.links s seen set →
    IsCovering d set → IsCovering (desk_after_turn d s seen) set
covers_told net d formed used pool s seen set size can live quiet woken covers =
    covers_out net d formed used pool s seen set set set true true size can live (refl, λ u held. held) woken (refl, λ u held. held)
    (sym (ap (λ z. not z || is_some (Telling.level_code d (negsuc 0))) no_end)) (sym (ap (λ z. not z || is_some (Telling.level_code d (pos 0))) no_end))
    (λ now. inl (was_settled d s seen quiet now)) (λ no held. absurd (let q : ⊥ = cc in q)) (λ no held. absurd (let q : ⊥ = cc in q)) covers
  where
    no_end : ends seen ≡ false
    no_end = (neither (ends seen) (sees seen && not (is_some (Telling.primed_of (slice_get d.seats s)))) quiet).0

-- and after the strand came home and committed nothing, where the set has whom that concerns
pub covers_both : (net : Net) (d : DeskState) → IsWellFormed net → IsInUse net d → (pool : PoolState) (s : ℕ) (seen : Seen) (asked : Want) (n : DeskState) (after : PoolState) (set : Members) →
    set.size ≡ length net.strands → CanTurn d pool s seen → Telling.ended_at d s ≡ false → may_settle d s seen ≡ false → AreEndsIn d net.links s seen set →
    IsInUse net (desk_after_turn d s seen) → AsksEarly n → HasCome (desk_after_turn d s seen) (pool_after_turn d pool s seen) s asked n after → commits asked ≡ false →
    is_member set s ≡ true → IsReaderIn (desk_after_turn d s seen) net.links s asked set → IsCovering d set → IsCovering n set
covers_both net d formed used pool s seen asked n after set size can live quiet woken used_out early come plain here reader covers =
    covers_home net (desk_after_turn d s seen) n formed used_out early (pool_after_turn d pool s seen) after s asked set set set true true size come
    (refl, λ t held. held) here reader (refl, λ t held. held)
    (sym (ap (λ z. not z || is_some (Telling.level_code (desk_after_turn d s seen) (negsuc 0))) plain)) (sym (ap (λ z. not z || is_some (Telling.level_code (desk_after_turn d s seen) (pos 0))) plain))
    (λ no held. absurd (let q : ⊥ = cc in q)) (λ no held. absurd (let q : ⊥ = cc in q)) (covers_told net d formed used pool s seen set size can live quiet woken covers)

-- a strand that is told nothing of its end goes on
live_after : (d : DeskState) (s : ℕ) (seen : Seen) → ends seen ≡ false → Telling.ended_at d s ≡ false → Telling.ended_at (desk_after_turn d s seen) s ≡ false
live_after d s seen no_end live = ap Telling.ended_of (changed_here d.seats (seat_after seen) s) ∙ ended_seat seen (slice_get d.seats s) no_end live

-- who has returned and not ended has come home
pub come_live : (d : DeskState) (pool : PoolState) (s : ℕ) (asked : Want) (n : DeskState) (after : PoolState) →
    HasReturned d pool s asked n after → Telling.ended_at d s ≡ false → HasCome d pool s asked n after
come_live d pool s asked n after returned live = elim returned [
  | inl over ↦ (let z : true ≡ false = sym over.0 ∙ live in cc)
  | inr home ↦ home.1
]

-- A record that is taken at once

-- two events of a strand, by the second of which it takes a record
module _ (net : Net) (d : DeskState) (formed : IsWellFormed net) (pool : PoolState) (s : ℕ) (seen : Seen) (i : ℕ)
    (takes : CanMake net (desk_taking d s seen i) (pool_after_turn d pool s seen) s (Took i))
    (used_last : IsInUse net (desk_after_turn (desk_taking d s seen i) s (Took i)))
    (early_last : StaysEarly (desk_after_turn (desk_taking d s seen i) s (Took i)) (pool_passed d pool s seen i) s (want.Read i)) where
  -- the set that has the strand and who wrote the record covers those that may go on after both
  pub covers_taking : CanMake net d pool s seen → may_settle d s seen ≡ false → HasSeenOrPut net d s seen → IsInUse net (desk_after_turn d s seen) →
      StaysEarly (desk_after_turn d s seen) (pool_after_turn d pool s seen) s (want.Take i) → (set : Members) → set.size ≡ length net.strands → is_member set s ≡ true →
      IsProducerIn net.links set (Telling.in_door (desk_taking d s seen i) s i) → IsCovering d set → IsCovering (desk_passed d s seen i) set
  covers_taking can quiet told used early set size here woken covers =
      covers_both net (desk_taking d s seen i) formed takes.used (pool_after_turn d pool s seen) s (Took i) (want.Read i) (desk_passed d s seen i) (pool_passed d pool s seen i) set
      size takes.can takes.live refl woken used_last (early_last (desk_passed d s seen i) (pool_passed d pool s seen i) (refl, refl)) (refl, refl) refl here tt
      (covers_both net d formed can.used pool s seen (want.Take i) (desk_taking d s seen i) (pool_after_turn d pool s seen) set
      size can.can can.live quiet (ends_still net d s seen set told) used (early (desk_taking d s seen i) (pool_after_turn d pool s seen) (refl, refl)) (refl, refl) refl here tt covers)

  -- the second was the least event that might be, and settled nothing for many
  pub gone_taking : (k : ℕ) → LeastEventAwake (desk_taking d s seen i) (Some (s, k, Took i)) →
      HasGoneQuietly net (desk_taking d s seen i) (pool_after_turn d pool s seen) s k (Took i) (want.Read i) (desk_passed d s seen i) (pool_passed d pool s seen i)
  gone_taking k least = record {
    formed = formed;
    used = takes.used;
    can = takes.can;
    live = takes.live;
    strand = takes.strand;
    least = least;
    quiet = refl;
    used_out = used_last;
    early = early_last;
    returned = inr (live_after (desk_taking d s seen i) s (Took i) refl takes.live, (refl, refl));
  }

-- A record that is passed on, or follows one that was put

-- the strand saw a record, or put one and not into a queue, and came home with a want, which asks for no commit level
module _ (net : Net) (d : DeskState) (formed : IsWellFormed net) (pool : PoolState) (s : ℕ) (seen : Seen) (asked : Want) (can : CanMake net d pool s seen) (quiet : may_settle d s seen ≡ false)
    (told : HasSeenOrPut net d s seen) (used : IsInUse net (desk_after_turn d s seen)) (early : StaysEarly (desk_after_turn d s seen) (pool_after_turn d pool s seen) s asked)
    (n : DeskState) (after : PoolState) (come : HasCome (desk_after_turn d s seen) (pool_after_turn d pool s seen) s asked n after) where
  -- the set that has the strand and who reads what it writes covers those that may go on
  pub covers_passing : commits asked ≡ false → (set : Members) → set.size ≡ length net.strands → is_member set s ≡ true → IsReaderIn (desk_after_turn d s seen) net.links s asked set →
      IsCovering d set → IsCovering n set
  covers_passing plain set size here reader covers =
      covers_both net d formed can.used pool s seen asked n after set size can.can can.live quiet (ends_still net d s seen set told) used (early n after come) come plain here reader covers

  -- what it was told was the least event that might be
  pub gone_passing : (k : ℕ) → LeastEventAwake d (Some (s, k, seen)) → HasGoneQuietly net d pool s k seen asked n after
  gone_passing k least = record {
    formed = formed;
    used = can.used;
    can = can.can;
    live = can.live;
    strand = can.strand;
    least = least;
    quiet = quiet;
    used_out = used;
    early = early;
    returned = inr (live_after d s seen (neither (ends seen) (sees seen && not (is_some (Telling.primed_of (slice_get d.seats s)))) quiet).0 can.live, come);
  }

-- a record that was put on a rendezvous was put into no queue
pub put_on : (net : Net) (d : DeskState) (s o j : ℕ) (one : Link) → Telling.out_door d s o ≡ Some j → slice_get net.links j ≡ Some one → one.queue ≡ false → HasSeenOrPut net d s (Put o)
put_on net d s o j one door at plain = λ link there. ap (λ (z : Link). z.queue) (same_link net.links (Telling.out_door d s o) j one link door at there) ∙ plain
