-- Below the strand that made a step nobody may go on, but whom the step concerns.
use Rattle.std.proofs.Common.{◌≡◌, ◌≢◌, inl, inr, ℕ, ◌<◌, true, false, not, ◌==◌, ◌&&◌, ◌||◌, List, length, refl, sym, ◌∙◌, ap, subst, arith, Option, Some, None, is_some, slice_get, pos, negsuc}
use Rattle.std.proofs.lemmas.Bool.{ne_eqb}
use Rattle.std.proofs.lemmas.Option.{slice_get_within}
use Rattle.std.specs.Option.{option_map}
use Rattle.pipe_model.specs.declared.net.Net.{Net}
use Rattle.pipe_model.specs.declared.net.Link.{Link}
use Rattle.pipe_model.specs.declared.step.Seen.{Seen}
use Rattle.pipe_model.specs.declared.step.Seen.TheVariants.{Up, Saw, SawEnd, SawAllEnd, Took, Put, Refused, Cut, Primed, Opened, Joined, Ended}
use Rattle.pipe_model.specs.declared.step.Out.{Out}
use Rattle.pipe_model.specs.declared.step.Want.{Want}
use Rattle.pipe_model.specs.declared.step.Want.TheVariants as want
use Rattle.pipe_model.proofs.Numbers.{equal_or_not, test_same}
use Rattle.pipe_model.proofs.Truths.{neither}
use Rattle.record_pool.specs.PoolState.{PoolState}
use Rattle.run_desk.specs.declared.seat.Seat.{Seat}
use Rattle.run_desk.specs.Desk.{DoorsState, DeskState}
use Rattle.run_desk.specs.Standing.{link_through}
use Rattle.run_desk.specs.Turns.{HasCome, desk_after_turn, pool_after_turn, seat_after, ends, sees}
use Rattle.run_desk.specs.Telling as Telling
use Rattle.run_desk.proofs.Lists.{changed_here}
use Rattle.run_desk.proofs.Makes.{doors_moved}
use Rattle.core_machine.specs.Ahead.{HasGoneQuietly, HasSeenOrPut, IsWriteOn}
use Rattle.core_machine.specs.Members.{Members, is_member}
use Rattle.core_machine.specs.Woken.{IsCovering, IsReaderIn, AreEndsIn, commits}
use Rattle.core_machine.proofs.Ghosts.{set_of}
use Rattle.core_machine.proofs.Homes.{covers_home, may_write}
use Rattle.core_machine.proofs.Outs.{covers_out, was_settled}
use Rattle.core_machine.proofs.Plays.{links_inside}
use Rattle.core_machine.proofs.Wakes.{clash}

-- nobody below this strand may go on
abbrev pub IsLow : DeskState → ℕ → Type 0
IsLow d s = (t j : ℕ) → t < s → Telling.seen_at d t j ≡ None

-- Seats and doors

-- who was told nothing of its end has ended no more than before
pub ended_seat : (seen : Seen) (x : Option Seat) → ends seen ≡ false → Telling.ended_of x ≡ false → Telling.ended_of (option_map (seat_after seen) x) ≡ false
ended_seat seen None no_end live = refl
ended_seat seen (Some seat) no_end live = ap (λ b. b || ends seen) live ∙ no_end

-- who comes home changes no door
doors_home : (d : DeskState) (pool : PoolState) (s : ℕ) (w : Want) (n : DeskState) (after : PoolState) → HasCome d pool s w n after → n.doors ≡ d.doors
doors_home d pool s (want.Write o out) n after come = ap (λ (z : DeskState). z.doors) come.home
doors_home d pool s (want.Commit level) n after come = ap (λ (z : DeskState). z.doors) come.0
doors_home d pool s (want.Read i) n after come = ap (λ (z : DeskState). z.doors) come.0
doors_home d pool s want.Any n after come = ap (λ (z : DeskState). z.doors) come.0
doors_home d pool s want.Gate n after come = ap (λ (z : DeskState). z.doors) come.0
doors_home d pool s (want.Take i) n after come = ap (λ (z : DeskState). z.doors) come.0
doors_home d pool s want.Primed n after come = ap (λ (z : DeskState). z.doors) come.0
doors_home d pool s (want.Issue text) n after come = ap (λ (z : DeskState). z.doors) come.0
doors_home d pool s (want.Join unit) n after come = ap (λ (z : DeskState). z.doors) come.0
doors_home d pool s (want.Cut i) n after come = ap (λ (z : DeskState). z.doors) come.0
doors_home d pool s (want.Done code) n after come = ap (λ (z : DeskState). z.doors) come.0

-- Who is concerned

-- the link behind a door is one of the links
behind_door : (links : List Link) (door : Option ℕ) (link : Link) → link_through links door ≡ Some link → (j : ℕ) × (slice_get links j ≡ Some link)
behind_door links None link l = cc
behind_door links (Some j) link l = (j, l)

-- a record that is seen, or put and not into a queue, concerns nobody else
pub ends_still : (net : Net) (d : DeskState) (s : ℕ) (seen : Seen) (set : Members) → HasSeenOrPut net d s seen → AreEndsIn d net.links s seen set
ends_still net d s (Saw i) set plain = tt
ends_still net d s (Put o) set plain = λ link l queue. let z : true ≡ false = sym queue ∙ plain link l in cc
ends_still net d s (Took i) set plain = absurd plain
ends_still net d s (Up l c) set plain = absurd plain
ends_still net d s (SawEnd i) set plain = absurd plain
ends_still net d s SawAllEnd set plain = absurd plain
ends_still net d s (Refused o) set plain = absurd plain
ends_still net d s (Cut i) set plain = absurd plain
ends_still net d s (Primed b) set plain = absurd plain
ends_still net d s (Opened k) set plain = absurd plain
ends_still net d s (Joined k c) set plain = absurd plain
ends_still net d s (Ended c) set plain = absurd plain

-- only who reads what is written is concerned by who comes home
readers : (d : DeskState) (links : List Link) (s : ℕ) (w : Want) (set : Members) →
    ((o : ℕ) (link : Link) → IsWriteOn o w → link_through links (Telling.out_door d s o) ≡ Some link → is_member set link.to ≡ true) → IsReaderIn d links s w set
readers d links s (want.Write o out) set reads = λ link l. reads o link refl l
readers d links s (want.Commit level) set reads = tt
readers d links s (want.Read i) set reads = tt
readers d links s want.Any set reads = tt
readers d links s want.Gate set reads = tt
readers d links s (want.Take i) set reads = tt
readers d links s want.Primed set reads = tt
readers d links s (want.Issue text) set reads = tt
readers d links s (want.Join unit) set reads = tt
readers d links s (want.Cut i) set reads = tt
readers d links s (want.Done code) set reads = tt

-- who writes on an output asks for just that
pub writing : (o : ℕ) (w : Want) → IsWriteOn o w → (out : Out) × (w ≡ want.Write o out)
writing o (want.Write q out) writes = (out, ap (λ z. want.Write z out) writes)
writing o (want.Commit level) writes = absurd writes
writing o (want.Read i) writes = absurd writes
writing o want.Any writes = absurd writes
writing o want.Gate writes = absurd writes
writing o (want.Take i) writes = absurd writes
writing o want.Primed writes = absurd writes
writing o (want.Issue text) writes = absurd writes
writing o (want.Join unit) writes = absurd writes
writing o (want.Cut i) writes = absurd writes
writing o (want.Done code) writes = absurd writes

module _ (net : Net) (d : DeskState) (pool : PoolState) (s k : ℕ) (seen : Seen) (asked : Want) (n : DeskState) (after : PoolState) (gone : HasGoneQuietly net d pool s k seen asked n after) where
  abbrev out : DeskState
  out = desk_after_turn d s seen

  no_end : ends seen ≡ false
  no_end = (neither (ends seen) (sees seen && not (is_some (Telling.primed_of (slice_get d.seats s)))) gone.quiet).0

  -- it has come home, for it hasn't ended
  pub has_come : HasCome out (pool_after_turn d pool s seen) s asked n after
  has_come = elim gone.returned [
    | inl over ↦ (let z : true ≡ false = sym over.0 ∙ ap Telling.ended_of (changed_here d.seats (seat_after seen) s) ∙ ended_seat seen (slice_get d.seats s) no_end gone.live in cc)
    | inr home ↦ home.1
  ]

  -- the doors are as they were
  pub doors_kept : n.doors ≡ d.doors
  doors_kept = doors_home out (pool_after_turn d pool s seen) s asked n after has_come ∙ doors_moved d s seen

  -- a strand below it may go on only where the step concerns it
  module _ (t : ℕ) (less : t < s) (plain : commits asked ≡ false) where
    ghost : (set : Members) × (set.size ≡ length net.strands) × ((u : ℕ) → u < length net.strands → is_member set u ≡ not (u == t))
    ghost = set_of (λ u. not (u == t)) (length net.strands)

    others : (u : ℕ) → u < length net.strands → u ≢ t → is_member ghost.0 u ≡ true
    others u inside apart = ghost.2 u inside ∙ ap not (ne_eqb u t apart)

    not_it : is_member ghost.0 t ≡ false
    not_it = ghost.2 t (let l = gone.strand in omega (arith, less, l)) ∙ ap not (test_same t)

    covered : IsCovering d ghost.0
    covered u j may = elim (equal_or_not u t) [
      | inl e ↦ (let z : true ≡ false = sym may ∙ ap is_some (ap (λ v. Telling.seen_at d v j) e ∙ gone.least.0.1 t j less) in cc)
      | inr apart ↦ others u (by_seat (slice_get d.seats u) refl) apart
    ]
      where
        by_seat : (x : Option Seat) → slice_get d.seats u ≡ x → u < length net.strands
        by_seat (Some seat) at = subst (λ m. u < m) gone.used.kept.laid.seat_count (slice_get_within d.seats u seat at)
        by_seat None at = let nobody : is_some (Telling.seen_by d u j (Telling.ask_of None)) ≡ true = subst (λ z. is_some (Telling.seen_by d u j (Telling.ask_of z)) ≡ true) at may in absurd (let r : ⊥ = cc in r)

    module _ (woken : AreEndsIn d net.links s seen ghost.0) (reads : (o : ℕ) (link : Link) → IsWriteOn o asked → link_through net.links (Telling.out_door n s o) ≡ Some link → t ≢ link.to) where
      reader : (o : ℕ) (link : Link) → IsWriteOn o asked → link_through net.links (Telling.out_door out s o) ≡ Some link → is_member ghost.0 link.to ≡ true
      reader o link writes l =
          let at = behind_door net.links (Telling.out_door out s o) link l in
          others link.to (links_inside net (length net.strands) gone.formed refl at.0 link at.1).1
          (λ e. reads o link writes (ap (λ (z : List DoorsState). link_through net.links (Telling.joined (slice_get (Telling.outputs_of (slice_get z s)) o))) (doors_kept ∙ sym (doors_moved d s seen)) ∙ l) (sym e))

      covered_out : IsCovering out ghost.0
      covered_out = covers_out net d gone.formed gone.used pool s seen ghost.0 ghost.0 ghost.0 true true ghost.1 gone.can gone.live (refl, λ u held. held) woken (refl, λ u held. held)
          (sym (ap (λ z. not z || is_some (Telling.level_code d (negsuc 0))) no_end)) (sym (ap (λ z. not z || is_some (Telling.level_code d (pos 0))) no_end))
          (λ now. inl (was_settled d s seen gone.quiet now)) (λ no held. absurd (let q : ⊥ = cc in q)) (λ no held. absurd (let q : ⊥ = cc in q)) covered

      covered_home : IsCovering n ghost.0
      covered_home = covers_home net out n gone.formed gone.used_out (gone.early n after has_come) (pool_after_turn d pool s seen) after s asked ghost.0 ghost.0 ghost.0 true true ghost.1 has_come
          (refl, λ u held. held) (others s gone.strand (λ e. omega (arith, less, e))) (readers out net.links s asked ghost.0 reader) (refl, λ u held. held)
          (sym (ap (λ z. not z || is_some (Telling.level_code out (negsuc 0))) plain)) (sym (ap (λ z. not z || is_some (Telling.level_code out (pos 0))) plain))
          (λ no held. absurd (let q : ⊥ = cc in q)) (λ no held. absurd (let q : ⊥ = cc in q)) covered_out

      low_at : (j : ℕ) → Telling.seen_at n t j ≡ None
      low_at j = go (Telling.seen_at n t j) refl
        where
          go : (x : Option Seen) → Telling.seen_at n t j ≡ x → Telling.seen_at n t j ≡ None
          go None e = e
          go (Some told) e = clash ghost.0 t (covered_home t j (ap is_some e)) not_it

  -- a strand that saw a record, or put one and not into a queue, and comes home to write nothing and ask for no commit level, leaves all below it as they were
  pub low_still : HasSeenOrPut net d s seen → commits asked ≡ false → ((o : ℕ) → IsWriteOn o asked → ⊥) → IsLow n s
  low_still told plain silent t j less = low_at t less plain (ends_still net d s seen (ghost t less plain).0 told) (λ o link writes l. absurd (silent o writes)) j

  -- where it writes, but the one that reads there
  pub low_offer : HasSeenOrPut net d s seen → (o : ℕ) → IsWriteOn o asked → (link : Link) → link_through net.links (Telling.out_door n s o) ≡ Some link → (t j : ℕ) → t < s → t ≢ link.to → Telling.seen_at n t j ≡ None
  low_offer told o writes link at t j less apart =
      low_at t less (ap commits (writing o asked writes).1) (ends_still net d s seen (ghost t less (ap commits (writing o asked writes).1)).0 told)
      (λ q other also l e. apart (e ∙ ap (λ (z : Link). z.to) (same other (sym l ∙ ap (λ z. link_through net.links (Telling.out_door n s z)) (one q also) ∙ at)))) j
    where
      one : (q : ℕ) → IsWriteOn q asked → q ≡ o
      one q also = sym (subst (IsWriteOn q) (writing o asked writes).1 also)

      same : (other : Link) → Some other ≡ Some link → other ≡ link
      same other e = cc

  -- where it took a record, and asks for no commit level, but the one that wrote it, and the one that reads what it writes then
  pub low_take : (i : ℕ) → seen ≡ Took i → commits asked ≡ false → (link : Link) → link_through net.links (Telling.in_door n s i) ≡ Some link → (t j : ℕ) → t < s → t ≢ link.from →
      ((o : ℕ) (reader : Link) → IsWriteOn o asked → link_through net.links (Telling.out_door n s o) ≡ Some reader → t ≢ reader.to) → Telling.seen_at n t j ≡ None
  low_take i took plain link at t j less apart reads = low_at t less plain (subst (λ z. AreEndsIn d net.links s z (ghost t less plain).0) (sym took) woken) reads j
    where
      same : (other : Link) → Some other ≡ Some link → other ≡ link
      same other e = cc

      woken : AreEndsIn d net.links s (Took i) (ghost t less plain).0
      woken other l =
          let at_other = behind_door net.links (Telling.in_door d s i) other l in
          let is = same other (sym l ∙ ap (λ (z : List DoorsState). link_through net.links (Telling.joined (slice_get (Telling.inputs_of (slice_get z s)) i))) (sym doors_kept) ∙ at) in
          others t less plain other.from (links_inside net (length net.strands) gone.formed refl at_other.0 other at_other.1).0 (λ e. apart (sym e ∙ ap (λ (z : Link). z.from) is))

  -- where it writes what can be neither put nor refused, it has to wait
  pub waits : (o : ℕ) → IsWriteOn o asked → (Telling.can_put (Telling.wire_out n s o) || Telling.can_refuse (Telling.wire_out n s o)) ≡ false → (j : ℕ) → Telling.seen_at n s j ≡ None
  waits o writes shut j = go (Telling.seen_at n s j) refl
    where
      go : (x : Option Seen) → Telling.seen_at n s j ≡ x → Telling.seen_at n s j ≡ None
      go None e = e
      go (Some told) e =
          let is = writing o asked writes in
          let come : HasCome out (pool_after_turn d pool s seen) s (want.Write o is.0) n after = subst (λ w. HasCome out (pool_after_turn d pool s seen) s w n after) is.1 has_come in
          let may = may_write out s o come.grip n come.home (Telling.out_door n s o) (ap (λ (z : DeskState). Telling.out_door z s o) come.home) j (ap is_some e) in
          let z : true ≡ false = sym may ∙ shut in
          cc
