-- The desk of a net before the first step stands for the state in which nothing has happened, where every strand is out.
use Rattle.std.proofs.Common.{◌≡◌, inl, ℕ, zero, suc, ◌≤◌, ◌*◌, Bool, true, false, cond, ◌&&◌, not, nat_lt, List, [], ◌∷◌, length, map, replicate, refl, sym, ◌∙◌, ap, subst, arith, Option, Some, None, slice_get}
use Rattle.std.specs.Prelude.{count_by}
use Rattle.std.specs.List.{sum_by}
use Rattle.std.specs.Option.{option_map}
use Rattle.std.proofs.lemmas.Bool.Decides.{nat_tests}
use Rattle.std.proofs.lemmas.Option.{slice_get_past, slice_get-map}
use Rattle.std.proofs.lemmas.List.{length-map, length-replicate}
use Rattle.std.proofs.lemmas.List.Sums.{sum_by-cons}
use Rattle.pipe_model.specs.declared.net.Net.{Net}
use Rattle.pipe_model.specs.declared.net.Link.{Link}
use Rattle.pipe_model.specs.State.{Who, nothing_yet, strand_at}
use Rattle.pipe_model.specs.Licence.{want_after, want_at, offered}
use Rattle.pipe_model.specs.WellFormed.{IsWellFormed}
use Rattle.pipe_model.proofs.Lists.{get_copy, read_copy}
use Rattle.record_pool.specs.PoolState.{empty_pool}
use Rattle.record_pool.specs.Places.{bytes_at}
use Rattle.connectors.specs.WireState.{WireState, IsPaced, new_wire}
use Rattle.commit_levels.specs.UnitState.{level_count, place_of, new_member, Member}
use Rattle.commit_levels.specs.Licensed.{IsStrand}
use Rattle.commit_levels.specs.declared.member.Progress.TheVariants.{NotAsked}
use Rattle.run_desk.specs.declared.seat.Seat.{Seat}
use Rattle.run_desk.specs.Standing.{asked, IsSeat, IsWire, IsSight, IsLaid, DeskStands}
use Rattle.run_desk.specs.Holding.{holds, IsPooled, RunStands, out_from}
use Rattle.run_desk.specs.Blank.{new_seat, doors_from, inputs_in, blank_desk}
use Rattle.run_desk.specs.Telling.{joined, sights_of, sight_door, sight_through}
use Rattle.run_desk.proofs.Counts.{one, wire_holds, places_in, count_first, wires_hold}
use Rattle.run_desk.proofs.Laying.{leads_nowhere, leads_in, leads_out, knows_first}
use Rattle.run_desk.proofs.Lists.{map_back}
use Rattle.run_desk.proofs.Pooled.{IsRoomy}
use Rattle.run_desk.proofs.Spots.{links_still, spot, spots_apart, few_inputs}

-- Lists

count_copy : {X : Type 0} (p : X → Bool) (n : ℕ) (x : X) → p x ≡ false → count_by p (replicate n x) ≡ 0
count_copy p zero x is = refl
count_copy p (suc n) x is = omega (arith, count_first p x (replicate n x), ap one is, count_copy p n x is)

-- A member that has asked for nothing

new_strand : IsStrand [] None new_member
new_strand = record {
  count = length-replicate level_count NotAsked;
  progress = λ level is. read_copy level_count NotAsked (place_of level);
  ended = refl;
}

-- The pool

-- what a new wire gives nothing to, no new wires do
sum_new : (h : WireState → ℕ) → ((queue : Bool) → h (new_wire queue) ≡ 0) → (links : List Link) → sum_by h (map (λ (link : Link). new_wire link.queue) links) ≡ 0
sum_new h none [] = refl
sum_new h none (link ∷ links) = omega (arith, sum_by-cons h (new_wire link.queue) (map (λ (l : Link). new_wire l.queue) links), none link.queue, sum_new h none links)

new_holds : (grip : ℕ) (queue : Bool) → wire_holds grip (new_wire queue) ≡ 0
new_holds grip true = refl
new_holds grip false = refl

new_places : (queue : Bool) → places_in (new_wire queue) ≡ 0
new_places true = refl
new_places false = refl

-- nothing is held
pub blank_pooled : (links : List Link) (n : ℕ) → IsPooled (map (λ (link : Link). new_wire link.queue) links) (replicate n None) empty_pool
blank_pooled links n = record {
  counted = λ grip. omega (arith, wires_hold grip (map (λ (link : Link). new_wire link.queue) links), sum_new (wire_holds grip) (new_holds grip) links, count_copy (holds grip) n None refl);
  alive = λ grip held at. cc;
  nodes = sym (sum_new places_in new_places links);
}

module _ (net : Net) (formed : IsWellFormed net) where
  -- nobody is home to want anything
  none_wants : (s : Who) → want_at net nothing_yet (out_from 0 (length net.strands)) s ≡ None
  none_wants s = go (nat_lt s (length net.strands)) refl
    where
      at_zero : nat_lt s 0 ≡ false
      at_zero = grind (arith, nat_tests)

      go : (b : Bool) → nat_lt s (length net.strands) ≡ b → cond (not (nat_lt s 0) && nat_lt s (length net.strands)) None (want_after (strand_at net nothing_yet s) []) ≡ None
      go true is = ap (λ b. cond (not b && nat_lt s (length net.strands)) None (want_after (strand_at net nothing_yet s) [])) at_zero ∙ ap (λ b. cond b None (want_after (strand_at net nothing_yet s) [])) is
      go false is =
          let past : length net.strands ≤ s = grind (arith, nat_tests) in
          ap (λ b. cond (not b && nat_lt s (length net.strands)) None (want_after (strand_at net nothing_yet s) [])) at_zero
          ∙ ap (λ b. cond b None (want_after (strand_at net nothing_yet s) [])) is ∙ ap (λ z. want_after z []) (slice_get_past net.strands s past)

  its_sight : {n : ℕ} (s i : ℕ) → sight_door (blank_desk net) s i ≡ Some n → joined (slice_get (sights_of (slice_get (doors_from 0 0 net.strands) s)) i) ≡ Some n
  its_sight s i at = sym (ap (λ xs. joined (slice_get xs i)) (links_still (doors_from 0 0 net.strands) net.links 0 s)) ∙ at

  blank_laid : IsLaid net nothing_yet (blank_desk net)
  blank_laid = record {
    seat_count = length-replicate (length net.strands) new_seat;
    wire_count = length-map net.links (λ (link : Link). new_wire link.queue);
    sight_count = subst (λ n. n ≤ 64 * length net.strands) (sym (length-replicate {A = Option ℕ} (inputs_in net.strands) None)) (few_inputs net formed);
    sights_there = λ s i n at.
        let in_all = spot net.strands 0 0 s i n (its_sight s i at) in
        omega (arith, in_all.1, length-replicate {A = Option ℕ} (inputs_in net.strands) None);
    sights_apart = λ s t i k n at to. spots_apart net.strands 0 0 s t i k n (its_sight s i at) (its_sight t k to);
    in_doors = leads_in net formed;
    out_doors = leads_out net formed;
    firsts = knows_first net formed;
  }

  blank_seat : (s : Who) (seat : Seat) → seat ≡ new_seat → IsSeat net nothing_yet (out_from 0 (length net.strands)) s seat
  blank_seat s seat is = subst (IsSeat net nothing_yet (out_from 0 (length net.strands)) s) (sym is) (record { ask = ap asked (sym (none_wants s)); ended = refl; seen = refl })

  blank_wire : (texts : ℕ → List ℕ) (link : Link) (wire : WireState) → wire ≡ new_wire link.queue → IsWire net texts nothing_yet (out_from 0 (length net.strands)) link wire
  blank_wire texts link wire is = subst (IsWire net texts nothing_yet (out_from 0 (length net.strands)) link) (sym is)
      (record { puts = refl; tooks = refl; offer = ap (offered link.output) (sym (none_wants link.from)); out_closed = refl; in_closed = refl; queue = none_waits link.queue })
    where
      none_waits : (b : Bool) → option_map (map texts) (cond b (Some []) None) ≡ cond b (Some []) None
      none_waits true = refl
      none_waits false = refl

  -- each link has a new wire
  wire_at : (j : ℕ) (wire : WireState) → slice_get (blank_desk net).wires j ≡ Some wire → (link : Link) × (slice_get net.links j ≡ Some link) × (wire ≡ new_wire link.queue)
  wire_at j wire at = map_back (λ (link : Link). new_wire link.queue) (slice_get net.links j) wire (sym (slice_get-map (λ (link : Link). new_wire link.queue) net.links j) ∙ at)

  wire_of : (j : ℕ) (link : Link) (wire : WireState) → slice_get net.links j ≡ Some link → slice_get (blank_desk net).wires j ≡ Some wire → wire ≡ new_wire link.queue
  wire_of j link wire there at =
      let w = wire_at j wire at in
      let both_are : Some w.0 ≡ Some link = sym w.1 ∙ there in
      let it : w.0 ≡ link = cc in
      w.2 ∙ ap (λ (l : Link). new_wire l.queue) it

  blank_sight : (texts : ℕ → List ℕ) (s : Who) (i : ℕ) (door : Option ℕ) → IsSight texts nothing_yet s i (sight_through (replicate (inputs_in net.strands) None) door)
  blank_sight texts s i None going = refl
  blank_sight texts s i (Some n) going = ap (option_map texts) (leads_nowhere (inputs_in net.strands) n)

  blank_member : (s : Who) (m : Member) → m ≡ new_member → IsStrand [] (want_at net nothing_yet (out_from 0 (length net.strands)) s) m
  blank_member s m is =
      subst (λ (z : Member). IsStrand [] (want_at net nothing_yet (out_from 0 (length net.strands)) s) z) (sym is) (subst (λ z. IsStrand [] z new_member) (sym (none_wants s)) new_strand)

  blank_kept : (texts : ℕ → List ℕ) → DeskStands net texts nothing_yet (out_from 0 (length net.strands)) (blank_desk net)
  blank_kept texts = record {
    laid = blank_laid;
    seats = λ s seat at. blank_seat s seat (get_copy (length net.strands) new_seat seat s at);
    nobody = λ s at. refl;
    wires = λ j link wire there at. blank_wire texts link wire (wire_of j link wire there at);
    sights = λ s i. blank_sight texts s i (sight_door (blank_desk net) s i);
    member_count = length-replicate (length net.strands) new_member;
    members = λ s m at. blank_member s m (get_copy (length net.strands) new_member m s at);
    early = λ s level wants. absurd (let z : None ≡ Some _ = sym (none_wants s) ∙ wants in cc);
  }

  -- and so a run may begin
  pub blank_run : RunStands net nothing_yet (out_from 0 (length net.strands)) (blank_desk net) empty_pool
  blank_run = record {
    kept = blank_kept (bytes_at empty_pool);
    pooled = blank_pooled net.links (inputs_in net.strands);
    pacing = record {
      paced = λ j wire at. let w = wire_at j wire at in subst (λ (z : WireState). IsPaced z.offer z.puts z.tooks z.queue) (sym w.2) (new_paced w.0.queue);
      roomy = λ j wire at. let w = wire_at j wire at in subst IsRoomy (sym w.2) (new_roomy w.0.queue);
      shown = λ s i wire going sight at. cc;
    };
  }
    where
      new_paced : (b : Bool) → IsPaced None 0 0 (cond b (Some []) None)
      new_paced true = refl
      new_paced false = inl refl

      new_roomy : (b : Bool) → IsRoomy (new_wire b)
      new_roomy true = refl
      new_roomy false = refl
