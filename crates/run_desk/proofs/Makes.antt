-- A desk after a turn stands for the state after the event, with the strand out.
use Rattle.std.proofs.Common.{◌≡◌, ◌≢◌, inl, inr, ℕ, ℤ, ◌<◌, ◌≤◌, ◌*◌, ◌||◌, List, [], length, refl, sym, ◌∙◌, ap, subst, Option, Some, None, slice_get}
use Rattle.std.specs.Option.{option_map}
use Rattle.pipe_model.specs.declared.net.Net.{Net}
use Rattle.pipe_model.specs.declared.step.Seen.{Seen}
use Rattle.pipe_model.specs.declared.step.Seen.TheVariants as Told
use Rattle.pipe_model.specs.Event.{Event, has_ended, has_seen}
use Rattle.pipe_model.specs.Event.Want.{Commit}
use Rattle.pipe_model.specs.State.{Who, State, past, with_event}
use Rattle.pipe_model.specs.Licence.{Left, want_at, licence}
use Rattle.pipe_model.specs.WellFormed.{IsWellFormed}
use Rattle.pipe_model.proofs.Numbers.{equal_or_not}
use Rattle.pipe_model.proofs.Lists.{at_some}
use Rattle.confluence_laws.proofs.Basics.{at_same, at_other}
use Rattle.commit_levels.specs.UnitState.{IsLevel, place_of}
use Rattle.commit_levels.specs.UnitState as units
use Rattle.commit_levels.specs.declared.member.Progress.TheVariants.{Reached}
use Rattle.stage_steps.specs.Coroutine.{told}
use Rattle.connectors.specs.WireState.{WireState, IsPaced, taken, settled, cleared}
use Rattle.run_desk.specs.declared.seat.Seat.{Seat}
use Rattle.run_desk.specs.Desk.{DeskState}
use Rattle.run_desk.specs.Telling.{joined, inputs_of, outputs_of, first_of, in_door, out_door, sights_of, sight_door, sight_through, wire_in}
use Rattle.run_desk.specs.Standing.{asked, left_out, IsSeat, IsSight, link_through, IsLaid, DeskStands}
use Rattle.run_desk.specs.Turns.{list_changed_behind, wires_changed, out_shut, in_shut, hand_on, sights_seen, ends, sees, seat_after, rest_after_turn, desk_after_turn}
use Rattle.run_desk.proofs.Lists.{changed_here, changed_there, changed_length, all_changed_length, sights_without_length, map_back}
use Rattle.run_desk.proofs.Events.{ended_on, seen_on}
use Rattle.run_desk.proofs.Acts.{has_strand, want_here, want_other}
use Rattle.run_desk.proofs.Links.{wires_made}
use Rattle.run_desk.proofs.Shown.{sights_made}
use Rattle.run_desk.proofs.Members.{unit_length, members_made}

-- The tables

-- a turn changes no door
pub doors_moved : (d : DeskState) (s : ℕ) (seen : Seen) → (rest_after_turn d s seen).doors ≡ d.doors
doors_moved d s (Told.Up level code) = refl
doors_moved d s (Told.Saw i) = refl
doors_moved d s (Told.SawEnd i) = refl
doors_moved d s Told.SawAllEnd = refl
doors_moved d s (Told.Took i) = refl
doors_moved d s (Told.Put o) = refl
doors_moved d s (Told.Refused o) = refl
doors_moved d s (Told.Primed b) = refl
doors_moved d s (Told.Opened k) = refl
doors_moved d s (Told.Joined k code) = refl
doors_moved d s (Told.Cut i) = refl
doors_moved d s (Told.Ended code) = refl

-- it leaves as many wires
pub wires_moved : (d : DeskState) (s : ℕ) (seen : Seen) → length (rest_after_turn d s seen).wires ≡ length d.wires
wires_moved d s (Told.Up level code) = refl
wires_moved d s (Told.Saw i) = refl
wires_moved d s (Told.SawEnd i) = refl
wires_moved d s Told.SawAllEnd = refl
wires_moved d s (Told.Took i) = changed_length d.wires taken (in_door d s i)
wires_moved d s (Told.Put o) = changed_length d.wires settled (out_door d s o)
wires_moved d s (Told.Refused o) = changed_length d.wires cleared (out_door d s o)
wires_moved d s (Told.Primed b) = refl
wires_moved d s (Told.Opened k) = refl
wires_moved d s (Told.Joined k code) = refl
wires_moved d s (Told.Cut i) = refl
wires_moved d s (Told.Ended code) =
    let outputs = outputs_of (slice_get d.doors s) in
    all_changed_length in_shut (inputs_of (slice_get d.doors s)) (wires_changed out_shut outputs d.wires) ∙ all_changed_length out_shut outputs d.wires

-- and as many sights
pub sights_moved : (d : DeskState) (s : ℕ) (seen : Seen) → length (rest_after_turn d s seen).sights ≡ length d.sights
sights_moved d s (Told.Up level code) = refl
sights_moved d s (Told.Saw i) = go (hand_on (wire_in d s i))
  where
    go : (hand : Option ℕ) → length (sights_seen d.sights (sight_door d s i) hand) ≡ length d.sights
    go None = refl
    go (Some grip) = changed_length d.sights (λ sight. Some grip) (sight_door d s i)
sights_moved d s (Told.SawEnd i) = refl
sights_moved d s Told.SawAllEnd = refl
sights_moved d s (Told.Took i) = refl
sights_moved d s (Told.Put o) = refl
sights_moved d s (Told.Refused o) = refl
sights_moved d s (Told.Primed b) = refl
sights_moved d s (Told.Opened k) = refl
sights_moved d s (Told.Joined k code) = refl
sights_moved d s (Told.Cut i) = refl
sights_moved d s (Told.Ended code) = sights_without_length (sights_of (slice_get d.doors s)) d.sights

-- and as many members
pub unit_moved : (d : DeskState) (s : ℕ) (seen : Seen) → length (rest_after_turn d s seen).unit ≡ length d.unit
unit_moved d s (Told.Up level code) = unit_length d.unit s (units.moved (place_of level) Reached)
unit_moved d s (Told.Saw i) = refl
unit_moved d s (Told.SawEnd i) = refl
unit_moved d s Told.SawAllEnd = refl
unit_moved d s (Told.Took i) = refl
unit_moved d s (Told.Put o) = refl
unit_moved d s (Told.Refused o) = refl
unit_moved d s (Told.Primed b) = refl
unit_moved d s (Told.Opened k) = refl
unit_moved d s (Told.Joined k code) = refl
unit_moved d s (Told.Cut i) = refl
unit_moved d s (Told.Ended code) = unit_length d.unit s (units.ended_with code)

-- so the sights keep their numbers
same_sight : (d : DeskState) (s : ℕ) (seen : Seen) (u i : ℕ) → sight_door (desk_after_turn d s seen) u i ≡ sight_door d u i
same_sight d s seen u i = ap (λ z. joined (slice_get (sights_of (slice_get z u)) i)) (doors_moved d s seen)

-- The relation

-- the tables are laid for the state after a turn as they were before it
pub laid_made : (net : Net) (st after : State) (d : DeskState) (s : Who) (seen : Seen) → IsLaid net st d → IsLaid net after (desk_after_turn d s seen)
laid_made net st after d s seen laid = record {
  seat_count = changed_length d.seats (seat_after seen) (Some s) ∙ laid.seat_count;
  wire_count = wires_moved d s seen ∙ laid.wire_count;
  sight_count = subst (λ n. n ≤ 64 * length net.strands) (sym (sights_moved d s seen)) laid.sight_count;
  sights_there = λ u i n at. subst (λ m. n < m) (sym (sights_moved d s seen)) (laid.sights_there u i n (sym (same_sight d s seen u i) ∙ at));
  sights_apart = λ u t i k n at to. laid.sights_apart u t i k n (sym (same_sight d s seen u i) ∙ at) (sym (same_sight d s seen t k) ∙ to);
  in_doors = λ u i. laid.in_doors u i ∙ ap (λ z. link_through net.links (joined (slice_get (inputs_of (slice_get z u)) i))) (sym (doors_moved d s seen));
  out_doors = λ u o. laid.out_doors u o ∙ ap (λ z. link_through net.links (joined (slice_get (outputs_of (slice_get z u)) o))) (sym (doors_moved d s seen));
  firsts = λ u. ap (λ z. first_of u (slice_get z u)) (doors_moved d s seen) ∙ laid.firsts u;
}

module _ (net : Net) (texts : ℕ → List ℕ) (st : State) (left : Left) (d : DeskState) (s : Who) (k : ℕ) (e : Event) (kept : DeskStands net texts st left d) (may : licence net st left s k ≡ Some e) where
  abbrev now : State
  now = with_event st s e

  abbrev out : Left
  out = left_out left s

  -- the seat of the strand
  seat_here : (seat : Seat) → IsSeat net st left s seat → IsSeat net now out s (seat_after (told e) seat)
  seat_here seat is = record {
    ask = ap asked (sym (want_here net st left s k e may));
    ended = ap (λ b. b || ends (told e)) is.ended ∙ sym (ap has_ended (at_same st s e) ∙ ended_on e (past st s));
    seen = ap (λ b. b || sees (told e)) is.seen ∙ sym (ap has_seen (at_same st s e) ∙ seen_on e (past st s));
  }

  -- and of another
  seat_there : (u : Who) (seat : Seat) → u ≢ s → IsSeat net st left u seat → IsSeat net now out u seat
  seat_there u seat other is = record {
    ask = is.ask ∙ ap asked (sym (want_other net st left s k e may u other));
    ended = is.ended ∙ ap has_ended (sym (at_other st s e u other));
    seen = is.seen ∙ ap has_seen (sym (at_other st s e u other));
  }

  seats_made : (u : Who) (seat : Seat) → slice_get (list_changed_behind d.seats (seat_after (told e)) (Some s)) u ≡ Some seat → IsSeat net now out u seat
  seats_made u seat got = elim (equal_or_not u s) [
    | inl it ↦
        let b = map_back (seat_after (told e)) (slice_get d.seats s) seat
        (sym (changed_here d.seats (seat_after (told e)) s) ∙ ap (slice_get (list_changed_behind d.seats (seat_after (told e)) (Some s))) (sym it) ∙ got) in
        subst (λ z. IsSeat net now out z seat) (sym it) (subst (IsSeat net now out s) (sym b.2) (seat_here b.0 (kept.seats s b.0 b.1)))
    | inr other ↦ seat_there u seat other (kept.seats u seat (sym (changed_there d.seats (seat_after (told e)) s u other) ∙ got))
  ]

  nobody_made : (u : Who) → slice_get (list_changed_behind d.seats (seat_after (told e)) (Some s)) u ≡ None → past now u ≡ []
  nobody_made u none = elim (equal_or_not u s) [
    | inl it ↦
        let seat = at_some d.seats s (subst (λ n. s < n) (sym kept.laid.seat_count) (has_strand net st left s k e may)) in
        let no : None ≡ Some (seat_after (told e) seat.0) =
        sym none ∙ ap (slice_get (list_changed_behind d.seats (seat_after (told e)) (Some s))) it ∙ changed_here d.seats (seat_after (told e)) s ∙ ap (option_map (seat_after (told e))) seat.1 in
        cc
    | inr other ↦ at_other st s e u other ∙ kept.nobody u (sym (changed_there d.seats (seat_after (told e)) s u other) ∙ none)
  ]

  early_made : (u : Who) (level : ℤ) → want_at net now out u ≡ Some (Commit level) → IsLevel level
  early_made u level wants = elim (equal_or_not u s) [
    | inl it ↦ let no : None ≡ Some (Commit level) = sym (ap (want_at net now out) it ∙ want_here net st left s k e may) ∙ wants in cc
    | inr other ↦ kept.early u level (sym (want_other net st left s k e may u other) ∙ wants)
  ]

-- a turn keeps the relation of desk and state, where the strand is out after it
pub kept_made : (net : Net) (texts : ℕ → List ℕ) (st : State) (left : Left) (d : DeskState) (s : Who) (k : ℕ) (e : Event) → IsWellFormed net → DeskStands net texts st left d →
    ((j : ℕ) (w : WireState) → slice_get d.wires j ≡ Some w → IsPaced w.offer w.puts w.tooks w.queue) → licence net st left s k ≡ Some e → DeskStands net texts (with_event st s e) (left_out left s) (desk_after_turn d s (told e))
kept_made net texts st left d s k e formed kept paced may = record {
  laid = laid_made net st (with_event st s e) d s (told e) kept.laid;
  seats = seats_made net texts st left d s k e kept may;
  nobody = nobody_made net texts st left d s k e kept may;
  wires = wires_made net texts st left s k e may formed d kept paced;
  sights = λ u i. subst (λ z. IsSight texts (with_event st s e) u i (sight_through (rest_after_turn d s (told e)).sights z)) (sym (same_sight d s (told e) u i)) (sights_made net texts st left s k e may d kept u i);
  member_count = unit_moved d s (told e) ∙ kept.member_count;
  members = members_made net texts st left s k e may d kept;
  early = early_made net texts st left d s k e kept may;
}
