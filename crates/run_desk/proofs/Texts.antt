-- A desk speaks only of the records that its offers, queues and sights hold.
use Rattle.std.proofs.Common.{◌≡◌, ℕ, ◌<◌, ◌==◌, List, [], ◌∷◌, map, refl, ◌∙◌, ap, arith, Option, Some, None, slice_get}
use Rattle.std.specs.Prelude.{count_by}
use Rattle.std.specs.Option.{option_map}
use Rattle.pipe_model.specs.declared.net.Net.{Net}
use Rattle.pipe_model.specs.declared.net.Link.{Link}
use Rattle.pipe_model.specs.State.{State}
use Rattle.pipe_model.specs.Licence.{Left}
use Rattle.pipe_model.proofs.Numbers.{test_same}
use Rattle.connectors.specs.WireState.{WireState, waiting_in}
use Rattle.run_desk.specs.Desk.{DeskState}
use Rattle.run_desk.specs.Telling.{joined, sight_door, sight_through}
use Rattle.run_desk.specs.Standing.{IsWire, DeskStands}
use Rattle.run_desk.specs.Holding.{holds, offer_holds, queue_holds, holds_of}
use Rattle.run_desk.proofs.Counts.{one, count_some, count_first, sum_some}

-- what an offer holds is held
pub offer_held : (wires : List WireState) (sights : List (Option ℕ)) (j grip : ℕ) (wire : WireState) → slice_get wires j ≡ Some wire → wire.offer ≡ Some grip → 0 < holds_of wires sights grip
offer_held wires sights j grip wire at is =
    let counted = count_some (offer_holds grip) wires j wire at (ap (holds grip) is ∙ test_same grip) in
    omega (arith, counted)

-- and so is what waits in a queue
pub queue_held : (wires : List WireState) (sights : List (Option ℕ)) (j grip : ℕ) (wire : WireState) → slice_get wires j ≡ Some wire → 0 < queue_holds grip wire → 0 < holds_of wires sights grip
queue_held wires sights j grip wire at some =
    let counted = sum_some (queue_holds grip) wires j wire at some in
    omega (arith, counted)

-- and what a sight holds
pub sight_held : (wires : List WireState) (sights : List (Option ℕ)) (door : Option ℕ) (grip : ℕ) → sight_through sights door ≡ Some grip → 0 < holds_of wires sights grip
sight_held wires sights None grip is = cc
sight_held wires sights (Some n) grip is = by_sight (slice_get sights n) refl is
  where
    by_sight : (x : Option (Option ℕ)) → slice_get sights n ≡ x → joined x ≡ Some grip → 0 < holds_of wires sights grip
    by_sight None at is = cc
    by_sight (Some sight) at is =
        let counted = count_some (holds grip) sights n sight at (ap (holds grip) is ∙ test_same grip) in
        omega (arith, counted)

same_text : (texts texts' : ℕ → List ℕ) (x : Option ℕ) → ((grip : ℕ) → x ≡ Some grip → texts' grip ≡ texts grip) → option_map texts' x ≡ option_map texts x
same_text texts texts' None same = refl
same_text texts texts' (Some grip) same = ap Some (same grip refl)

-- of each record that waits, too
same_list : (texts texts' : ℕ → List ℕ) (waiting : List ℕ) → ((grip : ℕ) → 0 < count_by (λ held. held == grip) waiting → texts' grip ≡ texts grip) → map texts' waiting ≡ map texts waiting
same_list texts texts' [] same = refl
same_list texts texts' (first ∷ more) same =
    ap (λ t. t ∷ map texts' more) (same first (omega (arith, count_first (λ held. held == first) first more, ap one (test_same first))))
    ∙ ap (λ ts. texts first ∷ ts) (same_list texts texts' more (λ grip some. same grip (omega (arith, some, count_first (λ held. held == grip) first more))))

same_queue : (texts texts' : ℕ → List ℕ) (queue : Option (List ℕ)) → ((grip : ℕ) → 0 < count_by (λ held. held == grip) (waiting_in queue) → texts' grip ≡ texts grip) →
    option_map (map texts') queue ≡ option_map (map texts) queue
same_queue texts texts' None same = refl
same_queue texts texts' (Some waiting) same = ap Some (same_list texts texts' waiting same)

-- where the records that are held are the same, the desk stands as before
pub retext : (net : Net) (texts texts' : ℕ → List ℕ) (st : State) (left : Left) (d : DeskState) → DeskStands net texts st left d →
    ((grip : ℕ) → 0 < holds_of d.wires d.sights grip → texts' grip ≡ texts grip) → DeskStands net texts' st left d
retext net texts texts' st left d kept same = record {
  laid = kept.laid;
  seats = kept.seats;
  nobody = kept.nobody;
  wires = wires;
  sights = λ s i going.
      same_text texts texts' (sight_through d.sights (sight_door d s i)) (λ grip is. same grip (sight_held d.wires d.sights (sight_door d s i) grip is)) ∙ kept.sights s i going;
  member_count = kept.member_count;
  members = kept.members;
  early = kept.early;
}
  where
    wires : (j : ℕ) (link : Link) (wire : WireState) → slice_get net.links j ≡ Some link → slice_get d.wires j ≡ Some wire → IsWire net texts' st left link wire
    wires j link wire at got =
        let was = kept.wires j link wire at got in
        record {
          puts = was.puts;
          tooks = was.tooks;
          offer = same_text texts texts' wire.offer (λ grip is. same grip (offer_held d.wires d.sights j grip wire got is)) ∙ was.offer;
          out_closed = was.out_closed;
          in_closed = was.in_closed;
          queue = same_queue texts texts' wire.queue (λ grip some. same grip (queue_held d.wires d.sights j grip wire got some)) ∙ was.queue;
        }
