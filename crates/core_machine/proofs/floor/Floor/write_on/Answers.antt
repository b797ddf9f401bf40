-- The set goes on covering the strands that may go on, where it has who reads at the rendezvous, and what that may see is next.
use Rattle.std.proofs.Common.{◌≡◌, Some, List, false, refl, sym, ◌∙◌, ap, subst, is_some, slice_get, slice_index_or}
use Rattle.pipe_model.specs.declared.net.Link.{Link}
use Rattle.pipe_model.specs.declared.step.Out.TheVariants.{Fresh}
use Rattle.pipe_model.specs.declared.step.Want.TheVariants.{Write}
use Rattle.pipe_model.specs.declared.step.Seen.TheVariants.{Put}
use Rattle.run_desk.specs.Desk.{DoorsState, DeskState}
use Rattle.run_desk.specs.Turns.{desk_after_turn, pool_after_turn}
use Rattle.run_desk.specs.Telling as Telling
use Rattle.core_machine.specs.Floor.{FloorState, IsInUse, CanMake, StaysEarly}
use Rattle.core_machine.specs.Members.{is_member}
use Rattle.core_machine.specs.Woken.{IsCovering, LeastEventAwake}
use Rattle.core_machine.proofs.Lows.{doors_kept, ends_still}
use Rattle.core_machine.proofs.Plays.{links_inside}
use Rattle.core_machine.proofs.Relays.{none, link_at, larger_with, same_link, no_queue, put_on, covers_told, covers_passing, gone_passing}
use Rattle.core_machine.proofs.floor.Floor.write_on.Goals as goal

pub insert-requires : goal.insert-requires
insert-requires c =
    let i = c.self.inside in
    let v : ◌≡◌ {A = FloorState} (record { net = i.net; desk = i.desk; pool = i.pool; ready = i.ready }) c.args.self.now = c.self.view_is in
    let its = subst (λ (f : FloorState). (l : Link) × (slice_get f.net.links c.args.link ≡ Some l) × (l.queue ≡ false)) (sym v) c.requires.rendezvous in
    let at = link_at i.net.links c.as_slice.result.now c.args.link its.0 c.as_slice.ensures its.1 in
    (links_inside i.net i.ready.size c.self.invariant.formed c.self.invariant.size c.args.link (slice_index_or c.as_slice.result.now c.args.link none) at).1

pub write_on-requires-clause-rendezvous : goal.write_on-requires-clause-rendezvous
write_on-requires-clause-rendezvous c =
    let i = c.self.inside in
    let v : ◌≡◌ {A = FloorState} (record { net = i.net; desk = i.desk; pool = i.pool; ready = i.ready }) c.args.self.now = c.self.view_is in
    let can = subst (λ (f : FloorState). CanMake f.net f.desk f.pool c.args.strand (Put c.args.o)) (sym v) c.requires.can in
    let its = subst (λ (f : FloorState). (l : Link) × (slice_get f.net.links c.args.link ≡ Some l) × (l.queue ≡ false)) (sym v) c.requires.rendezvous in
    no_queue i.net i.desk can.used c.args.link its.0 its.1 its.2

pub invariant_of-self : goal.invariant_of-self
invariant_of-self c =
    let i = c.self.inside in
    let v : ◌≡◌ {A = FloorState} (record { net = i.net; desk = i.desk; pool = i.pool; ready = i.ready }) c.args.self.now = c.self.view_is in
    let s = c.args.strand in
    let told = Put c.args.o in
    let can = subst (λ (f : FloorState). CanMake f.net f.desk f.pool s told) (sym v) c.requires.can in
    let door = subst (λ (f : FloorState). Telling.out_door f.desk s c.args.o ≡ Some c.args.link) (sym v) c.requires.door in
    let its = subst (λ (f : FloorState). (l : Link) × (slice_get f.net.links c.args.link ≡ Some l) × (l.queue ≡ false)) (sym v) c.requires.rendezvous in
    let told_on = put_on i.net i.desk s c.args.o c.args.link its.0 door its.1 its.2 in
    let reader = slice_index_or c.as_slice.result.now c.args.link none in
    let new = c.insert.new.self in
    let larger = larger_with i.ready new reader.to c.insert.ensures.here c.insert.ensures.others in
    record {
      formed = c.self.invariant.formed;
      size = c.insert.ensures.size ∙ c.self.invariant.size;
      covers = subst (λ (z : DeskState). IsCovering z new) (sym c.in_err-write_on.ensures.err) (covers_told i.net i.desk c.self.invariant.formed can.used i.pool s told new
          (c.insert.ensures.size ∙ c.self.invariant.size) can.can can.live refl (ends_still i.net i.desk s told new told_on) (λ t k may. larger t (c.self.invariant.covers t k may)));
    }

pub invariant_of-self-2 : goal.invariant_of-self-2
invariant_of-self-2 c =
    let i = c.self.inside in
    let v : ◌≡◌ {A = FloorState} (record { net = i.net; desk = i.desk; pool = i.pool; ready = i.ready }) c.args.self.now = c.self.view_is in
    let s = c.args.strand in
    let told = Put c.args.o in
    let asked = Write c.args.o (Fresh c.args.rec.now) in
    let can = subst (λ (f : FloorState). CanMake f.net f.desk f.pool s told) (sym v) c.requires.can in
    let used = subst (λ (f : FloorState). IsInUse f.net (desk_after_turn f.desk s told)) (sym v) c.requires.used in
    let early = subst (λ (f : FloorState). StaysEarly (desk_after_turn f.desk s told) (pool_after_turn f.desk f.pool s told) s asked) (sym v) c.requires.early in
    let least = subst (λ (f : FloorState). LeastEventAwake f.desk (Some (s, c.requires.least.0, told))) (sym v) c.requires.least.1 in
    let door = subst (λ (f : FloorState). Telling.out_door f.desk s c.args.o ≡ Some c.args.link) (sym v) c.requires.door in
    let its = subst (λ (f : FloorState). (l : Link) × (slice_get f.net.links c.args.link ≡ Some l) × (l.queue ≡ false)) (sym v) c.requires.rendezvous in
    let told_on = put_on i.net i.desk s c.args.o c.args.link its.0 door its.1 its.2 in
    let at = link_at i.net.links c.as_slice.result.now c.args.link its.0 c.as_slice.ensures its.1 in
    let reader = slice_index_or c.as_slice.result.now c.args.link none in
    let new = c.insert.new.self in
    let larger = larger_with i.ready new reader.to c.insert.ensures.here c.insert.ensures.others in
    record {
      formed = c.self.invariant.formed;
      size = c.insert.ensures.size ∙ c.self.invariant.size;
      covers = covers_passing i.net i.desk c.self.invariant.formed i.pool s told asked can refl told_on used early c.write_on.new.self c.write_on.new.pool c.in_ok-write_on.ensures.home refl new
          (c.insert.ensures.size ∙ c.self.invariant.size) (larger s (c.self.invariant.covers s c.requires.least.0 (ap is_some least.1)))
          (λ link l. ap (is_member new) (ap (λ (z : Link). z.to) (same_link i.net.links (Telling.out_door i.desk s c.args.o) c.args.link reader link door at l)) ∙ c.insert.ensures.here)
          (λ t k may. larger t (c.self.invariant.covers t k may));
    }

pub ahead_of_offer_on-requires-clause-its : goal.ahead_of_offer_on-requires-clause-its
ahead_of_offer_on-requires-clause-its c =
    let i = c.self.inside in
    let v : ◌≡◌ {A = FloorState} (record { net = i.net; desk = i.desk; pool = i.pool; ready = i.ready }) c.args.self.now = c.self.view_is in
    let its = subst (λ (f : FloorState). (l : Link) × (slice_get f.net.links c.args.link ≡ Some l) × (l.queue ≡ false)) (sym v) c.requires.rendezvous in
    link_at i.net.links c.as_slice.result.now c.args.link its.0 c.as_slice.ensures its.1

pub returns-clause-ahead : goal.returns-clause-ahead
returns-clause-ahead c =
    let i = c.self.inside in
    let v : ◌≡◌ {A = FloorState} (record { net = i.net; desk = i.desk; pool = i.pool; ready = i.ready }) c.args.self.now = c.self.view_is in
    let s = c.args.strand in
    let k = c.requires.least.0 in
    let told = Put c.args.o in
    let asked = Write c.args.o (Fresh c.args.rec.now) in
    let can = subst (λ (f : FloorState). CanMake f.net f.desk f.pool s told) (sym v) c.requires.can in
    let used = subst (λ (f : FloorState). IsInUse f.net (desk_after_turn f.desk s told)) (sym v) c.requires.used in
    let early = subst (λ (f : FloorState). StaysEarly (desk_after_turn f.desk s told) (pool_after_turn f.desk f.pool s told) s asked) (sym v) c.requires.early in
    let least = subst (λ (f : FloorState). LeastEventAwake f.desk (Some (s, k, told))) (sym v) c.requires.least.1 in
    let door = subst (λ (f : FloorState). Telling.out_door f.desk s c.args.o ≡ Some c.args.link) (sym v) c.requires.door in
    let its = subst (λ (f : FloorState). (l : Link) × (slice_get f.net.links c.args.link ≡ Some l) × (l.queue ≡ false)) (sym v) c.requires.rendezvous in
    let told_on = put_on i.net i.desk s c.args.o c.args.link its.0 door its.1 its.2 in
    let n = c.write_on.new.self in
    let gone = gone_passing i.net i.desk c.self.invariant.formed i.pool s told asked can refl told_on used early n c.write_on.new.pool c.in_ok-write_on.ensures.home k least in
    let door_now : Telling.out_door n s c.args.o ≡ Some c.args.link =
    ap (λ (z : List DoorsState). Telling.joined (slice_get (Telling.outputs_of (slice_get z s)) c.args.o)) (doors_kept i.net i.desk i.pool s k told asked n c.write_on.new.pool gone) ∙ door in
    c.ahead_of_offer_on.ensures i.desk i.pool k told c.args.o asked gone told_on refl door_now
