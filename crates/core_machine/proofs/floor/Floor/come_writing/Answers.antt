-- Who reads what the strand writes was woken, and it settled nothing for others.
use Rattle.std.proofs.Common.{◌≡◌, ◌<◌, refl, sym, ◌∙◌, ap, subst, length, true}
use Rattle.pipe_model.specs.declared.step.Want.TheVariants as Asks
use Rattle.run_desk.specs.Desk.{DeskState}
use Rattle.run_desk.specs.Turns.{HasCome}
use Rattle.run_desk.specs.Telling as Telling
use Rattle.core_machine.specs.Floor.{FloorState, IsInUse, StaysEarly}
use Rattle.core_machine.specs.Members.{is_member}
use Rattle.core_machine.specs.Woken.{IsCovering, IsConsumerIn, AreInside}
use Rattle.core_machine.proofs.Homes.{covers_home, may_write}
use Rattle.core_machine.proofs.Plays.{links_inside, has_seat}
use Rattle.core_machine.proofs.floor.Floor.come_writing.Goals as goal

pub out_door-door-requires : goal.out_door-door-requires
out_door-door-requires c =
    let i = c.self.inside in
    let v : ◌≡◌ {A = FloorState} (record { net = i.net; desk = i.desk; pool = i.pool; ready = i.ready }) c.args.self.now = c.self.view_is in
    has_seat i.net i.desk c.args.strand (subst (λ (f : FloorState). IsInUse f.net f.desk) (sym v) c.requires.used) (subst (λ (f : FloorState). c.args.strand < length f.net.strands) (sym v) c.requires.strand)

pub write_at-requires-clause-strand : goal.write_at-requires-clause-strand
write_at-requires-clause-strand c =
    let i = c.self.inside in
    let v : ◌≡◌ {A = FloorState} (record { net = i.net; desk = i.desk; pool = i.pool; ready = i.ready }) c.args.self.now = c.self.view_is in
    has_seat i.net i.desk c.args.strand (subst (λ (f : FloorState). IsInUse f.net f.desk) (sym v) c.requires.used) (subst (λ (f : FloorState). c.args.strand < length f.net.strands) (sym v) c.requires.strand)

pub wake_consumer-requires : goal.wake_consumer-requires
wake_consumer-requires c =
    let i = c.self.inside in
    let v : ◌≡◌ {A = FloorState} (record { net = i.net; desk = i.desk; pool = i.pool; ready = i.ready }) c.args.self.now = c.self.view_is in
    let used = subst (λ (f : FloorState). IsInUse f.net f.desk) (sym v) c.requires.used in
    record {
      there = subst (λ n. Telling.LeadsBelow n c.out_door-door.result) (used.kept.laid.wire_count ∙ ap length (sym c.as_slice.ensures)) c.out_door-door.ensures.there;
      inside = subst (λ l. AreInside l i.ready.size) (sym c.as_slice.ensures) (links_inside i.net i.ready.size c.self.invariant.formed c.self.invariant.size);
    }

pub rest-requires-clause-writes : goal.rest-requires-clause-writes
rest-requires-clause-writes c =
    let i = c.self.inside in
    let v : ◌≡◌ {A = FloorState} (record { net = i.net; desk = i.desk; pool = i.pool; ready = i.ready }) c.args.self.now = c.self.view_is in
    let wrote = c.in_ok-write_at.ensures.ok in
    may_write i.desk c.args.strand c.args.o wrote.grip c.write_at.new.self wrote.home c.out_door-door.result c.out_door-door.ensures.door

pub rest-requires-clause-strand : goal.rest-requires-clause-strand
rest-requires-clause-strand c =
    let i = c.self.inside in
    let v : ◌≡◌ {A = FloorState} (record { net = i.net; desk = i.desk; pool = i.pool; ready = i.ready }) c.args.self.now = c.self.view_is in
    subst (λ n. c.args.strand < n) (sym (c.wake_consumer.ensures.larger.0 ∙ c.self.invariant.size)) (subst (λ (f : FloorState). c.args.strand < length f.net.strands) (sym v) c.requires.strand)

pub invariant_of-self : goal.invariant_of-self
invariant_of-self c =
    let i = c.self.inside in
    let v : ◌≡◌ {A = FloorState} (record { net = i.net; desk = i.desk; pool = i.pool; ready = i.ready }) c.args.self.now = c.self.view_is in
    let larger = c.wake_consumer.ensures.larger in
    record {
      formed = c.self.invariant.formed;
      size = larger.0 ∙ c.self.invariant.size;
      covers = subst (λ (z : DeskState). IsCovering z c.wake_consumer.new.ready) (sym c.in_err-write_at.ensures.err) (λ t k may. larger.1 t (c.self.invariant.covers t k may));
    }

pub invariant_of-self-2 : goal.invariant_of-self-2
invariant_of-self-2 c =
    let i = c.self.inside in
    let v : ◌≡◌ {A = FloorState} (record { net = i.net; desk = i.desk; pool = i.pool; ready = i.ready }) c.args.self.now = c.self.view_is in
    let used = subst (λ (f : FloorState). IsInUse f.net f.desk) (sym v) c.requires.used in
    let s = c.args.strand in
    let d = i.desk in
    let w = Asks.Write c.args.o c.args.out.now in
    let here = subst (λ (f : FloorState). is_member f.ready s ≡ true) (sym v) c.requires.here in
    let early = subst (λ (f : FloorState). StaysEarly f.desk f.pool s w) (sym v) c.requires.early in
    let new = c.wake_consumer.new.ready in
    let woken = c.wake_consumer.ensures in
    let come : HasCome d i.pool s w c.write_at.new.self c.write_at.new.pool = c.in_ok-write_at.ensures.ok in
    let reader = subst (λ l. IsConsumerIn l new (Telling.out_door d s c.args.o)) c.as_slice.ensures (subst (λ z. IsConsumerIn c.as_slice.result.now new z) c.out_door-door.ensures.door woken.end) in
    record {
      formed = c.self.invariant.formed;
      size = c.rest.ensures.size ∙ woken.larger.0 ∙ c.self.invariant.size;
      covers = c.rest.ensures.covers (covers_home i.net d c.write_at.new.self c.self.invariant.formed used (early c.write_at.new.self c.write_at.new.pool come) i.pool c.write_at.new.pool s w
          i.ready new new true true c.self.invariant.size come woken.larger (woken.larger.1 s here) reader (refl, λ t held. held)
          refl refl (λ no held. absurd (let q : ⊥ = cc in q)) (λ no held. absurd (let q : ⊥ = cc in q)) c.self.invariant.covers);
    }
