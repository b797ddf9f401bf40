-- Whom the turn concerns was woken, and it settled nothing for others.
use Rattle.std.proofs.Common.{◌≡◌, ◌<◌, length, inl, ◌&&◌, ◌||◌, not, refl, sym, ◌∙◌, ap, subst, is_some, true, false, slice_get, pos, negsuc}
use Rattle.pipe_model.proofs.Truths.{neither}
use Rattle.run_desk.specs.Desk.{DeskState}
use Rattle.run_desk.specs.Turns.{desk_after_turn, pool_after_turn, CanTurn, ends, sees}
use Rattle.run_desk.specs.Telling as Telling
use Rattle.core_machine.specs.Floor.{FloorState, IsInUse}
use Rattle.core_machine.specs.Woken.{IsCovering, AreEndsIn, AreInside, may_settle}
use Rattle.core_machine.proofs.Outs.{covers_out, was_settled}
use Rattle.core_machine.proofs.Plays.{links_inside, has_seat}
use Rattle.core_machine.proofs.floor.Floor.make.Goals as goal

pub may_settle-requires : goal.may_settle-requires
may_settle-requires c =
    let i = c.self.inside in
    let v : ◌≡◌ {A = FloorState} (record { net = i.net; desk = i.desk; pool = i.pool; ready = i.ready }) c.args.self.now = c.self.view_is in
    has_seat i.net i.desk c.args.strand (subst (λ (f : FloorState). IsInUse f.net f.desk) (sym v) c.requires.used) (subst (λ (f : FloorState). c.args.strand < length f.net.strands) (sym v) c.requires.strand)

pub wake_ends-requires : goal.wake_ends-requires
wake_ends-requires c =
    let i = c.self.inside in
    let v : ◌≡◌ {A = FloorState} (record { net = i.net; desk = i.desk; pool = i.pool; ready = i.ready }) c.args.self.now = c.self.view_is in
    record {
      strand = has_seat i.net i.desk c.args.strand (subst (λ (f : FloorState). IsInUse f.net f.desk) (sym v) c.requires.used) (subst (λ (f : FloorState). c.args.strand < length f.net.strands) (sym v) c.requires.strand);
      wires = let used = subst (λ (f : FloorState). IsInUse f.net f.desk) (sym v) c.requires.used in used.kept.laid.wire_count ∙ ap length (sym c.as_slice.ensures);
      inside = subst (λ l. AreInside l i.ready.size) (sym c.as_slice.ensures) (links_inside i.net i.ready.size c.self.invariant.formed c.self.invariant.size);
    }

pub make-requires : goal.make-requires
make-requires c =
    let i = c.self.inside in
    let v : ◌≡◌ {A = FloorState} (record { net = i.net; desk = i.desk; pool = i.pool; ready = i.ready }) c.args.self.now = c.self.view_is in
    record {
      strand = has_seat i.net i.desk c.args.strand (subst (λ (f : FloorState). IsInUse f.net f.desk) (sym v) c.requires.used) (subst (λ (f : FloorState). c.args.strand < length f.net.strands) (sym v) c.requires.strand);
      can = subst (λ (f : FloorState). CanTurn f.desk f.pool c.args.strand c.args.seen) (sym v) c.requires.can;
    }

pub invariant_of-self : goal.invariant_of-self
invariant_of-self c =
    let i = c.self.inside in
    let v : ◌≡◌ {A = FloorState} (record { net = i.net; desk = i.desk; pool = i.pool; ready = i.ready }) c.args.self.now = c.self.view_is in
    let used = subst (λ (f : FloorState). IsInUse f.net f.desk) (sym v) c.requires.used in
    let s = c.args.strand in
    let seen = c.args.seen in
    let can = subst (λ (f : FloorState). CanTurn f.desk f.pool s seen) (sym v) c.requires.can in
    let live = subst (λ (f : FloorState). Telling.ended_at f.desk s ≡ false) (sym v) c.requires.live in
    let d = i.desk in
    let nothing : may_settle d s seen ≡ false = sym c.may_settle.ensures ∙ c.if-may_settle.false in
    let no_end : ends seen ≡ false = (neither (ends seen) (sees seen && not (is_some (Telling.primed_of (slice_get d.seats s)))) nothing).0 in
    let new = c.wake_ends.new.ready in
    let made_is : c.make.new.self ≡ desk_after_turn d s seen = c.make.ensures.desk in
    let low_is : true ≡ (not (ends seen) || is_some (Telling.level_code d (negsuc 0))) = sym (ap (λ z. not z || is_some (Telling.level_code d (negsuc 0))) no_end) in
    let zero_is : true ≡ (not (ends seen) || is_some (Telling.level_code d (pos 0))) = sym (ap (λ z. not z || is_some (Telling.level_code d (pos 0))) no_end) in
    let woken = subst (λ l. AreEndsIn d l s seen new) c.as_slice.ensures c.wake_ends.ensures.ends in
    record {
      formed = c.self.invariant.formed;
      size = c.wake_ends.ensures.larger.0 ∙ c.self.invariant.size;
      covers = subst (λ (z : DeskState). IsCovering z new) (sym made_is)
          (covers_out i.net d c.self.invariant.formed used i.pool s seen i.ready new new
          true true c.self.invariant.size can live c.wake_ends.ensures.larger woken (refl, λ t held. held) low_is zero_is
          (λ now. inl (was_settled d s seen nothing now)) (λ no held. absurd (let q : ⊥ = cc in q)) (λ no held. absurd (let q : ⊥ = cc in q)) c.self.invariant.covers);
    }

pub returns-clause-net : goal.returns-clause-net
returns-clause-net c =
    let i = c.self.inside in
    let v : ◌≡◌ {A = FloorState} (record { net = i.net; desk = i.desk; pool = i.pool; ready = i.ready }) c.args.self.now = c.self.view_is in
    ap (λ (f : FloorState). f.net) v

pub returns-clause-desk : goal.returns-clause-desk
returns-clause-desk c =
    let i = c.self.inside in
    let v : ◌≡◌ {A = FloorState} (record { net = i.net; desk = i.desk; pool = i.pool; ready = i.ready }) c.args.self.now = c.self.view_is in
    c.make.ensures.desk ∙ ap (λ (f : FloorState). desk_after_turn f.desk c.args.strand c.args.seen) v

pub returns-clause-pool : goal.returns-clause-pool
returns-clause-pool c =
    let i = c.self.inside in
    let v : ◌≡◌ {A = FloorState} (record { net = i.net; desk = i.desk; pool = i.pool; ready = i.ready }) c.args.self.now = c.self.view_is in
    c.make.ensures.pool ∙ ap (λ (f : FloorState). pool_after_turn f.desk f.pool c.args.strand c.args.seen) v

pub returns-clause-awake : goal.returns-clause-awake
returns-clause-awake c =
    let i = c.self.inside in
    let v : ◌≡◌ {A = FloorState} (record { net = i.net; desk = i.desk; pool = i.pool; ready = i.ready }) c.args.self.now = c.self.view_is in
    λ k may. c.wake_ends.ensures.larger.1 c.args.strand (c.self.invariant.covers c.args.strand k (subst (λ (f : FloorState). is_some (Telling.seen_at f.desk c.args.strand k) ≡ true) (sym v) may))
