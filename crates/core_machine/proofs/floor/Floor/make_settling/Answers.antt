-- Whom the turn concerns was woken.
use Rattle.std.proofs.Common.{◌≡◌, ◌<◌, ◌⊎◌, inl, inr, Bool, ◌||◌, not, refl, sym, ◌∙◌, ap, subst, length, is_some, false, true, Some, slice_get, pos, negsuc}
use Rattle.run_desk.specs.Desk.{DeskState}
use Rattle.run_desk.specs.Turns.{desk_after_turn, pool_after_turn, CanTurn, seat_after, ends}
use Rattle.run_desk.specs.Telling as Telling
use Rattle.core_machine.specs.Floor.{FloorState, IsInUse}
use Rattle.core_machine.specs.Woken.{IsCovering, AreEndsIn, AreInside, IsWhole, IsStageIn}
use Rattle.core_machine.proofs.Outs.{covers_out}
use Rattle.run_desk.proofs.Lists.{changed_length}
use Rattle.core_machine.proofs.Plays.{links_inside, has_seat}
use Rattle.core_machine.proofs.floor.Floor.make_settling.Goals as goal

-- what is settled now was settled before, or those whom it concerns were woken
before_or_woken : {Now Woken : Type 0} (primer was : Bool) → primer ≡ was → (primer ≡ false → Now → Woken) → Now → (was ≡ true) ⊎ Woken
before_or_woken true was is woken now = inl (sym is)
before_or_woken false was is woken now = inr (woken refl now)

pub settled_before-before-requires : goal.settled_before-before-requires
settled_before-before-requires c =
    let i = c.self.inside in
    let v : ◌≡◌ {A = FloorState} (record { net = i.net; desk = i.desk; pool = i.pool; ready = i.ready }) c.args.self.now = c.self.view_is in
    has_seat i.net i.desk c.args.strand (subst (λ (f : FloorState). IsInUse f.net f.desk) (sym v) c.requires.used) (subst (λ (f : FloorState). c.args.strand < length f.net.strands) (sym v) c.requires.strand)

pub wake_ends-requires : goal.wake_ends-requires
wake_ends-requires c =
    let i = c.self.inside in
    let v : ◌≡◌ {A = FloorState} (record { net = i.net; desk = i.desk; pool = i.pool; ready = i.ready }) c.args.self.now = c.self.view_is in
    record {
      strand = has_seat i.net i.desk c.args.strand (subst (λ (f : FloorState). IsInUse f.net f.desk) (sym v) c.requires.used) (subst (λ (f : FloorState). c.args.strand < length f.net.strands) (sym v) c.requires.strand);
      wires = let used = subst (λ (f : FloorState). IsInUse f.net f.desk) (sym v) c.requires.used in used.kept.laid.wire_count ∙ ap length (sym c.as_slice.ensures);
      inside = subst (λ l. AreInside l i.ready.size) (sym c.as_slice.ensures) (links_inside i.net i.ready.size c.self.invariant.formed c.self.invariant.size);
    }

pub make-requires : goal.make-requires
make-requires c =
    let i = c.self.inside in
    let v : ◌≡◌ {A = FloorState} (record { net = i.net; desk = i.desk; pool = i.pool; ready = i.ready }) c.args.self.now = c.self.view_is in
    record {
      strand = has_seat i.net i.desk c.args.strand (subst (λ (f : FloorState). IsInUse f.net f.desk) (sym v) c.requires.used) (subst (λ (f : FloorState). c.args.strand < length f.net.strands) (sym v) c.requires.strand);
      can = subst (λ (f : FloorState). CanTurn f.desk f.pool c.args.strand c.args.seen) (sym v) c.requires.can;
    }

pub wake_settled-requires : goal.wake_settled-requires
wake_settled-requires c =
    let i = c.self.inside in
    let v : ◌≡◌ {A = FloorState} (record { net = i.net; desk = i.desk; pool = i.pool; ready = i.ready }) c.args.self.now = c.self.view_is in
    let within = subst (λ (f : FloorState). c.args.strand < length f.net.strands) (sym v) c.requires.strand in
    let seat = has_seat i.net i.desk c.args.strand (subst (λ (f : FloorState). IsInUse f.net f.desk) (sym v) c.requires.used) within in
    record {
      strand = subst (λ n. c.args.strand < n) (sym (c.wake_ends.ensures.larger.0 ∙ c.self.invariant.size)) within;
      seat = subst (λ (z : DeskState). c.args.strand < length z.seats) (sym c.make.ensures.desk)
          (subst (λ n. c.args.strand < n) (sym (changed_length i.desk.seats (seat_after c.args.seen) (Some c.args.strand))) seat);
    }

pub invariant_of-self : goal.invariant_of-self
invariant_of-self c =
    let i = c.self.inside in
    let v : ◌≡◌ {A = FloorState} (record { net = i.net; desk = i.desk; pool = i.pool; ready = i.ready }) c.args.self.now = c.self.view_is in
    let used = subst (λ (f : FloorState). IsInUse f.net f.desk) (sym v) c.requires.used in
    let s = c.args.strand in
    let seen = c.args.seen in
    let can = subst (λ (f : FloorState). CanTurn f.desk f.pool s seen) (sym v) c.requires.can in
    let live = subst (λ (f : FloorState). Telling.ended_at f.desk s ≡ false) (sym v) c.requires.live in
    let d = i.desk in
    let new = c.wake_settled.new.ready in
    let before = c.settled_before-before in
    let made_is : c.make.new.self ≡ desk_after_turn d s seen = c.make.ensures.desk in
    let low_is : before.result.low ≡ (not (ends seen) || is_some (Telling.level_code d (negsuc 0))) =
    before.ensures.low ∙ ap (λ z. not z || is_some (Telling.level_code d (negsuc 0))) c.ends.ensures in
    let zero_is : before.result.zero ≡ (not (ends seen) || is_some (Telling.level_code d (pos 0))) =
    before.ensures.zero ∙ ap (λ z. not z || is_some (Telling.level_code d (pos 0))) c.ends.ensures in
    let stage = subst (λ (z : DeskState). before.result.primer ≡ false → is_some (Telling.primed_of (slice_get z.seats s)) ≡ true → IsStageIn z s new) made_is c.wake_settled.ensures.stage in
    let fills_low = subst (λ (z : DeskState). before.result.low ≡ false → is_some (Telling.level_code z (negsuc 0)) ≡ true → IsWhole new) made_is c.wake_settled.ensures.low in
    let fills_zero = subst (λ (z : DeskState). before.result.zero ≡ false → is_some (Telling.level_code z (pos 0)) ≡ true → IsWhole new) made_is c.wake_settled.ensures.zero in
    let woken = subst (λ l. AreEndsIn d l s seen c.wake_ends.new.ready) c.as_slice.ensures c.wake_ends.ensures.ends in
    record {
      formed = c.self.invariant.formed;
      size = c.wake_settled.ensures.larger.0 ∙ c.wake_ends.ensures.larger.0 ∙ c.self.invariant.size;
      covers = subst (λ (z : DeskState). IsCovering z new) (sym made_is)
          (covers_out i.net d c.self.invariant.formed used i.pool s seen i.ready c.wake_ends.new.ready new
          before.result.low before.result.zero c.self.invariant.size can live
          c.wake_ends.ensures.larger woken c.wake_settled.ensures.larger low_is zero_is
          (before_or_woken before.result.primer (is_some (Telling.primed_of (slice_get d.seats s))) before.ensures.primer stage) fills_low fills_zero c.self.invariant.covers);
    }

pub returns-clause-net : goal.returns-clause-net
returns-clause-net c =
    let i = c.self.inside in
    let v : ◌≡◌ {A = FloorState} (record { net = i.net; desk = i.desk; pool = i.pool; ready = i.ready }) c.args.self.now = c.self.view_is in
    ap (λ (f : FloorState). f.net) v

pub returns-clause-desk : goal.returns-clause-desk
returns-clause-desk c =
    let i = c.self.inside in
    let v : ◌≡◌ {A = FloorState} (record { net = i.net; desk = i.desk; pool = i.pool; ready = i.ready }) c.args.self.now = c.self.view_is in
    c.make.ensures.desk ∙ ap (λ (f : FloorState). desk_after_turn f.desk c.args.strand c.args.seen) v

pub returns-clause-pool : goal.returns-clause-pool
returns-clause-pool c =
    let i = c.self.inside in
    let v : ◌≡◌ {A = FloorState} (record { net = i.net; desk = i.desk; pool = i.pool; ready = i.ready }) c.args.self.now = c.self.view_is in
    c.make.ensures.pool ∙ ap (λ (f : FloorState). pool_after_turn f.desk f.pool c.args.strand c.args.seen) v

pub returns-clause-awake : goal.returns-clause-awake
returns-clause-awake c =
    let i = c.self.inside in
    let v : ◌≡◌ {A = FloorState} (record { net = i.net; desk = i.desk; pool = i.pool; ready = i.ready }) c.args.self.now = c.self.view_is in
    λ k may. c.wake_settled.ensures.larger.1 c.args.strand (c.wake_ends.ensures.larger.1 c.args.strand (c.self.invariant.covers c.args.strand k (subst (λ (f : FloorState). is_some (Telling.seen_at f.desk c.args.strand k) ≡ true) (sym v) may)))
