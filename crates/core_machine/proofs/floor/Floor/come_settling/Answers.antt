-- It settled nothing for others but where they were woken.
use Rattle.std.proofs.Common.{◌≡◌, ◌<◌, ◌||◌, not, refl, sym, ◌∙◌, ap, subst, length, is_some, true, false, pos, negsuc}
use Rattle.run_desk.specs.Desk.{DeskState}
use Rattle.run_desk.specs.Turns.{HasCome}
use Rattle.run_desk.specs.Telling as Telling
use Rattle.core_machine.specs.Floor.{FloorState, IsInUse, StaysEarly}
use Rattle.core_machine.specs.Members.{is_member}
use Rattle.core_machine.specs.Woken.{IsCovering, commits}
use Rattle.core_machine.proofs.Homes.{covers_home, no_reader, seats_home}
use Rattle.core_machine.proofs.Plays.{has_seat}
use Rattle.core_machine.proofs.floor.Floor.come_settling.Goals as goal

pub settled_before-before-requires : goal.settled_before-before-requires
settled_before-before-requires c =
    let i = c.self.inside in
    let v : ◌≡◌ {A = FloorState} (record { net = i.net; desk = i.desk; pool = i.pool; ready = i.ready }) c.args.self.now = c.self.view_is in
    has_seat i.net i.desk c.args.strand (subst (λ (f : FloorState). IsInUse f.net f.desk) (sym v) c.requires.used) (subst (λ (f : FloorState). c.args.strand < length f.net.strands) (sym v) c.requires.strand)

pub come_home-requires-clause-strand : goal.come_home-requires-clause-strand
come_home-requires-clause-strand c =
    let i = c.self.inside in
    let v : ◌≡◌ {A = FloorState} (record { net = i.net; desk = i.desk; pool = i.pool; ready = i.ready }) c.args.self.now = c.self.view_is in
    has_seat i.net i.desk c.args.strand (subst (λ (f : FloorState). IsInUse f.net f.desk) (sym v) c.requires.used) (subst (λ (f : FloorState). c.args.strand < length f.net.strands) (sym v) c.requires.strand)

pub wake_settled-requires : goal.wake_settled-requires
wake_settled-requires c =
    let i = c.self.inside in
    let v : ◌≡◌ {A = FloorState} (record { net = i.net; desk = i.desk; pool = i.pool; ready = i.ready }) c.args.self.now = c.self.view_is in
    let within = subst (λ (f : FloorState). c.args.strand < length f.net.strands) (sym v) c.requires.strand in
    let seat = has_seat i.net i.desk c.args.strand (subst (λ (f : FloorState). IsInUse f.net f.desk) (sym v) c.requires.used) within in
    record {
      strand = subst (λ n. c.args.strand < n) (sym (c.self.invariant.size)) within;
      seat = subst (λ n. c.args.strand < n) (sym (seats_home i.desk i.pool c.args.strand c.args.want.now c.come_home.new.self c.come_home.new.pool c.in_ok-come_home.ensures.home)) seat;
    }

pub invariant_of-self : goal.invariant_of-self
invariant_of-self c =
    let i = c.self.inside in
    let v : ◌≡◌ {A = FloorState} (record { net = i.net; desk = i.desk; pool = i.pool; ready = i.ready }) c.args.self.now = c.self.view_is in
    record {
      formed = c.self.invariant.formed;
      size = c.self.invariant.size;
      covers = subst (λ (z : DeskState). IsCovering z i.ready) (sym c.in_err-come_home.ensures.err) c.self.invariant.covers;
    }

pub invariant_of-self-2 : goal.invariant_of-self-2
invariant_of-self-2 c =
    let i = c.self.inside in
    let v : ◌≡◌ {A = FloorState} (record { net = i.net; desk = i.desk; pool = i.pool; ready = i.ready }) c.args.self.now = c.self.view_is in
    let used = subst (λ (f : FloorState). IsInUse f.net f.desk) (sym v) c.requires.used in
    let s = c.args.strand in
    let d = i.desk in
    let w = c.args.want.now in
    let here = subst (λ (f : FloorState). is_member f.ready s ≡ true) (sym v) c.requires.here in
    let early = subst (λ (f : FloorState). StaysEarly f.desk f.pool s w) (sym v) c.requires.early in
    let before = c.settled_before-before in
    let come : HasCome d i.pool s w c.come_home.new.self c.come_home.new.pool = c.in_ok-come_home.ensures.home in
    let low_is : before.result.low ≡ (not (commits w) || is_some (Telling.level_code d (negsuc 0))) =
    before.ensures.low ∙ ap (λ z. not z || is_some (Telling.level_code d (negsuc 0))) (sym c.requires.commits) in
    let zero_is : before.result.zero ≡ (not (commits w) || is_some (Telling.level_code d (pos 0))) =
    before.ensures.zero ∙ ap (λ z. not z || is_some (Telling.level_code d (pos 0))) (sym c.requires.commits) in
    let larger = c.wake_settled.ensures.larger in
    record {
      formed = c.self.invariant.formed;
      size = larger.0 ∙ c.self.invariant.size;
      covers = covers_home i.net d c.come_home.new.self c.self.invariant.formed used (early c.come_home.new.self c.come_home.new.pool come) i.pool c.come_home.new.pool s w
          i.ready i.ready c.wake_settled.new.ready before.result.low before.result.zero c.self.invariant.size come
          (refl, λ t held. held) here (no_reader d i.net.links s w i.ready (λ o out is. let off : false ≡ true = sym (ap commits is) ∙ c.requires.commits in absurd (let q : ⊥ = cc in q))) larger
          low_is zero_is c.wake_settled.ensures.low c.wake_settled.ensures.zero c.self.invariant.covers;
    }
