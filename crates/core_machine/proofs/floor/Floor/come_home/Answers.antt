-- A strand that neither writes nor asks for a commit level settles nothing for others.
use Rattle.std.proofs.Common.{◌≡◌, ◌<◌, length, ◌||◌, not, refl, sym, ap, subst, is_some, true, false, pos, negsuc}
use Rattle.run_desk.specs.Turns.{CanCome, HasCome}
use Rattle.run_desk.specs.Telling as Telling
use Rattle.core_machine.specs.Floor.{FloorState, IsInUse, StaysEarly}
use Rattle.core_machine.specs.Members.{is_member}
use Rattle.core_machine.specs.Woken.{commits}
use Rattle.core_machine.proofs.Plays.{has_seat}
use Rattle.core_machine.proofs.Homes.{covers_home, no_commit, no_reader}
use Rattle.core_machine.proofs.floor.Floor.come_home.Goals as goal

pub come_home-requires : goal.come_home-requires
come_home-requires c =
    let i = c.self.inside in
    let v : ◌≡◌ {A = FloorState} (record { net = i.net; desk = i.desk; pool = i.pool; ready = i.ready }) c.args.self.now = c.self.view_is in
    record {
      strand = has_seat i.net i.desk c.args.strand (subst (λ (f : FloorState). IsInUse f.net f.desk) (sym v) c.requires.used) (subst (λ (f : FloorState). c.args.strand < length f.net.strands) (sym v) c.requires.strand);
      can = subst (λ (f : FloorState). CanCome f.desk f.pool c.args.strand c.args.want.now) (sym v) (c.requires.can c.if-has_ended.false);
    }

pub invariant_of-self-in_default : goal.invariant_of-self-in_default
invariant_of-self-in_default c =
    let i = c.self.inside in
    let v : ◌≡◌ {A = FloorState} (record { net = i.net; desk = i.desk; pool = i.pool; ready = i.ready }) c.args.self.now = c.self.view_is in
    let used = subst (λ (f : FloorState). IsInUse f.net f.desk) (sym v) c.requires.used in
    let s = c.args.strand in
    let d = i.desk in
    let w = c.args.want.now in
    let here = subst (λ (f : FloorState). is_member f.ready s ≡ true) (sym v) c.requires.here in
    let early = subst (λ (f : FloorState). StaysEarly f.desk f.pool s w) (sym v) (c.requires.early c.if-has_ended.false) in
    let plain : commits w ≡ false = no_commit w c.in_default.not-Commit in
    let come : HasCome d i.pool s w c.come_home.new.self c.come_home.new.pool = c.in_ok-come_home-in_default.ensures.home in
    let low_is : true ≡ (not (commits w) || is_some (Telling.level_code d (negsuc 0))) = sym (ap (λ z. not z || is_some (Telling.level_code d (negsuc 0))) plain) in
    let zero_is : true ≡ (not (commits w) || is_some (Telling.level_code d (pos 0))) = sym (ap (λ z. not z || is_some (Telling.level_code d (pos 0))) plain) in
    record {
      formed = c.self.invariant.formed;
      size = c.self.invariant.size;
      covers = covers_home i.net d c.come_home.new.self c.self.invariant.formed used (early c.come_home.new.self c.come_home.new.pool come) i.pool c.come_home.new.pool s w
          i.ready i.ready i.ready true true c.self.invariant.size come (refl, λ t held. held) here (no_reader d i.net.links s w i.ready c.in_default.not-Write) (refl, λ t held. held)
          low_is zero_is (λ no held. absurd (let q : ⊥ = cc in q)) (λ no held. absurd (let q : ⊥ = cc in q)) c.self.invariant.covers;
    }
