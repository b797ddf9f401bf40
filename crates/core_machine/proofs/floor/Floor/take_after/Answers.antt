-- The set goes on covering the strands that may go on, where it has who wrote the record, and that puts it next where it stands before the strand.
use Rattle.std.proofs.Common.{◌≡◌, ◌<◌, length, Some, List, false, refl, sym, ◌∙◌, ap, subst, is_some, slice_get, slice_index_or}
use Rattle.pipe_model.specs.declared.net.Link.{Link}
use Rattle.pipe_model.specs.declared.step.Want.TheVariants.{Take, Read}
use Rattle.pipe_model.specs.declared.step.Seen.TheVariants.{Took}
use Rattle.run_desk.specs.Desk.{DoorsState, DeskState}
use Rattle.run_desk.specs.Passing.{desk_taking, desk_passed, pool_passed}
use Rattle.run_desk.specs.Turns.{desk_after_turn, pool_after_turn}
use Rattle.run_desk.specs.Telling as Telling
use Rattle.run_desk.proofs.Makes.{doors_moved}
use Rattle.core_machine.specs.Ahead.{HasGoneQuietly, HasSeenOrPut}
use Rattle.core_machine.specs.Floor.{FloorState, IsInUse, CanMake, StaysEarly}
use Rattle.core_machine.specs.Members.{is_member}
use Rattle.core_machine.specs.Woken.{IsCovering, LeastEventAwake, may_settle}
use Rattle.core_machine.proofs.Plays.{links_inside}
use Rattle.core_machine.proofs.Relays.{none, link_of, larger_with, same_link, covers_taking, gone_taking}
use Rattle.core_machine.proofs.floor.Floor.take_after.Goals as goal

pub take_after-requires-clause-can : goal.take_after-requires-clause-can
take_after-requires-clause-can c =
    let i = c.self.inside in
    let v : ◌≡◌ {A = FloorState} (record { net = i.net; desk = i.desk; pool = i.pool; ready = i.ready }) c.args.self.now = c.self.view_is in
    let can = subst (λ (f : FloorState). CanMake f.net f.desk f.pool c.args.strand c.args.seen) (sym v) c.requires.can in
    let takes = subst (λ (f : FloorState). CanMake f.net (desk_taking f.desk c.args.strand c.args.seen c.args.i) (pool_after_turn f.desk f.pool c.args.strand c.args.seen) c.args.strand (Took c.args.i))
    (sym v) c.requires.takes in
    (can.can, takes.can)

pub insert-requires : goal.insert-requires
insert-requires c =
    let i = c.self.inside in
    let v : ◌≡◌ {A = FloorState} (record { net = i.net; desk = i.desk; pool = i.pool; ready = i.ready }) c.args.self.now = c.self.view_is in
    let can = subst (λ (f : FloorState). CanMake f.net f.desk f.pool c.args.strand c.args.seen) (sym v) c.requires.can in
    let inside = subst (λ m. c.args.from < m) can.used.kept.laid.wire_count (subst (λ (f : FloorState). c.args.from < length f.desk.wires) (sym v) c.requires.there) in
    let at = link_of i.net.links c.as_slice.result.now c.args.from c.as_slice.ensures inside in
    (links_inside i.net i.ready.size c.self.invariant.formed c.self.invariant.size c.args.from (slice_index_or c.as_slice.result.now c.args.from none) at).0

pub invariant_of-self : goal.invariant_of-self
invariant_of-self c =
    let i = c.self.inside in
    let v : ◌≡◌ {A = FloorState} (record { net = i.net; desk = i.desk; pool = i.pool; ready = i.ready }) c.args.self.now = c.self.view_is in
    let s = c.args.strand in
    let seen = c.args.seen in
    let can = subst (λ (f : FloorState). CanMake f.net f.desk f.pool s seen) (sym v) c.requires.can in
    let quiet = subst (λ (f : FloorState). may_settle f.desk s seen ≡ false) (sym v) c.requires.quiet in
    let awake = subst (λ (f : FloorState). LeastEventAwake f.desk (Some (s, c.requires.awake.0, seen))) (sym v) c.requires.awake.1 in
    let told = subst (λ (f : FloorState). HasSeenOrPut f.net f.desk s seen) (sym v) c.requires.told in
    let used = subst (λ (f : FloorState). IsInUse f.net (desk_after_turn f.desk s seen)) (sym v) c.requires.used in
    let early = subst (λ (f : FloorState). StaysEarly (desk_after_turn f.desk s seen) (pool_after_turn f.desk f.pool s seen) s (Take c.args.i)) (sym v) c.requires.early in
    let takes = subst (λ (f : FloorState). CanMake f.net (desk_taking f.desk s seen c.args.i) (pool_after_turn f.desk f.pool s seen) s (Took c.args.i)) (sym v) c.requires.takes in
    let used_last = subst (λ (f : FloorState). IsInUse f.net (desk_after_turn (desk_taking f.desk s seen c.args.i) s (Took c.args.i))) (sym v) c.requires.used_last in
    let early_last = subst (λ (f : FloorState). StaysEarly (desk_after_turn (desk_taking f.desk s seen c.args.i) s (Took c.args.i)) (pool_passed f.desk f.pool s seen c.args.i) s (Read c.args.i))
    (sym v) c.requires.early_last in
    let passed : c.take_after.new.self ≡ desk_passed i.desk s seen c.args.i = c.take_after.ensures.desk in
    let j = c.args.from in
    let door : Telling.in_door (desk_taking i.desk s seen c.args.i) s c.args.i ≡ Some j =
    ap (λ (z : List DoorsState). Telling.joined (slice_get (Telling.inputs_of (slice_get z s)) c.args.i)) (doors_moved i.desk s seen)
    ∙ subst (λ (f : FloorState). Telling.in_door f.desk s c.args.i ≡ Some j) (sym v) c.requires.from in
    let inside = subst (λ m. j < m) can.used.kept.laid.wire_count (subst (λ (f : FloorState). j < length f.desk.wires) (sym v) c.requires.there) in
    let at = link_of i.net.links c.as_slice.result.now j c.as_slice.ensures inside in
    let link = slice_index_or c.as_slice.result.now j none in
    let new = c.insert.new.self in
    let larger = larger_with i.ready new link.from c.insert.ensures.here c.insert.ensures.others in
    record {
      formed = c.self.invariant.formed;
      size = c.insert.ensures.size ∙ c.self.invariant.size;
      covers = subst (λ (z : DeskState). IsCovering z new) (sym passed) (covers_taking i.net i.desk c.self.invariant.formed i.pool s seen c.args.i takes used_last early_last can quiet told used early
          new (c.insert.ensures.size ∙ c.self.invariant.size) (larger s (c.self.invariant.covers s c.requires.awake.0 (ap is_some awake.1)))
          (λ other l. ap (λ (z : Link). is_member new z.from) (same_link i.net.links (Telling.in_door (desk_taking i.desk s seen c.args.i) s c.args.i) j link other door at l)
          ∙ c.insert.ensures.here) (λ t k may. larger t (c.self.invariant.covers t k may)));
    }

pub returns-clause-ahead : goal.returns-clause-ahead
returns-clause-ahead c =
    let i = c.self.inside in
    let v : ◌≡◌ {A = FloorState} (record { net = i.net; desk = i.desk; pool = i.pool; ready = i.ready }) c.args.self.now = c.self.view_is in
    let s = c.args.strand in
    let seen = c.args.seen in
    let takes = subst (λ (f : FloorState). CanMake f.net (desk_taking f.desk s seen c.args.i) (pool_after_turn f.desk f.pool s seen) s (Took c.args.i)) (sym v) c.requires.takes in
    let used_last = subst (λ (f : FloorState). IsInUse f.net (desk_after_turn (desk_taking f.desk s seen c.args.i) s (Took c.args.i))) (sym v) c.requires.used_last in
    let early_last = subst (λ (f : FloorState). StaysEarly (desk_after_turn (desk_taking f.desk s seen c.args.i) s (Took c.args.i)) (pool_passed f.desk f.pool s seen c.args.i) s (Read c.args.i))
    (sym v) c.requires.early_last in
    let least = subst (λ (f : FloorState). LeastEventAwake (desk_taking f.desk s seen c.args.i) (Some (s, c.requires.least.0, Took c.args.i))) (sym v) c.requires.least.1 in
    let before = desk_taking i.desk s seen c.args.i in
    let pool = pool_after_turn i.desk i.pool s seen in
    let gone = subst (λ z. HasGoneQuietly i.net before pool s c.requires.least.0 (Took c.args.i) (Read c.args.i) z c.take_after.new.pool) (sym c.take_after.ensures.desk)
    (subst (λ z. HasGoneQuietly i.net before pool s c.requires.least.0 (Took c.args.i) (Read c.args.i) (desk_passed i.desk s seen c.args.i) z) (sym c.take_after.ensures.pool)
    (gone_taking i.net i.desk c.self.invariant.formed i.pool s seen c.args.i takes used_last early_last c.requires.least.0 least)) in
    let door : Telling.in_door c.take_after.new.self s c.args.i ≡ Some c.args.from =
    ap (λ (z : DeskState). Telling.in_door z s c.args.i) c.take_after.ensures.desk
    ∙ ap (λ (z : List DoorsState). Telling.joined (slice_get (Telling.inputs_of (slice_get z s)) c.args.i)) (doors_moved i.desk s seen)
    ∙ subst (λ (f : FloorState). Telling.in_door f.desk s c.args.i ≡ Some c.args.from) (sym v) c.requires.from in
    let can = subst (λ (f : FloorState). CanMake f.net f.desk f.pool s seen) (sym v) c.requires.can in
    let inside = subst (λ m. c.args.from < m) can.used.kept.laid.wire_count (subst (λ (f : FloorState). c.args.from < length f.desk.wires) (sym v) c.requires.there) in
    let at = link_of i.net.links c.as_slice.result.now c.args.from c.as_slice.ensures inside in
    c.ahead_of_take_on.ensures before pool c.requires.least.0 c.args.i c.args.from (Read c.args.i) gone door at refl (λ o writes. writes)
