-- What is known is what the link at the output tells.
use Rattle.std.proofs.Common.{◌≡◌, ◌<◌, Some, sym, subst, slice_get, slice_index_or}
use Rattle.run_desk.specs.Telling as Telling
use Rattle.core_machine.specs.Floor.{FloorState, IsInUse}
use Rattle.core_machine.proofs.Relays.{none, link_of}
use Rattle.core_machine.proofs.floor.Floor.ahead_of_offer.Goals as goal

pub ahead_of_offer_on-requires-clause-its : goal.ahead_of_offer_on-requires-clause-its
ahead_of_offer_on-requires-clause-its c =
    let i = c.self.inside in
    let v : ◌≡◌ {A = FloorState} (record { net = i.net; desk = i.desk; pool = i.pool; ready = i.ready }) c.args.self.now = c.self.view_is in
    let j = c.in-Some.link in
    let used = subst (λ (f : FloorState). IsInUse f.net f.desk) (sym v) c.requires.used in
    let at = link_of i.net.links c.as_slice.result.now j c.as_slice.ensures (subst (λ m. j < m) used.kept.laid.wire_count c.in-Some.ensures.there) in
    subst (λ (f : FloorState). slice_get f.net.links j ≡ Some (slice_index_or c.as_slice.result.now j none)) v at

pub returns-in-Some : goal.returns-in-Some
returns-in-Some c = λ d pool k seen asked gone told writes.
    let i = c.self.inside in
    let v : ◌≡◌ {A = FloorState} (record { net = i.net; desk = i.desk; pool = i.pool; ready = i.ready }) c.args.self.now = c.self.view_is in
    let door = subst (λ (f : FloorState). Telling.out_door f.desk c.args.strand c.args.o ≡ Some c.in-Some.link) v (sym c.in-Some.ensures.door) in
    c.ahead_of_offer_on.ensures d pool k seen c.args.o asked gone told writes door
